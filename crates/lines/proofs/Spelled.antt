-- A word that is matched letter by letter.
use Rattle.std.proofs.Common.{◌≡◌, ℕ, ◌+◌, List, [], ◌∷◌, length, get_or, drop, ap, ◌∙◌, arith}
use Rattle.std.proofs.lemmas.List.{drop_more, drop_all}

-- from a place on, the word has these letters
abbrev pub Spells : List ℕ → ℕ → List ℕ → Type 0
Spells w i [] = Unit {0}
Spells w i (b ∷ bs) = (get_or w i 0 ≡ b) × Spells w (i + 1) bs

spelled : (w : List ℕ) (i : ℕ) (bs : List ℕ) → length w ≡ i + length bs → Spells w i bs → drop i w ≡ bs
spelled w i [] n h = drop_all i w (omega arith)
spelled w i (b ∷ bs) n h = drop_more w i 0 (omega arith) ∙ ap (λ x. x ∷ drop (i + 1) w) h.0 ∙ ap (λ l. b ∷ l) (spelled w (i + 1) bs (omega arith) h.1)

pub spelled_name : (w name : List ℕ) → length w ≡ length name → Spells w 0 name → w ≡ name
spelled_name w name n h = spelled w 0 name (omega (arith, n)) h
