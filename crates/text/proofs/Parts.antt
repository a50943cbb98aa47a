-- The two parts of a word, from where its first mark is.
use Rattle.std.proofs.Common.{◌≡◌, ℕ, ◌+◌, ◌-◌, ◌<◌, ◌≤◌, ◌≢◌, eqb, List, [], ◌∷◌, ◌++◌, length, get_or, take, drop, Some, None, sym, refl, ap, ◌∙◌, subst, arith}
use Rattle.std.specs.Option.{option_map}
use Rattle.std.specs.List.{AllWithin}
use Rattle.std.proofs.lemmas.List.{drop_more, take-append-drop, take_rest, get_or-take, length-take-le}
use Rattle.std.proofs.lemmas.List.Elements.{All-from_all_within, recursion_from_All}
use Rattle.std.proofs.lemmas.Bool.{cond-true, cond-false, eq-eqb, ne_eqb}
use Rattle.text.specs.Words.{parts_at, Without}

pub no_parts : (mark : ℕ) (w : List ℕ) → Without mark w → parts_at mark w ≡ None
unfolding parts_at
no_parts mark [] h = refl
no_parts mark (b ∷ bs) h = cond-false (eqb b mark) _ _ (ne_eqb b mark h.0) ∙ ap (option_map (λ p. (b ∷ p.0, p.1))) (no_parts mark bs h.1)

pub two_parts : (mark : ℕ) (front back : List ℕ) → Without mark front → parts_at mark (front ++ mark ∷ back) ≡ Some (front, back)
unfolding parts_at
two_parts mark [] back h = cond-true (eqb mark mark) _ _ (eq-eqb mark mark refl)
two_parts mark (b ∷ bs) back h = cond-false (eqb b mark) _ _ (ne_eqb b mark h.0) ∙ ap (option_map (λ p. (b ∷ p.0, p.1))) (two_parts mark bs back h.1)

-- front and back are the parts of the word at its first mark
pub record Cut (mark : ℕ) (w front back : List ℕ) : Type 0 where
  pub whole : w ≡ front ++ mark ∷ back
  pub first : Without mark front

pub none_before : (mark : ℕ) (w : List ℕ) (i : ℕ) → i ≤ length w → AllWithin (λ b. b ≢ mark) w 0 i → Without mark (take i w)
none_before mark w i l h =
    let n : length (take i w) ≡ i = length-take-le i w l in
    recursion_from_All (λ b. b ≢ mark) (take i w) (All-from_all_within (λ b. b ≢ mark) (take i w) (λ k d lo hi. let within : k < i = omega arith in subst (λ b. b ≢ mark) (sym (get_or-take i w k d within)) (h k d lo within)))

pub cut_at : (mark : ℕ) (w : List ℕ) (i : ℕ) → i < length w → get_or w i 0 ≡ mark → Without mark (take i w) → Cut mark w (take i w) (take (length w - (i + 1)) (drop (i + 1) w))
cut_at mark w i l e passed =
    let cut : w ≡ take i w ++ mark ∷ drop (i + 1) w = sym (take-append-drop i w) ∙ ap (λ bs. take i w ++ bs) (drop_more w i 0 l ∙ ap (λ b. b ∷ drop (i + 1) w) e) in
    subst (Cut mark w (take i w)) (sym (take_rest w (i + 1))) (record { whole = cut; first = passed })

pub found : (mark : ℕ) (w front back : List ℕ) → Cut mark w front back → Some (front, back) ≡ parts_at mark w
found mark w front back h = sym (ap (parts_at mark) h.whole ∙ two_parts mark front back h.first)
