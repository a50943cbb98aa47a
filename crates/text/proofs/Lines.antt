-- The steps of the loops that show a word and a line, and the words of a line that was shown.
use Rattle.std.proofs.Common.{◌≡◌, ℕ, ◌+◌, ◌<◌, false, ◌&&◌, leb, List, [], ◌∷◌, ◌++◌, map, length, get_or, take, sym, refl, ap, ◌∙◌, append_assoc, append-nil, arith, Bor}
use Rattle.std.specs.List.{flat_map, AllByRecursion}
use Rattle.std.proofs.lemmas.List.{map_more, flat_map_more, length-map, length-take-le}
use Rattle.std.proofs.lemmas.Bool.{cond_both, cond-false}
use Rattle.text.specs.Printable.{printable_byte, printable_word, spaced, printable_line}
use Rattle.text.specs.Words.{separates, words_after, words_of, lent, Word}
use Rattle.text.proofs.Runs.{ended_some}

pub shown_none : printable_line [] ≡ []
unfolding printable_line
shown_none = refl

shown_first : (w : List ℕ) → printable_line (w ∷ []) ≡ printable_word w
unfolding printable_line
shown_first w = append-nil (printable_word w)

shown_push : (ws : List (List ℕ)) (w : List ℕ) → 0 < length ws → printable_line (ws ++ w ∷ []) ≡ printable_line ws ++ spaced w
unfolding printable_line
shown_push [] w l = absurd (omega arith)
shown_push (v ∷ vs) w l = sym (flat_map_more spaced (printable_word v) vs w)

-- one more word of a line, the first and any other
module _ (ws : List (Bor (List ℕ))) (i : ℕ) (d : Bor (List ℕ)) (l : i < length ws) (old new : List ℕ) (o : old ≡ printable_line (lent (take i ws))) where
  pub first_word : (mid : List ℕ) → i ≡ 0 → mid ≡ old → new ≡ mid ++ printable_word (get_or ws i d).now → new ≡ printable_line (lent (take (i + 1) ws))
  first_word mid e m n =
      let none : lent (take i ws) ≡ [] = ap (λ k. lent (take k ws)) e in
      let w : List ℕ = (get_or ws i d).now in
      n ∙ ap (λ bs. bs ++ printable_word w) (m ∙ o ∙ ap printable_line none ∙ shown_none) ∙ sym (shown_first w) ∙ ap printable_line (ap (λ vs. vs ++ w ∷ []) (sym none) ∙ sym (map_more (λ x. x.now) ws i d l))

  pub next_word : (mid : List ℕ) → 0 < i → mid ≡ old ++ 32 ∷ [] → new ≡ mid ++ printable_word (get_or ws i d).now → new ≡ printable_line (lent (take (i + 1) ws))
  next_word mid more m n =
      let w : List ℕ = (get_or ws i d).now in
      let some : 0 < length (lent (take i ws)) = omega (arith, length-map (take i ws) (λ x. x.now), length-take-le i ws (omega arith)) in
      n ∙ ap (λ bs. bs ++ printable_word w) m ∙ append_assoc old (32 ∷ []) (printable_word w) ∙ ap (λ bs. bs ++ spaced w) o ∙ sym (shown_push (lent (take i ws)) w some) ∙ ap printable_line (sym (map_more (λ x. x.now) ws i d l))

-- what separates nothing separates nothing as it is shown
solid : (b : ℕ) → separates b ≡ false → separates (printable_byte b) ≡ false
solid b e = cond_both (leb 32 b && leb b 126) b 63 (λ x. separates x ≡ false) (λ _. e) (λ _. refl)

goes_on : (begun w rest : List ℕ) → AllByRecursion (λ b. separates b ≡ false) w → words_after begun (printable_word w ++ rest) ≡ words_after (begun ++ printable_word w) rest
goes_on begun [] rest h = ap (λ bs. words_after bs rest) (sym (append-nil begun))
goes_on begun (b ∷ bs) rest h =
    cond-false (separates (printable_byte b)) _ _ (solid b h.0) ∙ goes_on (begun ++ printable_byte b ∷ []) bs rest h.1 ∙ ap (λ x. words_after x rest) (append_assoc begun (printable_byte b ∷ []) (printable_word bs))

again : (w : List ℕ) (ws : List (List ℕ)) → Word w → AllByRecursion Word ws → words_after (printable_word w) (flat_map spaced ws) ≡ map printable_word (w ∷ ws)
again w [] h hs = ended_some (printable_word w) (omega (arith, h.0, length-map w printable_byte))
again w (v ∷ vs) h hs =
    ap (λ ws. ws ++ words_after [] (printable_word v ++ flat_map spaced vs)) (ended_some (printable_word w) (omega (arith, h.0, length-map w printable_byte))) ∙ ap (λ ws. printable_word w ∷ ws) (goes_on [] v (flat_map spaced vs) hs.0.1 ∙ again v vs hs.0 hs.1)

-- a line that is shown has the same words, as they are shown
pub words_again : (ws : List (List ℕ)) → AllByRecursion Word ws → words_of (printable_line ws) ≡ map printable_word ws
unfolding words_of printable_line
words_again [] h = refl
words_again (w ∷ ws) h = goes_on [] w (flat_map spaced ws) h.0.1 ∙ again w ws h.0 h.1
