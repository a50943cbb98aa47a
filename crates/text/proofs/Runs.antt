-- The words of a line by the parts between its separators, and that they are its longest runs.
use Rattle.std.proofs.Common.{◌≡◌, ℕ, ◌<◌, Bool, true, false, not, eqb, List, [], ◌∷◌, ◌++◌, length, sym, refl, ap, ◌∙◌, subst, append_assoc, append-nil, arith}
use Rattle.std.specs.List.{AllByRecursion, filter, slice_split, onto_first}
use Rattle.std.proofs.ByRecursion.{All-push}
use Rattle.std.proofs.lemmas.Bool.{cond_both, cond-true, cond-false, ne_eqb}
use Rattle.text.specs.Words.{separates, ended, words_after, words_of, Words}

pub ended_some : (w : List ℕ) → 0 < length w → ended w ≡ w ∷ []
ended_some [] l = absurd (omega arith)
ended_some (b ∷ bs) l = refl

-- the words are the parts between separators that have a byte
abbrev pub has_byte : List ℕ → Bool
has_byte [] = false
has_byte (b ∷ bs) = true

pub has_byte_is : (w : List ℕ) → not (eqb (length w) 0) ≡ has_byte w
has_byte_is [] = refl
has_byte_is (b ∷ bs) = ap not (ne_eqb (length (b ∷ bs)) 0 (λ e. omega arith))

-- the first of some parts, behind the bytes of a word that has begun
abbrev behind : List ℕ → List (List ℕ) → List (List ℕ)
behind [] parts = parts
behind (x ∷ xs) parts = onto_first x (behind xs parts)

behind_first : (begun : List ℕ) (parts : List (List ℕ)) → behind begun ([] ∷ parts) ≡ begun ∷ parts
behind_first [] parts = refl
behind_first (x ∷ xs) parts = ap (onto_first x) (behind_first xs parts)

behind_more : (begun : List ℕ) (b : ℕ) (parts : List (List ℕ)) → behind (begun ++ b ∷ []) parts ≡ behind begun (onto_first b parts)
behind_more [] b parts = refl
behind_more (x ∷ xs) b parts = ap (onto_first x) (behind_more xs b parts)

ended_part : (begun : List ℕ) (parts : List (List ℕ)) → filter has_byte (begun ∷ parts) ≡ ended begun ++ filter has_byte parts
ended_part [] parts = refl
ended_part (x ∷ xs) parts = refl

parts_after : (begun bs : List ℕ) → filter has_byte (behind begun (slice_split separates bs)) ≡ words_after begun bs
parts_after begun [] = ap (filter has_byte) (behind_first begun []) ∙ ended_part begun [] ∙ append-nil (ended begun)
parts_after begun (b ∷ bs) =
    cond_both (separates b) _ _ (λ parts. filter has_byte (behind begun parts) ≡ words_after begun (b ∷ bs))
    (λ e. ap (filter has_byte) (behind_first begun (slice_split separates bs)) ∙ ended_part begun (slice_split separates bs) ∙ ap (λ ws. ended begun ++ ws) (parts_after [] bs) ∙ sym (cond-true (separates b) _ _ e))
    (λ e. ap (filter has_byte) (sym (behind_more begun b (slice_split separates bs))) ∙ parts_after (begun ++ b ∷ []) bs ∙ sym (cond-false (separates b) _ _ e))

pub parts_are_words : (line : List ℕ) → filter has_byte (slice_split separates line) ≡ words_of line
unfolding words_of
parts_are_words line = parts_after [] line

-- a separator in front changes no word
skip : (b : ℕ) (bs : List ℕ) (ws : List (List ℕ)) → separates b ≡ true → Words bs ws → Words (b ∷ bs) ws
skip b bs [] e h = (e, h)
skip b bs (w ∷ ws) e h = (b ∷ h.0, h.1, ap (λ l. b ∷ l) h.2, (e, h.3), h.4, h.5, h.6)

at_separator : (begun : List ℕ) (b : ℕ) (bs : List ℕ) (ws : List (List ℕ)) → AllByRecursion (λ x. separates x ≡ false) begun → separates b ≡ true → Words bs ws → Words (begun ++ b ∷ bs) (ended begun ++ ws)
at_separator [] b bs ws o e h = skip b bs ws e h
at_separator (x ∷ xs) b bs ws o e h = ([], b ∷ bs, refl, tt, (omega arith, o), e, skip b bs ws e h)

runs_after : (begun bs : List ℕ) → AllByRecursion (λ x. separates x ≡ false) begun → Words (begun ++ bs) (words_after begun bs)
runs_after [] [] o = tt
runs_after (x ∷ xs) [] o = ([], [], refl, tt, (omega arith, o), tt, tt)
runs_after begun (b ∷ bs) o =
    cond_both (separates b) _ _ (λ ws. Words (begun ++ b ∷ bs) ws)
    (λ e. at_separator begun b bs (words_after [] bs) o e (runs_after [] bs tt))
    (λ e. subst (λ l. Words l (words_after (begun ++ b ∷ []) bs)) (append_assoc begun (b ∷ []) bs) (runs_after (begun ++ b ∷ []) bs (All-push (λ x. separates x ≡ false) begun b o e)))

pub words_run : (line : List ℕ) → Words line (words_of line)
unfolding words_of
words_run line = runs_after [] line tt
