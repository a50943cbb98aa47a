-- The words of a line, and the two parts of a word.
use Rattle.std.specs.Borrow.{Bor}
use Rattle.std.specs.Prelude.{◌≡◌, ℕ, ◌<◌, Bool, true, false, cond, ◌||◌, List, [], ◌∷◌, ◌++◌, map, length, Some, None, Option, ◌==◌, ◌≢◌}
use Rattle.std.specs.Option.{option_map}
use Rattle.std.specs.List.{AllByRecursion}

-- words are parted by spaces, tabs and carriage returns
abbrev pub separates : ℕ → Bool
separates b = b == 32 || (b == 9 || b == 13)

-- the bytes of a word that ends, as a list of words: no bytes are no word
abbrev pub ended : List ℕ → List (List ℕ)
ended [] = []
ended (b ∷ bs) = (b ∷ bs) ∷ []

-- the words of what is left of a line, after the bytes of a word that has begun
abbrev pub words_after : List ℕ → List ℕ → List (List ℕ)
words_after begun [] = ended begun
words_after begun (b ∷ bs) = cond (separates b) (ended begun ++ words_after [] bs) (words_after (begun ++ b ∷ []) bs)

-- the words of a line
unfoldable pub words_of : List ℕ → List (List ℕ)
words_of line = words_after [] line

-- the words that are lent
abbrev pub lent : List (Bor (List ℕ)) → List (List ℕ)
lent ws = map (λ w. w.now) ws

-- a gap has only separators, and a word has none, and some byte
abbrev pub Gap : List ℕ → Type 0
Gap bs = AllByRecursion (λ b. separates b ≡ true) bs

abbrev pub Word : List ℕ → Type 0
Word bs = (0 < length bs) × AllByRecursion (λ b. separates b ≡ false) bs

-- the line ends here, or a separator comes
abbrev pub AtEnd : List ℕ → Type 0
AtEnd [] = Unit {0}
AtEnd (b ∷ bs) = separates b ≡ true

-- the words of a line are its longest runs of bytes that separate nothing, in order, with only gaps between them
abbrev pub Words : List ℕ → List (List ℕ) → Type 0
Words line [] = Gap line
Words line (w ∷ ws) = (gap : List ℕ) × (rest : List ℕ) × (line ≡ gap ++ (w ++ rest)) × Gap gap × Word w × AtEnd rest × Words rest ws

-- what stands before the first mark of a word and what stands behind it, if it has the mark
unfoldable pub parts_at : ℕ → List ℕ → Option (List ℕ × List ℕ)
parts_at mark [] = None
parts_at mark (b ∷ bs) = cond (b == mark) (Some ([], bs)) (option_map (λ p. (b ∷ p.0, p.1)) (parts_at mark bs))

-- no byte is the mark
abbrev pub Without : ℕ → List ℕ → Type 0
Without mark bs = AllByRecursion (λ b. b ≢ mark) bs

-- the two parts that are lent
abbrev pub lent_parts : Option (Bor (List ℕ) × Bor (List ℕ)) → Option (List ℕ × List ℕ)
lent_parts o = option_map (λ p. (p.0.now, p.1.now)) o
