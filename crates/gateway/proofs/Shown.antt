-- Bytes shown one after another.
use Rattle.std.proofs.Common.{◌≡◌, ℕ, suc, ◌+◌, ◌<◌, List, [], ◌∷◌, ◌++◌, length, get_or, take, sym, ap, ◌∙◌, append_assoc, append-nil, arith}
use Rattle.std.proofs.lemmas.List.{take_more, length-take-le}
use Rattle.hex_bytes.specs.Bytes.{hex_of}
use Rattle.gateway.specs.Texts.{gap_before, bytes_from, bytes_text}

bytes_push : (k : ℕ) (bs : List ℕ) (b : ℕ) → bytes_from k (bs ++ b ∷ []) ≡ (bytes_from k bs ++ gap_before (k + length bs)) ++ hex_of b
bytes_push k [] b = let e : k + 0 ≡ k = omega arith in ap (λ (x : List ℕ). gap_before k ++ x) (append-nil (hex_of b)) ∙ ap (λ (x : ℕ). gap_before x ++ hex_of b) (sym e)
bytes_push k (x ∷ bs) b =
    let n : k + 1 + length bs ≡ k + suc (length bs) = omega arith in
    ap (λ (r : List ℕ). gap_before k ++ (hex_of x ++ r)) (bytes_push (k + 1) bs b ∙ ap (λ (i : ℕ). (bytes_from (k + 1) bs ++ gap_before i) ++ hex_of b) n)
    ∙ simp append_assoc

-- one byte more
pub bytes_more : (bs : List ℕ) (i : ℕ) → i < length bs → bytes_text (take (i + 1) bs) ≡ (bytes_text (take i bs) ++ gap_before i) ++ hex_of (get_or bs i 0)
bytes_more bs i h =
    let n : 0 + length (take i bs) ≡ i = omega (arith, length-take-le i bs (omega arith)) in
    ap bytes_text (take_more bs i 0 h) ∙ bytes_push 0 (take i bs) (get_or bs i 0) ∙ ap (λ (k : ℕ). (bytes_text (take i bs) ++ gap_before k) ++ hex_of (get_or bs i 0)) n
