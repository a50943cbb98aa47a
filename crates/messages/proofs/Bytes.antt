-- A number as bytes, and the fields in it.
use Rattle.std.proofs.Common.{◌≡◌, ℕ, zero, suc, ◌+◌, ◌-◌, ◌*◌, ◌/◌, ◌%◌, ◌^◌, ◌<◌, ◌≤◌, List, [], ◌∷◌, length, get_or, sym, refl, ap, ◌∙◌, zero-add, add-one, arith, ext_get_or, pow-add, pow-suc, shr-shr}
use lib.Pow.{field, mod-mod-pow, mod-pow-add}
use Rattle.std.specs.Int.{bytes_high_first}
use Rattle.messages.specs.Bits.{bit, field as fieldIn, bytes_of}
use Rattle.messages.proofs.FieldLaws.{field_cut, front_of_byte}

pub length_bytes_of : (k n : ℕ) → length (bytes_of k n) ≡ k
unfolding bytes_of
length_bytes_of zero n = refl
length_bytes_of (suc k) n = ap suc (length_bytes_of k n)

-- the byte at a place
pub at_bytes_of : (k n j : ℕ) → j < k → get_or (bytes_of k n) j 0 ≡ n / 2 ^ (8 * (k - 1 - j)) % 256
unfolding bytes_of
at_bytes_of zero n j h = absurd (omega arith)
at_bytes_of (suc k) n zero h = let e : k ≡ suc k - 1 - 0 = omega arith in ap (λ (x : ℕ). n / 2 ^ (8 * x) % 256) e
at_bytes_of (suc k) n (suc j) h = let e : k - 1 - j ≡ suc k - 1 - suc j = omega arith in at_bytes_of k n j (omega arith) ∙ ap (λ (x : ℕ). n / 2 ^ (8 * x) % 256) e

-- bit r of a byte that is cut out of a number
bit_of_byte : (m r : ℕ) → r < 8 → m % 256 / 2 ^ (7 - r) % 2 ≡ m / 2 ^ (7 - r) % 2
bit_of_byte m r h =
    let e : r + 1 + (7 - r) ≡ 8 = omega arith in
    let cut : m % 256 / 2 ^ (7 - r) ≡ m / 2 ^ (7 - r) % 2 ^ (r + 1) = ap (λ (x : ℕ). m % 2 ^ x / 2 ^ (7 - r)) (sym e) ∙ field m (r + 1) (7 - r) in
    ap (λ (x : ℕ). x % 2) cut ∙ mod-mod-pow (m / 2 ^ (7 - r)) r 1

pub bit_bytes_of : (n i : ℕ) → i < 112 → bit (bytes_of 14 n) i ≡ n / 2 ^ (111 - i) % 2
bit_bytes_of n i h =
    let e : 8 * (14 - 1 - i / 8) + (7 - i % 8) ≡ 111 - i = omega arith in
    ap (λ (x : ℕ). x / 2 ^ (7 - i % 8) % 2) (at_bytes_of 14 n (i / 8) (omega arith))
    ∙ bit_of_byte (n / 2 ^ (8 * (14 - 1 - i / 8))) (i % 8) (omega arith)
    ∙ ap (λ (x : ℕ). x % 2) (shr-shr n (8 * (14 - 1 - i / 8)) (7 - i % 8) ∙ ap (λ (x : ℕ). n / 2 ^ x) e)

-- a field of the bytes of a number is cut out of the number
pub field_bytes_of : (n p w : ℕ) → p + w ≤ 112 → fieldIn (bytes_of 14 n) p w ≡ n / 2 ^ (112 - p - w) % 2 ^ w
unfolding fieldIn
field_bytes_of n p zero h = omega arith
field_bytes_of n p (suc w) h =
    let k = 111 - (p + w) in
    let e : 112 - p - suc w ≡ k = omega arith in
    let f : k + 1 ≡ 112 - p - w = omega arith in
    let last = bit_bytes_of n (p + w) (omega arith) in
    let front = field_bytes_of n p w (omega arith) in
    let up : n / 2 ^ k / 2 ≡ n / 2 ^ (112 - p - w) = shr-shr n k 1 ∙ ap (λ (x : ℕ). n / 2 ^ x) f in
    let both : n / 2 ^ k % 2 ^ suc w ≡ (n / 2 ^ k / 2 % 2 ^ w) * 2 + n / 2 ^ k % 2 = ap (λ (x : ℕ). n / 2 ^ k % 2 ^ x) (sym (add-one w)) ∙ mod-pow-add (n / 2 ^ k) w 1 in
    omega (arith, front, last, both, ap (λ (x : ℕ). x % 2 ^ w) up, ap (λ (x : ℕ). n / 2 ^ x % 2 ^ suc w) e)

-- bytes are those of the number that their bits write
pub bytes_whole : (bs : List ℕ) → length bs ≡ 14 → ((i : ℕ) → get_or bs i 0 < 256) → bytes_of 14 (fieldIn bs 0 112) ≡ bs
bytes_whole bs len small =
    let n = fieldIn bs 0 112 in
    ext_get_or 0 (bytes_of 14 n) bs (length_bytes_of 14 n ∙ sym len)
    (λ j h.
    let lt : j < 14 = omega (arith, length_bytes_of 14 n) in
    let e : 8 * j + (8 + 8 * (14 - 1 - j)) ≡ 112 = omega arith in
    at_bytes_of 14 n j lt ∙ ap (λ (x : ℕ). fieldIn bs 0 x / 2 ^ (8 * (14 - 1 - j)) % 256) (sym e) ∙ field_cut bs 0 (8 * j) 8 (8 * (14 - 1 - j)) ∙ ap (λ (x : ℕ). fieldIn bs x 8) (zero-add (8 * j)) ∙ front_of_byte bs j 8 (small j) (omega arith) ∙ omega arith)

-- bytes as the library has them
bytes_power : (k : ℕ) → 256 ^ k ≡ 2 ^ (8 * k)
bytes_power zero = omega arith
bytes_power (suc k) = let e : 8 * k + 8 ≡ 8 * suc k = omega arith in omega (arith, bytes_power k, pow-suc 256 k, sym (pow-add 2 (8 * k) 8) ∙ ap (λ (x : ℕ). 2 ^ x) e)

pub bytes_high : (k n : ℕ) → bytes_high_first k n ≡ bytes_of k n
unfolding bytes_of
bytes_high zero n = refl
bytes_high (suc zero) n = let here : n % 256 ≡ n / 2 ^ (8 * 0) % 256 = omega arith in ap (λ (x : ℕ). x ∷ []) here
bytes_high (suc (suc k)) n = λ i. n / bytes_power (suc k) i % 256 ∷ bytes_high (suc k) n i
