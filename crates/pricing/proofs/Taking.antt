-- The bests that an order takes, one leg after another.
use Rattle.std.proofs.Common.{◌≡◌, ℕ, suc, ◌+◌, ◌-◌, ◌*◌, ◌/◌, ◌<◌, ◌≤◌, min, Bool, true, false, cond, leb, List, [], ◌∷◌, ◌++◌, map, length, take, set, replicate, ℤ, ◌≤ℤ◌, MatchBool, fold, sym, refl, ap, ◌∙◌, le_trans, mul_comm, mul-le-mul_left, le-div_iff_mul-le, arith}
use native.Mathlib.Nat.{mul-div-le}
use Rattle.std.specs.List.{AllByRecursion}
use Rattle.std.proofs.lemmas.List.{map_more, set_at, append_assoc, length-map, length-take-le, take_all}
use Rattle.std.proofs.lemmas.Int.{ints}
use Rattle.std.proofs.lemmas.Bool.{and_parts, true≢false}
use Rattle.pricing.specs.declared.market.LegMarket.{LegMarket}
use Rattle.pricing.specs.Sound.{leg_sound, legs_sound, Sound}
use Rattle.pricing.specs.Legging.{price_taken, size_taken, available, most, reaches, legged_quantity, prices_taken, Fits, Greatest, Eased}
use Rattle.pricing.proofs.Soundness.{leg_told}
use Rattle.pricing.proofs.Split.{leg_at}

abbrev lesser : Bool → ℕ → LegMarket → ℕ
lesser buy = λ n m. min n (available buy m)

-- the prices so far, and none for the legs that are left
module _ (ms : List LegMarket) (buy : Bool) (i : ℕ) where
  pub prices_more : (xs : List ℕ) (x : ℕ) → i < length ms → length ms ≤ 4 → xs ≡ map (price_taken buy) (take i ms) ++ replicate (4 - i) 0 → x ≡ price_taken buy (leg_at ms i) → set xs i x ≡ map (price_taken buy) (take (i + 1) ms) ++ replicate (4 - (i + 1)) 0
  prices_more xs x h f inv e =
      let front = map (price_taken buy) (take i ms) in
      let long : length front ≡ i = length-map (take i ms) (price_taken buy) ∙ length-take-le i ms (omega arith) in
      let one : 4 - i ≡ suc (4 - (i + 1)) = omega arith in
      let zs = replicate (4 - (i + 1)) 0 in
      ap (λ ys. set ys i x) (inv ∙ ap (λ n. front ++ replicate n 0) one)
      ∙ set_at front 0 zs x i long
      ∙ ap (λ y. front ++ (y ∷ zs)) e
      ∙ sym (append_assoc front (price_taken buy (leg_at ms i) ∷ []) zs)
      ∙ ap (λ ys. ys ++ zs) (sym (map_more (price_taken buy) ms i _ h))

  pub prices_all : (xs : List ℕ) → length ms ≤ i → i ≤ length ms → xs ≡ map (price_taken buy) (take i ms) ++ replicate (4 - i) 0 → xs ≡ prices_taken ms buy
  unfolding prices_taken
  prices_all xs h k inv =
      let same : i ≡ length ms = omega arith in
      inv ∙ ap (λ ys. map (price_taken buy) ys ++ replicate (4 - i) 0) (take_all i ms h) ∙ ap (λ n. map (price_taken buy) ms ++ replicate (4 - n) 0) same

-- the least of a quantity and of what each leg gives is the greatest that fits
folded_least : (buy : Bool) (ms : List LegMarket) (q : ℕ) → fold (lesser buy) q ms ≤ q
folded_least buy [] q = omega arith
folded_least buy (m ∷ ms) q = let more = folded_least buy ms (min q (available buy m)) in omega arith

fits_leg : (a r n : ℕ) → n ≤ a / r → r * n ≤ a
fits_leg a r n h = le_trans (mul-le-mul_left r h) (mul-div-le a r)

folded_fits : (buy : Bool) (ms : List LegMarket) (q : ℕ) → AllByRecursion (λ m. m.ratio * fold (lesser buy) q ms ≤ size_taken buy m) ms
folded_fits buy [] q = tt
folded_fits buy (m ∷ ms) q =
    let least = folded_least buy ms (min q (available buy m)) in
    (fits_leg (size_taken buy m) m.ratio (fold (lesser buy) (min q (available buy m)) ms) (omega arith), folded_fits buy ms (min q (available buy m)))

folded_greatest : (buy : Bool) (ms : List LegMarket) (q k : ℕ) → legs_sound ms ≡ true → k ≤ q → AllByRecursion (λ m. m.ratio * k ≤ size_taken buy m) ms → k ≤ fold (lesser buy) q ms
folded_greatest buy [] q k s h a = h
folded_greatest buy (m ∷ ms) q k s h a =
    let parts = and_parts (leg_sound m) (legs_sound ms) s in
    let some = (leg_told m parts.0).some in
    let whole : m.ratio * k ≤ size_taken buy m = a.0 in
    let here : k ≤ available buy m = (le-div_iff_mul-le some).1 (rw (mul_comm k m.ratio) whole) in
    folded_greatest buy ms (min q (available buy m)) k parts.1 (omega arith) a.1

-- the least of a quantity and of what each leg gives fits, whatever the ratios are
pub most_fits : (ms : List LegMarket) (buy : Bool) (q : ℕ) → Fits ms buy q (most ms buy q)
unfolding most
most_fits ms buy q = (folded_least buy ms q, folded_fits buy ms q)

-- where some can be legged of one quantity, some can be of any
pub most_some : (ms : List LegMarket) (buy : Bool) (p q : ℕ) → 1 ≤ most ms buy p → 1 ≤ q → 1 ≤ most ms buy q
unfolding most
most_some [] buy p q h k = k
most_some (m ∷ ms) buy p q h k =
    let least = folded_least buy ms (min p (available buy m)) in
    most_some ms buy (min p (available buy m)) (min q (available buy m)) h (omega arith)

pub greatest : (ms : List LegMarket) (buy : Bool) (limit : ℤ) (q : ℕ) → Sound ms → Greatest ms buy limit q (legged_quantity ms buy limit q)
unfolding most
greatest ms buy limit q s = go (reaches ms buy limit) refl
  where
    none_fits : (ks : List LegMarket) → AllByRecursion (λ m. m.ratio * 0 ≤ size_taken buy m) ks
    none_fits [] = tt
    none_fits (m ∷ ks) = (omega arith, none_fits ks)

    go : (t : Bool) → reaches ms buy limit ≡ t → Greatest ms buy limit q (cond t (most ms buy q) 0)
    go true e = record {
      fits = (folded_least buy ms q, folded_fits buy ms q);
      most = λ _ k f. folded_greatest buy ms q k (and_parts (leb (length ms) 4) (legs_sound ms) s).1 f.0 f.1;
      none = λ f. absurd (true≢false (sym e ∙ f));
    }
    go false e = record {
      fits = (omega arith, none_fits ms);
      most = λ f. absurd (true≢false (sym f ∙ e));
      none = λ _. refl;
    }

-- a better limit reaches what the limit reached
pub eased : (ms : List LegMarket) (buy : Bool) (limit : ℤ) (q : ℕ) → Eased ms buy limit q (legged_quantity ms buy limit q)
eased ms buy limit q limit' better = go (reaches ms buy limit) refl
  where
    reached : (buy : Bool) → MatchBool buy (limit ≤ℤ limit') (limit' ≤ℤ limit) → reaches ms buy limit ≡ true → reaches ms buy limit' ≡ true
    reached true h e = grind (arith, ints)
    reached false h e = grind (arith, ints)

    go : (t : Bool) → reaches ms buy limit ≡ t → cond t (most ms buy q) 0 ≤ legged_quantity ms buy limit' q
    go true e = rw (reached buy better e) (omega arith)
    go false e = omega arith
