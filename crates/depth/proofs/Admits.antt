-- A lot that is admitted, and what is kept once it stands.
use Rattle.std.proofs.Common.{◌≡◌, ℕ, ◌+◌, ◌<◌, ◌≤◌, Bool, true, false, cond, eqb, ltb, List, length, Ok, Err, Result, sym, refl, ap, ◌∙◌, subst, arith}
use mathlib.Core.Logic.{∥∥₁_map}
use Rattle.std.specs.List.{AllByRecursion}
use Rattle.std.proofs.lemmas.Bool.{or_parts, not-false, eqb-true, eqb-false, ltb-false, leb-false, lt-ltb, cond-true}
use Rattle.std.proofs.ByRecursion.{All-weaker}
use Rattle.refusals.specs.declared.refusal.Refusal.{Refusal}
use Rattle.simple.specs.declared.lot.Side.{Side}
use Rattle.simple.specs.declared.lot.Lot.{Lot}
use Rattle.simple.specs.Limits.{last_series, highest_price, lot_limit, side_limit}
use Rattle.simple.specs.Lots.{Lots, contracts, insert_lot}
use Rattle.simple.specs.Lots as simple
use Rattle.ranked.specs.Ranking.{Absent}
use Rattle.ranked.specs.Laws.{LawfulInsertion}
use Rattle.lots.specs.declared.posted.PostedLot.{PostedLot}
use Rattle.depth.specs.Limits.{lot_places}
use Rattle.lots.specs.Rank.{lot_ahead, lot_number}
use Rattle.depth.specs.Lots.{lots_of, Fit, Sound}
use Rattle.depth.specs.Soundness.{sound_out}
use Rattle.depth.specs.Post.{post_answer, posted_lot, with_posted, with_lot}
use Rattle.depth.proofs.Changes.{on_own, side_within}
use Rattle.depth.proofs.Inserts.{insert_meaning, all_inserted, contracts_inserted}

-- a test that was passed
pub passed : {T E : Type 0} (b : Bool) (e : E) (rest : Result T E) (v : T) → Ok v ≡ cond b (Err e) rest → (b ≡ false) × (Ok v ≡ rest)
passed true e rest v h = let z : ◌≡◌ {A = ℕ} 0 1 = cc in absurd (omega arith)
passed false e rest v h = (refl, h)

same_number : (a b : ℕ) → ◌≡◌ {A = Result ℕ Refusal} (Ok a) (Ok b) → a ≡ b
same_number a b h = cc

-- what a lot that is admitted passed, and its number k
pub record Admitted (places : ℕ) (xs : List PostedLot) (posted s : ℕ) (d : Side) (l : Lot) (k : ℕ) : Type 0 where
  pub number : k ≡ posted + 1
  pub whole : places ≡ lot_places
  pub listed : s ≤ last_series
  pub lot : simple.Sound l
  pub within : contracts (lots_of xs s d) + l.size ≤ side_limit
  pub free : length xs < lot_places

pub admitted : (places : ℕ) (xs : List PostedLot) (posted s : ℕ) (d : Side) (l : Lot) (k : ℕ) → Ok k ≡ post_answer places xs posted s d l → Admitted places xs posted s d l k
admitted places xs posted s d l k h =
    let a = passed _ _ _ _ h in
    let b = passed _ _ _ _ a.1 in
    let u = passed _ _ _ _ b.1 in
    let f = passed _ _ _ _ u.1 in
    let g = passed _ _ _ _ f.1 in
    let p = l.price in
    let n = l.size in
    let i = or_parts (eqb p 0) _ u.0 in
    let j = or_parts (ltb highest_price p) _ i.1 in
    let o = or_parts (eqb n 0) _ j.1 in
    let m = or_parts (ltb lot_limit n) _ o.1 in
    let no_price = eqb-false p 0 i.0 in
    let no_size = eqb-false n 0 o.0 in
    record {
      number = same_number k (posted + 1) g.1;
      whole = eqb-true places lot_places (not-false (eqb places lot_places) a.0);
      listed = ltb-false last_series s b.0;
      lot = record { least = omega arith; most = ltb-false highest_price p j.0; some = omega arith };
      within = ltb-false side_limit (contracts (lots_of xs s d) + n) m.1;
      free = leb-false lot_places (length xs) f.0;
    }

-- the lot that was admitted, as it goes in
module _ (places : ℕ) (xs : List PostedLot) (m s : ℕ) (d : Side) (l : Lot) (k : ℕ) (granted : Ok k ≡ post_answer places xs m s d l) where
  ok : Admitted places xs m s d l k
  ok = admitted places xs m s d l k granted

  lower : Sound xs m → AllByRecursion (λ x. x.number < k) xs
  lower z = let is = ok.number in All-weaker (Fit m) (λ x. x.number < k) (λ x f. omega (arith, f.numbered)) xs z.fit

  fresh : Sound xs m → Absent lot_number k xs
  fresh z = All-weaker (λ x. x.number < k) (λ x. x.number ≡ k → ⊥) (λ x lt q. omega arith) xs (lower z)

  posted_meaning : Sound xs m → lots_of (with_posted xs s d l k) ≡ with_lot (lots_of xs) s d l
  posted_meaning z = insert_meaning s d (posted_lot s d l k) (on_own (posted_lot s d l k)) xs z.ranked (lower z)

  -- the list after the insertion of the lot
  module _ (r : Bool) (fits : r ≡ ltb (length xs) places) (ys : List PostedLot) (put : ys ≡ cond r (with_posted xs s d l k) xs) where
    posted_items : ys ≡ with_posted xs s d l k
    posted_items = put ∙ cond-true _ _ _ (fits ∙ lt-ltb (length xs) places (let f = ok.free in let w = ok.whole in omega arith))

    pub posted_next : ys ≡ with_posted xs s d l (m + 1)
    posted_next = posted_items ∙ ap (λ j. with_posted xs s d l j) ok.number

    pub posted_lots : ∥ Sound xs m ∥₁ → lots_of ys ≡ with_lot (lots_of xs) s d l
    posted_lots z = ap lots_of posted_items ∙ posted_meaning (sound_out xs m z)

    sound_posted : LawfulInsertion lot_ahead lot_number (posted_lot s d l k) xs r ys → Sound xs m → Sound ys k
    sound_posted laws z =
        record {
          ranked = laws.sorted (fresh z) z.ranked;
          numbers = laws.distinct (fresh z) z.numbers;
          fit = subst (AllByRecursion (Fit k)) (sym posted_items) (all_inserted (Fit k) (posted_lot s d l k) xs
              (record { listed = ok.listed; lot = ok.lot; numbered = omega arith })
              (All-weaker (Fit m) (Fit k) (λ x f. record { listed = f.listed; lot = f.lot; numbered = let is = ok.number in omega (arith, f.numbered) }) xs z.fit));
          within = λ t g.
              let is = ap (λ (b : Lots). contracts (b t g)) (ap lots_of posted_items ∙ posted_meaning z) in
              let more = contracts_inserted d l (lots_of xs s d) in
              let w = ok.within in
              let small = side_within (lots_of xs) s d (insert_lot d l (lots_of xs s d)) side_limit (omega arith) z.within t g in
              omega arith;
        }

    pub kept_posted : LawfulInsertion lot_ahead lot_number (posted_lot s d l k) xs r ys → ∥ Sound xs m ∥₁ → ∥ Sound ys k ∥₁
    kept_posted laws z = ∥∥₁_map z (sound_posted laws)
