-- What a sound market tells of its legs.
use Rattle.std.proofs.Common.{◌≡◌, ℕ, zero, suc, ◌<◌, ◌≤◌, true, ◌&&◌, ltb, leb, List, [], ◌∷◌, length, get_or, refl, arith}
use Rattle.std.proofs.lemmas.Bool.{and_parts, and_from, leb-true, ltb-true}
use Rattle.pricing.specs.declared.market.LegMarket.{LegMarket}
use Rattle.pricing.specs.Legs.{width, is_open, free}
use Rattle.pricing.specs.Sound.{leg_sound, legs_sound, Sound}

pub few : (ms : List LegMarket) → Sound ms → length ms ≤ 4
few ms h = leb-true (length ms) 4 (and_parts (leb (length ms) 4) (legs_sound ms) h).0

pub record LegTold (m : LegMarket) : Type 0 where
  pub opened : is_open m ≡ true
  pub crossed : m.bid.price < m.offer.price
  pub some : 1 ≤ m.ratio
  pub most : m.ratio ≤ 8
  pub high : m.offer.price ≤ 1000000

pub leg_told : (m : LegMarket) → leg_sound m ≡ true → LegTold m
leg_told m e =
    let parts = and_parts (is_open m) ((leb 1 m.ratio && leb m.ratio 8) && leb m.offer.price 1000000) e in
    let bounds = and_parts (leb 1 m.ratio && leb m.ratio 8) (leb m.offer.price 1000000) parts.1 in
    let ratio = and_parts (leb 1 m.ratio) (leb m.ratio 8) bounds.0 in
    record {
      opened = parts.0;
      crossed = ltb-true m.bid.price m.offer.price (and_parts (ltb m.bid.price m.offer.price) (leb (width m) 500) parts.0).0;
      some = leb-true 1 m.ratio ratio.0;
      most = leb-true m.ratio 8 ratio.1;
      high = leb-true m.offer.price 1000000 bounds.1;
    }

at : (ms : List LegMarket) (i : ℕ) (d : LegMarket) → legs_sound ms ≡ true → i < length ms → leg_sound (get_or ms i d) ≡ true
at [] i d e lt = absurd (omega arith)
at (m ∷ ms) zero d e lt = (and_parts (leg_sound m) (legs_sound ms) e).0
at (m ∷ ms) (suc i) d e lt = at ms i d (and_parts (leg_sound m) (legs_sound ms) e).1 (omega arith)

pub sound_at : (ms : List LegMarket) (i : ℕ) (d : LegMarket) → Sound ms → i < length ms → leg_sound (get_or ms i d) ≡ true
sound_at ms i d h lt = at ms i d (and_parts (leb (length ms) 4) (legs_sound ms) h).1 lt

all_open : (ms : List LegMarket) → legs_sound ms ≡ true → free ms ≡ true
all_open [] e = refl
all_open (m ∷ ms) e =
    let parts = and_parts (leg_sound m) (legs_sound ms) e in
    and_from (is_open m) (free ms) (leg_told m parts.0).opened (all_open ms parts.1)

pub sound_free : (ms : List LegMarket) → Sound ms → free ms ≡ true
sound_free ms h = all_open ms (and_parts (leb (length ms) 4) (legs_sound ms) h).1
