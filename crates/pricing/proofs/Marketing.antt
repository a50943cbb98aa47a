-- The markets of the legs, one leg after another.
use Rattle.std.proofs.Common.{◌≡◌, ℕ, ◌+◌, ◌<◌, ◌≤◌, true, List, [], ◌∷◌, ◌++◌, length, get_or, take, drop, set, Some, None, Option, sym, refl, ap, ◌∙◌}
use Rattle.std.proofs.lemmas.List.{drop_more, drop_all, take_more_set, append_assoc, append-nil}
use Rattle.std.proofs.lemmas.Bool.{and_parts, and_from}
use Rattle.simple.specs.Lots.{Lots}
use Rattle.strategies.specs.declared.leg.Leg.{Leg}
use Rattle.strategies.specs.Legs.{blank}
use Rattle.pricing.specs.declared.market.LegMarket.{LegMarket}
use Rattle.pricing.specs.Sound.{leg_sound, legs_sound}
use Rattle.pricing.specs.Reading.{with_front, leg_market, markets_of}

abbrev pub prefixed : {X : Type 0} → List X → Option (List X) → Option (List X)
prefixed xs None = None
prefixed xs (Some ys) = Some (xs ++ ys)

sound_push : (ms : List LegMarket) (m : LegMarket) → legs_sound ms ≡ true → leg_sound m ≡ true → legs_sound (ms ++ (m ∷ [])) ≡ true
sound_push [] m a b = and_from (leg_sound m) true b refl
sound_push (x ∷ ms) m a b = let p = and_parts (leg_sound x) (legs_sound ms) a in and_from (leg_sound x) (legs_sound (ms ++ (m ∷ []))) p.0 (sound_push ms m p.1 b)

module _ (b : Lots) (legs : List Leg) (i : ℕ) (h : i < length legs) where
  next_leg : drop i legs ≡ get_or legs i blank ∷ drop (i + 1) legs
  next_leg = drop_more legs i blank h

  module _ (four : List LegMarket) (inv : markets_of b legs ≡ prefixed (take i four) (markets_of b (drop i legs))) where
    pub market_closed : None ≡ leg_market b (get_or legs i blank) → None ≡ markets_of b legs
    unfolding markets_of
    market_closed e = sym (inv ∙ rw (next_leg, ← e))

    pub market_more : (m : LegMarket) → Some m ≡ leg_market b (get_or legs i blank) → i < length four → markets_of b legs ≡ prefixed (take (i + 1) (set four i m)) (markets_of b (drop (i + 1) legs))
    unfolding markets_of
    market_more m e l = inv ∙ rw (next_leg, ← e, take_more_set four i m l) (go (markets_of b (drop (i + 1) legs)))
      where
        go : (o : Option (List LegMarket)) → prefixed (take i four) (with_front (Some m) o) ≡ prefixed (take i four ++ (m ∷ [])) o
        go None = refl
        go (Some ms) = ap Some (sym (append_assoc (take i four) (m ∷ []) ms))

pub sound_more : (i : ℕ) (four : List LegMarket) (m : LegMarket) → i < length four → legs_sound (take i four) ≡ true → leg_sound m ≡ true → legs_sound (take (i + 1) (set four i m)) ≡ true
sound_more i four m l a s = rw (take_more_set four i m l) (sound_push (take i four) m a s)

pub markets_all : (b : Lots) (legs : List Leg) (i : ℕ) (four : List LegMarket) → length legs ≤ i → markets_of b legs ≡ prefixed (take i four) (markets_of b (drop i legs)) → markets_of b legs ≡ Some (take i four)
unfolding markets_of
markets_all b legs i four h inv = inv ∙ rw (drop_all i legs h) (ap Some (append-nil (take i four)))
