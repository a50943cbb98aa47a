-- A legged order is given all that it takes, and what an execution takes of the lots.
use Rattle.std.proofs.Common.{◌≡◌, ℕ, ◌+◌, ◌*◌, ◌<◌, ◌≤◌, Bool, true, false, cond, not, ◌||◌, eqb, ltb, List, [], ◌∷◌, Some, None, Ok, Err, fold, Option, sym, refl, ap, ◌∙◌, subst, mul-le-mul_left, arith}
use Rattle.std.specs.List.{AllByRecursion}
use Rattle.std.proofs.lemmas.Bool.{eqb-true, eqb-false, eq-eqb, ne_eqb, le-ltb, or_from, cond-true, cond-false, cond_both}
use Rattle.refusals.specs.declared.reason.Reason.TheVariants.{NoSeries, TooMany}
use Rattle.refusals.specs.declared.station.Station.TheVariants.{Take}
use Rattle.refusals.specs.Refusals.{refused_at}
use Rattle.simple.specs.declared.lot.Side.{Side}
use Rattle.simple.specs.declared.lot.Side.TheVariants.{Bid, Offer}
use Rattle.simple.specs.declared.lot.Best.{Best}
use Rattle.simple.specs.Limits.{last_series}
use Rattle.simple.specs.Lots.{Lots, contracts, same_side}
use Rattle.simple.specs.Best.{best_of, best_size}
use Rattle.simple.specs.Take.{Done, take_answer, taken, take_from, after}
use Rattle.simple.specs.TakeMoved.{side_elsewhere, take_moved}
use Rattle.strategies.specs.declared.leg.Leg.{Leg}
use Rattle.strategies.specs.Lawful.{Rising, RatioFits}
use Rattle.pricing.specs.declared.market.LegMarket.{LegMarket}
use Rattle.pricing.specs.Legs.{is_open}
use Rattle.pricing.specs.Legging.{size_taken}
use Rattle.pricing.specs.Reading.{market, with_bests, leg_market, with_front, markets_of}
use Rattle.rules.specs.declared.execution.Execution.{Execution}
use Rattle.rules.specs.Steps.{side_taken, leg_taken, legs_taken}
use Rattle.rules.specs.Laws.{sum, takes, lots_past, leg_contracts, contracts_taken}
use Rattle.rules.proofs.Ready.{Steady}

-- ## Each take is accepted

-- the book would give what each leg takes
abbrev Given : Bool → ℕ → Lots → List Leg → Type 0
Given buy q b [] = Unit {0}
Given buy q b (leg ∷ legs) = (take_answer b leg.series (side_taken buy leg) (leg.ratio * q) ≡ Ok tt) × Given buy q b legs

none_some : {X A : Type 0} (a : A) → None ≡ Some a → X
none_some a e = let z : ◌≡◌ {A = ℕ} 0 1 = cc in absurd (omega arith)

-- some of a listed series, no more than its best has
accepted : (b : Lots) (s : ℕ) (d : Side) (n : ℕ) → s ≤ last_series → 1 ≤ n → n ≤ best_size (best_of (b s d)) → take_answer b s d n ≡ Ok tt
accepted b s d n low some few =
    let rest : Done = cond (eqb n 0 || ltb (best_size (best_of (b s d))) n) (Err (refused_at Take TooMany)) (Ok tt) in
    let within : (eqb n 0 || ltb (best_size (best_of (b s d))) n) ≡ false = or_from (eqb n 0) (ltb (best_size (best_of (b s d))) n) (ne_eqb n 0 (λ z. omega arith)) (le-ltb (best_size (best_of (b s d))) n few) in
    cond-false (ltb last_series s) (Err (refused_at Take NoSeries)) rest (le-ltb last_series s low)
    ∙ cond-false (eqb n 0 || ltb (best_size (best_of (b s d))) n) (Err (refused_at Take TooMany)) (Ok tt) within

side_size : (b : Lots) (s : ℕ) (t : Bool) → best_size (best_of (b s (cond t Offer Bid))) ≡ cond t (best_size (best_of (b s Offer))) (best_size (best_of (b s Bid)))
side_size b s true = refl
side_size b s false = refl

front_parts : (x : Option LegMarket) (y : Option (List LegMarket)) (ms : List LegMarket) → with_front x y ≡ Some ms → (m : LegMarket) × (ns : List LegMarket) × (x ≡ Some m) × (y ≡ Some ns) × (ms ≡ m ∷ ns)
front_parts None y ms e = none_some ms e
front_parts (Some m) None ms e = none_some ms e
front_parts (Some m) (Some ns) ms e = (m, ns, refl, refl, cc)

-- a side is itself or the other
one_side : (e d : Side) → same_side e d ≡ true → e ≡ d
one_side Bid Bid h = refl
one_side Bid Offer h = cc
one_side Offer Bid h = cc
one_side Offer Offer h = refl

other_side : (e d : Side) → same_side e d ≡ false → d ≡ e → ⊥
other_side Bid Bid h e = let z : ◌≡◌ {A = ℕ} 0 1 = cc in omega arith
other_side Bid Offer h e = let z : ◌≡◌ {A = ℕ} 0 1 = cc in omega arith
other_side Offer Bid h e = let z : ◌≡◌ {A = ℕ} 0 1 = cc in omega arith
other_side Offer Offer h e = let z : ◌≡◌ {A = ℕ} 0 1 = cc in omega arith

none_more : (n : ℕ) → n ≡ 0 + n
none_more n = omega arith

-- ## For an order on one side and a quantity

module _ (buy : Bool) (q : ℕ) where
  -- an open leg has the leg's ratio and the sizes of the bests
  open_size : (leg : Leg) (x y : Option Best) (m : LegMarket) → with_bests leg x y ≡ Some m → m.ratio * q ≤ size_taken buy m → leg.ratio * q ≤ cond (cond buy leg.bought (not leg.bought)) (best_size y) (best_size x)
  open_size leg None y m e h = none_some m e
  open_size leg (Some b) None m e h = none_some m e
  open_size leg (Some b) (Some o) m e h = go (is_open (market leg b o)) e
    where
      go : (t : Bool) → cond t (Some (market leg b o)) None ≡ Some m → leg.ratio * q ≤ cond (cond buy leg.bought (not leg.bought)) o.size b.size
      go true e = let same : m ≡ market leg b o = cc in subst (λ (m : LegMarket). m.ratio * q ≤ size_taken buy m) same h
      go false e = none_some m e

  leg_given : (b : Lots) (leg : Leg) (m : LegMarket) → leg.series ≤ last_series → RatioFits leg → 1 ≤ q → leg_market b leg ≡ Some m → m.ratio * q ≤ size_taken buy m → take_answer b leg.series (side_taken buy leg) (leg.ratio * q) ≡ Ok tt
  leg_given b leg m low fits some e h =
      let ratio = fits.0 in
      let least : leg.ratio * 1 ≤ leg.ratio * q = mul-le-mul_left leg.ratio some in
      let few = open_size leg (best_of (b leg.series Bid)) (best_of (b leg.series Offer)) m e h in
      let size = side_size b leg.series (cond buy leg.bought (not leg.bought)) in
      accepted b leg.series (side_taken buy leg) (leg.ratio * q) low (omega arith) (subst (λ n. leg.ratio * q ≤ n) (sym size) few)

  legs_given : (legs : List Leg) (b : Lots) (ms : List LegMarket) → AllByRecursion (λ l. l.series ≤ last_series) legs → AllByRecursion RatioFits legs → 1 ≤ q → markets_of b legs ≡ Some ms → AllByRecursion (λ m. m.ratio * q ≤ size_taken buy m) ms → Given buy q b legs
  unfolding markets_of
  legs_given [] b ms low fits some e h = tt
  legs_given (leg ∷ legs) b ms low fits some e h =
      let p = front_parts (leg_market b leg) (markets_of b legs) ms e in
      let P : List LegMarket → Type 0 = AllByRecursion (λ m. m.ratio * q ≤ size_taken buy m) in
      let sizes = subst P p.4 h in
      (leg_given b leg p.0 low.0 fits.0 some p.2 sizes.0, legs_given legs b p.1 low.1 fits.1 some p.3 sizes.1)

  -- a take of a lower series leaves the legs given
  given_still : (b : Lots) (s : ℕ) (d : Side) (n : ℕ) (legs : List Leg) → AllByRecursion (λ l. s < l.series) legs → Given buy q b legs → Given buy q (taken b s d n) legs
  given_still b s d n [] up g = tt
  given_still b s d n (leg ∷ legs) up g =
      let above = up.0 in
      let same = side_elsewhere b s d (take_from n (b s d)) leg.series (side_taken buy leg) (λ z. let at = z.0 in omega arith) in
      (ap (λ ls. take_answer (λ _ _. ls) leg.series (side_taken buy leg) (leg.ratio * q)) same ∙ g.0, given_still b s d n legs up.1 g.1)

  -- so each take in turn is given
  all_granted : (legs : List Leg) (b : Lots) → Rising legs → Given buy q b legs → fold (leg_taken buy q) b legs ≡ takes legs buy q b
  all_granted [] b up g = refl
  all_granted (leg ∷ legs) b up g =
      let next : Lots = taken b leg.series (side_taken buy leg) (leg.ratio * q) in
      let one : leg_taken buy q b leg ≡ next = ap (λ (r : Done). after r next b) g.0 in
      ap (λ c. fold (leg_taken buy q) c legs) one
      ∙ all_granted legs next up.1 (given_still b leg.series (side_taken buy leg) (leg.ratio * q) legs up.0 g.1)

  -- a take moves the leg's contracts on its side of its series, and nothing elsewhere
  leg_moved : (b : Lots) (leg : Leg) → take_answer b leg.series (side_taken buy leg) (leg.ratio * q) ≡ Ok tt → (s : ℕ) (d : Side) → contracts (b s d) ≡ leg_contracts buy q s d leg + contracts (taken b leg.series (side_taken buy leg) (leg.ratio * q) s d)
  leg_moved b leg g s d =
      let side : Side = side_taken buy leg in
      let n : ℕ = leg.ratio * q in
      let next : Lots = taken b leg.series side n in
      let m = take_moved b leg.series side n g in
      let P : ℕ → Type 0 = λ k. contracts (b s d) ≡ k + contracts (next s d) in
      let apart : ((s ≡ leg.series) × (d ≡ side) → ⊥) → P 0 = λ other. sym (ap contracts (m.elsewhere s d other)) ∙ none_more (contracts (next s d)) in
      cond_both (eqb leg.series s) (cond (same_side side d) n 0) 0 P
      (λ e. cond_both (same_side side d) n 0 P
      (λ f.
      let moved = m.quantity in
      let here : contracts (b leg.series side) ≡ n + contracts (next leg.series side) = omega arith in
      let Q : ℕ → Side → Type 0 = λ s d. contracts (b s d) ≡ n + contracts (next s d) in
      subst (λ s. Q s d) (eqb-true leg.series s e) (subst (Q leg.series) (one_side side d f) here))
      (λ f. apart (λ z. other_side side d f z.1)))
      (λ e. apart (λ z. eqb-false leg.series s e (sym z.0)))

  all_moved : (legs : List Leg) (b : Lots) → Rising legs → Given buy q b legs → (s : ℕ) (d : Side) → contracts (b s d) ≡ sum (leg_contracts buy q s d) legs + contracts (takes legs buy q b s d)
  all_moved [] b up g s d = none_more (contracts (b s d))
  all_moved (leg ∷ legs) b up g s d =
      let next : Lots = taken b leg.series (side_taken buy leg) (leg.ratio * q) in
      let k : ℕ = leg_contracts buy q s d leg in
      let m : ℕ = sum (leg_contracts buy q s d) legs in
      let one : contracts (b s d) ≡ k + contracts (next s d) = leg_moved b leg g.0 s d in
      let more : contracts (next s d) ≡ m + contracts (takes legs buy q next s d) = all_moved legs next up.1 (given_still b leg.series (side_taken buy leg) (leg.ratio * q) legs up.0 g.1) s d in
      one ∙ ap (λ c. k + c) more ∙ sums k m (contracts (takes legs buy q next s d))
    where
      sums : (k m n : ℕ) → k + (m + n) ≡ k + m + n
      sums k m n = omega arith

pub granted : (legs : List Leg) (buy : Bool) (q : ℕ) (b : Lots) (ms : List LegMarket) → Steady legs → markets_of b legs ≡ Some ms → 1 ≤ q → AllByRecursion (λ m. m.ratio * q ≤ size_taken buy m) ms → legs_taken legs buy q b ≡ takes legs buy q b
unfolding legs_taken
granted legs buy q b ms law e some h = all_granted buy q legs b law.rising (legs_given buy q legs b ms law.listed law.ratios some e h)

pub moved_by_takes : (legs : List Leg) (buy : Bool) (q : ℕ) (b : Lots) (ms : List LegMarket) → Steady legs → markets_of b legs ≡ Some ms → 1 ≤ q → AllByRecursion (λ m. m.ratio * q ≤ size_taken buy m) ms → (s : ℕ) (d : Side) → contracts (b s d) ≡ sum (leg_contracts buy q s d) legs + contracts (takes legs buy q b s d)
moved_by_takes legs buy q b ms law e some h = all_moved buy q legs b law.rising (legs_given buy q legs b ms law.listed law.ratios some e h)

-- ## What an execution takes

-- by the numbers of a buy and of a sell: of a legged buy, of a legged sell, of a pair
abbrev by_numbers : {X : Type 0} → ℕ → ℕ → X → X → X → X
by_numbers buy sell of_buy of_sell of_pair = cond (eqb sell 0) of_buy (cond (eqb buy 0) of_sell of_pair)

module _ {X : Type 0} (buy sell : ℕ) (of_buy of_sell of_pair : X) where
  by_buy : sell ≡ 0 → by_numbers buy sell of_buy of_sell of_pair ≡ of_buy
  by_buy e = cond-true (eqb sell 0) of_buy (cond (eqb buy 0) of_sell of_pair) (eq-eqb sell 0 e)

  by_sell : 1 ≤ sell → buy ≡ 0 → by_numbers buy sell of_buy of_sell of_pair ≡ of_sell
  by_sell some e =
      cond-false (eqb sell 0) of_buy (cond (eqb buy 0) of_sell of_pair) (ne_eqb sell 0 (λ z. omega arith))
      ∙ cond-true (eqb buy 0) of_sell of_pair (eq-eqb buy 0 e)

  by_pair : 1 ≤ buy → 1 ≤ sell → by_numbers buy sell of_buy of_sell of_pair ≡ of_pair
  by_pair bought sold =
      cond-false (eqb sell 0) of_buy (cond (eqb buy 0) of_sell of_pair) (ne_eqb sell 0 (λ z. omega arith))
      ∙ cond-false (eqb buy 0) of_sell of_pair (ne_eqb buy 0 (λ z. omega arith))

module _ (legs : List Leg) (x : Execution) (b : Lots) where
  pub lots_past_pair : 1 ≤ x.buy → 1 ≤ x.sell → lots_past legs x b ≡ b
  lots_past_pair = by_pair x.buy x.sell (takes legs true x.quantity b) (takes legs false x.quantity b) b

  pub lots_past_buy : x.sell ≡ 0 → lots_past legs x b ≡ takes legs true x.quantity b
  lots_past_buy = by_buy x.buy x.sell (takes legs true x.quantity b) (takes legs false x.quantity b) b

  pub lots_past_sell : 1 ≤ x.sell → x.buy ≡ 0 → lots_past legs x b ≡ takes legs false x.quantity b
  lots_past_sell = by_sell x.buy x.sell (takes legs true x.quantity b) (takes legs false x.quantity b) b

module _ (legs : List Leg) (x : Execution) (s : ℕ) (d : Side) where
  pub contracts_taken_pair : 1 ≤ x.buy → 1 ≤ x.sell → contracts_taken legs x s d ≡ 0
  contracts_taken_pair = by_pair x.buy x.sell (sum (leg_contracts true x.quantity s d) legs) (sum (leg_contracts false x.quantity s d) legs) 0

  pub contracts_taken_buy : x.sell ≡ 0 → contracts_taken legs x s d ≡ sum (leg_contracts true x.quantity s d) legs
  contracts_taken_buy = by_buy x.buy x.sell (sum (leg_contracts true x.quantity s d) legs) (sum (leg_contracts false x.quantity s d) legs) 0

  pub contracts_taken_sell : 1 ≤ x.sell → x.buy ≡ 0 → contracts_taken legs x s d ≡ sum (leg_contracts false x.quantity s d) legs
  contracts_taken_sell = by_sell x.buy x.sell (sum (leg_contracts true x.quantity s d) legs) (sum (leg_contracts false x.quantity s d) legs) 0
