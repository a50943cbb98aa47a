-- The law over every list of calls, in the words of the subject: the accepted orders of the history, their executions,
-- their cancellations, and what cancel would answer next.
use Rattle.std.specs.Prelude.{◌≡◌, ℕ, ◌+◌, ◌*◌, ◌≤◌, Bool, true, false, cond, List, [], ◌∷◌, ◌++◌, length, ℤ, ◌≤ℤ◌, Some, fold, ◌==◌, ◌≢◌}
use Rattle.std.specs.List.{ContainsAt as Has, AllByRecursion}
use Rattle.simple.specs.declared.lot.Side.{Side}
use Rattle.simple.specs.Lots.{Lots, Lawful, contracts, same_side}
use Rattle.simple.specs.Take.{taken}
use Rattle.strategies.specs.declared.leg.Leg.{Leg}
use Rattle.strategies.specs.declared.row.StrategyRow.{StrategyRow}
use Rattle.strategies.specs.Lawful.{Exactly}
use Rattle.strategies.specs.Rows.{row_legs}
use Rattle.pricing.specs.declared.market.LegMarket.{LegMarket}
use Rattle.pricing.specs.Legs.{in_places}
use Rattle.pricing.specs.Prices.{leg_prices}
use Rattle.pricing.specs.Legging.{size_taken, net_taken, prices_taken, legged_quantity}
use Rattle.pricing.specs.Trades.{Fair, Within}
use Rattle.pricing.specs.Reading.{markets_of, Admissible}
use Rattle.rules.specs.declared.order.NewOrder.{NewOrder}
use Rattle.rules.specs.declared.execution.Execution.{Execution}
use Rattle.rules.specs.declared.answer.Placed.{Placed}
use Rattle.rules.specs.declared.answer.Outcome.{Outcome}
use Rattle.rules.specs.declared.answer.Outcome.TheVariants.{AtRest, More}
use Rattle.rules.specs.Orders.{market_limit}
use Rattle.rules.specs.Steps.{side_taken}
use Rattle.rules.specs.States.{State}
use Rattle.rules.specs.Events.{Event, Call, define, place, evaluate, cancel, unreadable, Answer, defined, placed, evaluated, cancelled, refused, unread}
use Rattle.rules.specs.Calls.{did_cancel, is_buy}
use Rattle.rules.specs.Runs.{Run, Happens}

-- ## Accepted orders and defined strategies

-- an order is accepted by a place that answers its number
pub record Accepted (h : List Event) (n : ℕ) (o : NewOrder) : Type 0 where
  pub by : Event
  pub among : Has h by
  pub placing : by.call ≡ place o
  pub told : Placed
  pub answering : by.answer ≡ placed told
  pub number : told.number ≡ n

-- a market order's limit is what it counts as
abbrev pub counted_limit : NewOrder → ℤ
counted_limit o = cond o.market (market_limit (is_buy o.side)) o.limit

-- a strategy's legs are those of the define that answered its number
pub record Defined (h : List Event) (s : ℕ) (legs : List Leg) : Type 0 where
  pub by : Event
  pub among : Has h by
  pub row : StrategyRow
  pub defining : by.call ≡ define row
  pub answering : by.answer ≡ defined s
  pub counted : legs ≡ row_legs row

-- ## What became of an order

-- the quantity that an execution trades of the order n
abbrev pub traded_of : ℕ → Execution → ℕ
traded_of n x = cond (x.buy == n) x.quantity 0 + cond (x.sell == n) x.quantity 0

abbrev pub sum : {X : Type 0} → (X → ℕ) → List X → ℕ
sum f [] = 0
sum f (x ∷ xs) = f x + sum f xs

-- executed: over all executions with its number
abbrev pub executed : List Event → ℕ → ℕ
executed h n = sum (λ e. sum (traded_of n) e.executions) h

-- the number that a call names
abbrev pub named : Call → ℕ
named (define row) = 0
named (place o) = 0
named (evaluate s) = 0
named (cancel n) = n
named (unreadable fault) = 0

-- cancelled: what place and cancel answered for it
abbrev pub cancelled_by : ℕ → Call → Answer → ℕ
cancelled_by n c (defined s) = 0
cancelled_by n c (placed p) = cond (p.number == n) p.cancelled 0
cancelled_by n c (evaluated v) = 0
cancelled_by n c (cancelled q) = cond (named c == n) q 0
cancelled_by n c (refused why) = 0
cancelled_by n c (unread fault) = 0

abbrev pub cancelled_of : List Event → ℕ → ℕ
cancelled_of h n = sum (λ e. cancelled_by n e.call e.answer) h

-- resting: what cancel would answer next, 0 if refused; it looks at no book
abbrev pub given_back : Answer → ℕ
given_back (defined s) = 0
given_back (placed p) = 0
given_back (evaluated v) = 0
given_back (cancelled q) = q
given_back (refused why) = 0
given_back (unread fault) = 0

abbrev pub resting : State → ℕ → ℕ
resting s n = given_back (did_cancel s (λ _ _. []) n).answer

-- ## Executions

-- the takes of an execution: a legged buy and a legged sell take ratio times its quantity of each leg, a pair nothing
abbrev pub takes : List Leg → Bool → ℕ → Lots → Lots
takes legs buy q b = fold (λ b leg. taken b leg.series (side_taken buy leg) (leg.ratio * q)) b legs

abbrev pub lots_past : List Leg → Execution → Lots → Lots
lots_past legs x b = cond (x.sell == 0) (takes legs true x.quantity b) (cond (x.buy == 0) (takes legs false x.quantity b) b)

-- an order of the execution's strategy, accepted under the number, on that side, within whose limit the price lies
pub record Bought (h : List Event) (x : Execution) : Type 0 where
  pub order : NewOrder
  pub accepted : Accepted h x.buy order
  pub side : is_buy order.side ≡ true
  pub strategy : order.strategy ≡ x.strategy
  pub within : x.price ≤ℤ counted_limit order

pub record Sold (h : List Event) (x : Execution) : Type 0 where
  pub order : NewOrder
  pub accepted : Accepted h x.sell order
  pub side : is_buy order.side ≡ false
  pub strategy : order.strategy ≡ x.strategy
  pub within : counted_limit order ≤ℤ x.price

-- a pair trades at an admissible price of the lots just before it, and its leg prices are those of that price
pub record Paired (legs : List Leg) (b : Lots) (x : Execution) : Type 0 where
  pub markets : List LegMarket
  pub free : markets_of b legs ≡ Some markets
  pub prices : List ℕ
  pub priced : leg_prices markets x.price ≡ Some prices
  pub recorded : x.legs ≡ in_places markets prices
  pub allowed : Admissible b legs x.price
  pub fair : Fair markets x.price prices

-- a legged order trades at the net price on the other side, its legs at the bests taken, within each best size
pub record Legged (legs : List Leg) (b : Lots) (buy : Bool) (x : Execution) : Type 0 where
  pub markets : List LegMarket
  pub free : markets_of b legs ≡ Some markets
  pub price : x.price ≡ net_taken markets buy
  pub recorded : x.legs ≡ prices_taken markets buy
  pub sizes : AllByRecursion (λ m. m.ratio * x.quantity ≤ size_taken buy m) markets

-- an execution names a buy, a sell or both, for at least 1; b are the lots just before it
pub record LawfulExecution (h : List Event) (legs : List Leg) (b : Lots) (x : Execution) : Type 0 where
  pub some : 1 ≤ x.quantity
  pub named : x.buy ≡ 0 → x.sell ≢ 0
  pub bought : 1 ≤ x.buy → Bought h x
  pub sold : 1 ≤ x.sell → Sold h x
  pub paired : 1 ≤ x.buy → 1 ≤ x.sell → Paired legs b x
  pub legged_buy : x.sell ≡ 0 → Legged legs b true x
  pub legged_sell : x.buy ≡ 0 → Legged legs b false x

-- each execution in turn, over the lots that the takes of those before it left; after the last one those are the lots at the end
abbrev pub Executing : List Event → Lots → List Execution → Lots → Type 0
Executing h b [] end = end ≡ b
Executing h b (x ∷ xs) end = (legs : List Leg) × Defined h x.strategy legs × LawfulExecution h legs b x × Executing h (lots_past legs x b) xs end

-- the contracts that an execution takes of one side of a series
abbrev pub leg_contracts : Bool → ℕ → ℕ → Side → Leg → ℕ
leg_contracts buy q s d leg = cond (leg.series == s) (cond (same_side (side_taken buy leg) d) (leg.ratio * q) 0) 0

abbrev pub contracts_taken : List Leg → Execution → ℕ → Side → ℕ
contracts_taken legs x s d = cond (x.sell == 0) (sum (leg_contracts true x.quantity s d) legs) (cond (x.buy == 0) (sum (leg_contracts false x.quantity s d) legs) 0)

-- the executions took k contracts of the side
abbrev pub TakenIn : List Event → ℕ → Side → List Execution → ℕ → Type 0
TakenIn h s d [] k = k ≡ 0
TakenIn h s d (x ∷ xs) k = (legs : List Leg) × Defined h x.strategy legs × (m : ℕ) × TakenIn h s d xs m × (k ≡ contracts_taken legs x s d + m)

-- so did those of some calls
abbrev pub TakenOver : List Event → ℕ → Side → List Event → ℕ → Type 0
TakenOver h s d [] k = k ≡ 0
TakenOver h s d (e ∷ es) k = (n m : ℕ) × TakenIn h s d e.executions n × TakenOver h s d es m × (k ≡ n + m)

-- the contracts of the side before and after some calls
abbrev pub before_calls : ℕ → Side → List Event → ℕ
before_calls s d h = sum (λ e. contracts (e.before s d)) h

abbrev pub after_calls : ℕ → Side → List Event → ℕ
after_calls s d h = sum (λ e. contracts (e.after s d)) h

-- ## At rest

-- a buy or a sell of the strategy: an accepted order of which some quantity rests
pub record Resting (h : List Event) (u : State) (s n : ℕ) (o : NewOrder) : Type 0 where
  pub accepted : Accepted h n o
  pub strategy : o.strategy ≡ s
  pub some : 1 ≤ resting u n

-- no buy and sell of the strategy have an admissible price within both limits
abbrev pub NoPair : List Event → State → ℕ → List Leg → Lots → Type 0
NoPair h u s legs b =
    (n m : ℕ) (o c : NewOrder) → Resting h u s n o → Resting h u s m c → is_buy o.side ≡ true → is_buy c.side ≡ false
    → (p : ℤ) → Within (counted_limit o) (counted_limit c) p → Admissible b legs p → ⊥

-- no order of the strategy can be legged
abbrev pub NoLeg : List Event → State → ℕ → List Leg → Lots → Type 0
NoLeg h u s legs b =
    (n : ℕ) (o : NewOrder) → Resting h u s n o → (ms : List LegMarket) → markets_of b legs ≡ Some ms
    → 1 ≤ legged_quantity ms (is_buy o.side) (counted_limit o) (resting u n) → ⊥

abbrev pub Settled : List Event → State → ℕ → Lots → Type 0
Settled h u s b = (legs : List Leg) → Defined h s legs → NoPair h u s legs b × NoLeg h u s legs b

-- the strategy that a call steps
abbrev pub stepped : Call → ℕ
stepped (define row) = 0
stepped (place o) = o.strategy
stepped (evaluate s) = s
stepped (cancel n) = 0
stepped (unreadable fault) = 0

-- an accepted place or evaluate answered "at rest" exactly when its strategy had come to rest
abbrev pub Rested : List Event → State → Call → Answer → Lots → Type 0
Rested h u c (defined s) b = Unit {0}
Rested h u c (placed p) b = Exactly (p.outcome ≡ AtRest) (Settled h u (stepped c) b)
Rested h u c (evaluated v) b = Exactly (v.outcome ≡ AtRest) (Settled h u (stepped c) b)
Rested h u c (cancelled q) b = Unit {0}
Rested h u c (refused why) b = Unit {0}
Rested h u c (unread fault) b = Unit {0}

-- ## What is told

-- how many orders were accepted, and how many strategies defined
abbrev pub accepts : Answer → ℕ
accepts (defined s) = 0
accepts (placed p) = 1
accepts (evaluated v) = 0
accepts (cancelled q) = 0
accepts (refused why) = 0
accepts (unread fault) = 0

abbrev pub defines : Answer → ℕ
defines (defined s) = 1
defines (placed p) = 0
defines (evaluated v) = 0
defines (cancelled q) = 0
defines (refused why) = 0
defines (unread fault) = 0

-- "more" is said only when the records fill the list
abbrev pub FullIfMore : Outcome → ℕ → ℕ → Type 0
FullIfMore out records room = out ≡ More → records ≡ room

-- numbers are given once, from 1 on, and strategy numbers from 0 on; the records told are the executions,
-- and the own quantity executed is that of the executions with its number
abbrev pub Told : List Event → Answer → List Execution → ℕ → Type 0
Told before (defined s) xs room = (s ≡ sum (λ e. defines e.answer) before) × (length xs ≡ 0)
Told before (placed p) xs room =
    (p.number ≡ 1 + sum (λ e. accepts e.answer) before)
    × (p.records ≡ length xs)
    × (p.executed ≡ sum (traded_of p.number) xs)
    × (p.records ≤ room)
    × FullIfMore p.outcome p.records room
Told before (evaluated v) xs room = (v.records ≡ length xs) × (v.records ≤ room) × FullIfMore v.outcome v.records room
Told before (cancelled q) xs room = length xs ≡ 0
Told before (refused why) xs room = length xs ≡ 0
Told before (unread fault) xs room = length xs ≡ 0

-- ## The law

-- what holds of one call after those before it, and of the state that it left
pub record Law (before : List Event) (e : Event) (u : State) : Type 0 where
  -- its executions are named, within limits, admissible or legged, and the lots afterwards are those after their takes
  pub executions : Executing (before ++ (e ∷ [])) e.before e.executions e.after
  -- of each series and side the legged executions took what it has less, in this call
  pub moved : (s : ℕ) (d : Side) → (k : ℕ) × TakenIn (before ++ (e ∷ [])) s d e.executions k × (contracts (e.before s d) ≡ k + contracts (e.after s d))
  -- and in all calls
  pub moved_in_all : (s : ℕ) (d : Side) → (k : ℕ) × TakenOver (before ++ (e ∷ [])) s d (before ++ (e ∷ [])) k × (before_calls s d (before ++ (e ∷ [])) ≡ k + after_calls s d (before ++ (e ∷ [])))
  -- of each accepted order, its quantity is executed, cancelled or resting
  pub conserved : (n : ℕ) (o : NewOrder) → Accepted (before ++ (e ∷ [])) n o → o.quantity ≡ executed (before ++ (e ∷ [])) n + cancelled_of (before ++ (e ∷ [])) n + resting u n
  pub rested : Rested (before ++ (e ∷ [])) u e.call e.answer e.after
  pub told : Told before e.answer e.executions e.room

-- every call of the list, at the state that it left
abbrev pub Laws : List Event → Type 0
Laws h = (first later : List Event) (e : Event) (u : State) → h ≡ first ++ (e ∷ later) → Run (first ++ (e ∷ [])) u → Law first e u

-- whatever calls led to the state s, with the call e they are a list of calls that obeys the law
abbrev pub Always : State → Event → State → Type 0
Always s e t = (h : List Event) → Run h s → Run (h ++ (e ∷ [])) t × Laws (h ++ (e ∷ []))

-- the theorem: every call over lists that a simple book can have, that does what the rules say
abbrev pub Theorem : Type 0
Theorem = (s t : State) (e : Event) → Lawful e.before → Happens s e t → Always s e t
