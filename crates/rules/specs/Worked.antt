-- Worked cases of the calls, by computation: a spread of ratios 1 and 1, one of ratios 2 and 3, and two messages.
use Rattle.std.specs.Prelude.{◌≡◌, ℕ, true, false, List, [], ◌∷◌, ℤ, pos, neg_ℤ, Some, None, Ok, Option, Result}
use Rattle.refusals.specs.declared.reason.Reason.TheVariants.{Ratio, Limit}
use Rattle.refusals.specs.declared.station.Station.TheVariants.{Define, Place}
use Rattle.refusals.specs.declared.refusal.Refusal.{Refusal}
use Rattle.refusals.specs.Reasons.{number_of}
use Rattle.refusals.specs.Refusals.{refused_at}
use Rattle.contents.specs.declared.sides.OrderSide.{OrderSide}
use Rattle.contents.specs.declared.sides.OrderSide.TheVariants.{Buy, Sell}
use Rattle.contents.specs.declared.time.TimeInForce.TheVariants.{Day}
use Rattle.simple.specs.declared.lot.Side.{Side}
use Rattle.simple.specs.declared.lot.Side.TheVariants.{Bid, Offer}
use Rattle.simple.specs.declared.lot.Lot.{Lot}
use Rattle.simple.specs.Lots.{Lots, lot_at}
use Rattle.strategies.specs.Worked.{two_legs}
use Rattle.pricing.specs.Prices.{leg_prices}
use Rattle.pricing.specs.Reading.{markets_of}
use Rattle.pricing.specs.Worked.{twenty, two_series, spread, even_book, uneven_book, on, open_at}
use Rattle.rules.specs.declared.order.NewOrder.{NewOrder}
use Rattle.rules.specs.declared.order.Order.{Order}
use Rattle.rules.specs.declared.execution.Execution.{Execution}
use Rattle.rules.specs.declared.answer.Outcome.TheVariants.{AtRest}
use Rattle.rules.specs.States.{State, opened}
use Rattle.rules.specs.Events.{Call, define, place, Answer, defined, placed, refused, call_of}
use Rattle.rules.specs.Calls.{Did, did}
use Rattle.rules.specs.Questions.{net_answer}

-- the list of executions has four places
abbrev pub list_room : ℕ
list_room = 4

-- what calls over one book leave, each after the other
abbrev pub after_calls : Lots → State → List Call → State
after_calls b s [] = s
after_calls b s (c ∷ cs) = after_calls b (did s c b list_room).next cs

-- what the last call does, after the others and the opening of an engine
abbrev pub after_all : Lots → List Call → Call → Did
after_all b cs c = did (after_calls b (opened true) cs) c b list_room

-- the definitions of the two spreads: series 10 bought, series 11 sold
abbrev pub even_spread : Call
even_spread = define (two_legs 1 1)

abbrev pub uneven_spread : Call
uneven_spread = define (two_legs 2 3)

-- four strategies, numbered from 0 to 3
abbrev pub four_defined : List Call
four_defined = define (two_legs 1 1) ∷ define (two_legs 1 2) ∷ define (two_legs 1 3) ∷ define (two_legs 2 3) ∷ []

-- a day order of a limit, for so many of a strategy
abbrev pub day_order : ℕ → OrderSide → ℤ → ℕ → NewOrder
day_order s side limit q = record { strategy = s; side = side; market = false; limit = limit; time_in_force = Day; quantity = q }

-- a day buy, and a day sell, of strategy 0
abbrev pub buy_at : ℕ → ℕ → Call
buy_at limit q = place (day_order 0 Buy (pos limit) q)

abbrev pub sell_at : ℕ → ℕ → Call
sell_at limit q = place (day_order 0 Sell (pos limit) q)

-- what rests of them, by acceptance number
abbrev pub buy_left : ℕ → ℕ → ℕ → Order
buy_left n limit q = record { strategy = 0; buy = true; limit = Some (pos limit); number = n; quantity = q }

abbrev pub sell_left : ℕ → ℕ → ℕ → Order
sell_left n limit q = record { strategy = 0; buy = false; limit = Some (pos limit); number = n; quantity = q }

-- an execution of strategy 0, with the numbers of the buy and of the sell, and its two leg prices
abbrev pub traded : (price quantity buy sell first second : ℕ) → Execution
traded price quantity buy sell first second = record { strategy = 0; price = pos price; quantity = quantity; buy = buy; sell = sell; legs = first ∷ second ∷ 0 ∷ 0 ∷ [] }

-- a day order accepted under this number, so much of it executed in so many records, with no step left
abbrev pub accepted_as : (number records executed : ℕ) → Answer
accepted_as number records executed = placed (record { number = number; records = records; executed = executed; cancelled = 0; outcome = AtRest })

-- what a call answers, what it executes and which orders rest afterwards
pub record ComesTo (d : Did) (answer : Answer) (executions : List Execution) (orders : List Order) : Type 0 where
  pub answers : d.answer ≡ answer
  pub executes : d.executions ≡ executions
  pub leaves : d.next.orders ≡ orders

-- one lot of 20 contracts a side, the bid's of a Priority Customer
abbrev pub customer_bid : ℕ → ℕ → Side → List Lot
customer_bid bid offer Bid = lot_at bid 20 true ∷ []
customer_bid bid offer Offer = lot_at offer 20 false ∷ []

-- the even spread's book, with a Priority Customer at the bid of series 11
abbrev pub customer_book : Lots
customer_book = two_series (twenty 300 310) (customer_bid 120 125)

-- the even spread's book, with another market of series 10
abbrev pub wide_book : ℕ → ℕ → Lots
wide_book bid offer = two_series (twenty bid offer) (twenty 120 125)

-- the net market of strategy 0 after its definition
abbrev pub net_after : Lots → Call → Result (Option (ℤ × ℤ)) Refusal
net_after b c = net_answer (after_calls b (opened true) (c ∷ [])) b 0

abbrev pub net_is : ℕ → ℕ → Result (Option (ℤ × ℤ)) Refusal
net_is bid offer = Ok (Some (pos bid, pos offer))

-- what defining two legs of these ratios answers
abbrev pub defining : ℕ → ℕ → Answer
defining a b = (after_all even_book [] (define (two_legs a b))).answer

-- the bytes of a message behind a first byte, which has the edition and the kind
abbrev pub message_behind : ℕ → List ℕ
message_behind head = head ∷ 3 ∷ 15 ∷ 255 ∷ 255 ∷ 253 ∷ 208 ∷ 0 ∷ 160 ∷ 0 ∷ 0 ∷ 0 ∷ 0 ∷ 0 ∷ []

-- the same message in the edition whose limits have a sign, and in the one whose limits have none
abbrev pub with_sign : List ℕ
with_sign = message_behind 33

abbrev pub without_sign : List ℕ
without_sign = message_behind 17

pub record Worked : Type 0 where
  -- net bid 300 − 125, net offer 310 − 120
  pub even_net_market : net_after even_book even_spread ≡ net_is 175 190
  -- a limit inside the net market is not legged: the order rests
  pub buy_inside_rests : ComesTo (after_all even_book (even_spread ∷ []) (buy_at 185 10)) (accepted_as 1 0 0) [] (buy_left 1 185 10 ∷ [])
  pub sell_inside_rests : ComesTo (after_all even_book (even_spread ∷ []) (sell_at 180 10)) (accepted_as 1 0 0) [] (sell_left 1 180 10 ∷ [])
  -- the buy is older: the trade is at its limit
  pub older_buy_pays_its_limit : ComesTo (after_all even_book (even_spread ∷ buy_at 185 10 ∷ []) (sell_at 180 4)) (accepted_as 2 1 4) (traded 185 4 1 2 305 120 ∷ []) (buy_left 1 185 6 ∷ [])
  -- the sell is older: the trade is at its limit
  pub older_sell_gets_its_limit : ComesTo (after_all even_book (even_spread ∷ sell_at 180 10 ∷ []) (buy_at 185 4)) (accepted_as 2 1 4) (traded 180 4 2 1 300 120 ∷ []) (sell_left 1 180 6 ∷ [])
  -- at 190 no leg improves and one meets the customer: no pair, so the buy takes the simple book, and the sell rests
  pub customer_goes_first : ComesTo (after_all customer_book (even_spread ∷ sell_at 190 10 ∷ []) (buy_at 190 4)) (accepted_as 2 1 4) (traded 190 4 2 0 310 120 ∷ []) (sell_left 1 190 10 ∷ [])
  -- 4 of the customer's 20 are taken
  pub customer_trades : (after_all customer_book (even_spread ∷ sell_at 190 10 ∷ []) (buy_at 190 4)).after 11 Bid ≡ lot_at 120 16 true ∷ []
  -- at 189 a leg improves: the pair trades beside the customer
  pub improved_leg_goes_first : ComesTo (after_all customer_book (even_spread ∷ sell_at 189 10 ∷ []) (buy_at 190 4)) (accepted_as 2 1 4) (traded 189 4 2 1 309 120 ∷ []) (sell_left 1 189 6 ∷ [])
  -- net bid 2 × 300 − 3 × 122, net offer 2 × 302 − 3 × 120
  pub uneven_net_market : net_after uneven_book uneven_spread ≡ net_is 234 244
  pub legs_make_the_price : on (markets_of uneven_book (spread 2 3)) (λ ms. leg_prices ms (pos 240)) ≡ Some (300 ∷ 120 ∷ [])
  pub a_cent_is_left : on (markets_of uneven_book (spread 2 3)) (λ ms. leg_prices ms (pos 241)) ≡ None
  -- a buy and a sell of the same limit, which no leg prices make, both rest
  pub no_price_no_trade : ComesTo (after_all uneven_book (uneven_spread ∷ sell_at 241 10 ∷ []) (buy_at 241 10)) (accepted_as 2 0 0) [] (buy_left 2 241 10 ∷ sell_left 1 241 10 ∷ [])
  -- 20 of series 11 at ratio 3 are enough for 6
  pub legged_in_part : ComesTo (after_all uneven_book (uneven_spread ∷ []) (buy_at 244 10)) (accepted_as 1 1 6) (traded 244 6 1 0 302 120 ∷ []) (buy_left 1 244 4 ∷ [])
  -- which take 2 × 6 of the one series and 3 × 6 of the other
  pub offers_are_taken : (after_all uneven_book (uneven_spread ∷ []) (buy_at 244 10)).after 10 Offer ≡ lot_at 302 8 false ∷ []
  pub bids_are_taken : (after_all uneven_book (uneven_spread ∷ []) (buy_at 244 10)).after 11 Bid ≡ lot_at 120 2 false ∷ []
  -- ratios 1 to 3 and 3 to 8 stand
  pub third_stands : defining 1 3 ≡ defined 0
  pub three_eighths_stand : defining 3 8 ≡ defined 0
  -- 4 is above three times 1, and 2 divides both 2 and 4
  pub fourth_is_refused : defining 1 4 ≡ refused (refused_at Define Ratio)
  pub halves_are_refused : defining 2 4 ≡ refused (refused_at Define Ratio)
  pub ratio_number : ◌≡◌ {A = ℕ} (number_of Ratio) 13
  -- a leg whose offer is 500 above its bid is open, and the strategy has a net market
  pub widest_is_open : open_at 300 800 ≡ true
  pub widest_has_a_net_market : net_after (wide_book 300 800) even_spread ≡ net_is 175 680
  -- 501 above it is not, and the strategy has none
  pub wider_is_not : open_at 300 801 ≡ false
  pub wider_has_no_net_market : net_after (wide_book 300 801) even_spread ≡ Ok None
  -- a message whose limit is −35, which is accepted where strategy 3 is defined
  pub negative_limit_is_read : call_of with_sign ≡ place (day_order 3 Buy (neg_ℤ (pos 35)) 10)
  pub negative_limit_is_accepted : (after_all uneven_book four_defined (call_of with_sign)).answer ≡ accepted_as 1 0 0
  -- the same bits without a sign are a limit of 4,294,967,261, which is too far from 0
  pub same_bits_without_sign : call_of without_sign ≡ place (day_order 3 Buy (pos 4294967261) 10)
  pub far_limit_is_refused : (after_all uneven_book four_defined (call_of without_sign)).answer ≡ refused (refused_at Place Limit)
  pub limit_number : ◌≡◌ {A = ℕ} (number_of Limit) 23
