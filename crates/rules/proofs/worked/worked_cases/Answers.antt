use Rattle.std.proofs.Common.{refl}
use Rattle.messages.specs.Bits.{field}
use Rattle.messages.specs.Layout.{unused_bits}
use Rattle.pricing.specs.Legs.{net_bid, net_offer}
use Rattle.pricing.specs.Prices.{leg_prices}
use Rattle.pricing.specs.Pair.{pair_price}
use Rattle.pricing.specs.Legging.{most, prices_taken}
use Rattle.pricing.specs.Reading.{markets_of}
use Rattle.rules.specs.Orders.{best_order, reduced, dropped, order_with}
use Rattle.rules.specs.Steps.{step_of, legs_taken, after_step, steps}
use Rattle.rules.specs.States.{strategy_at, stands_among}
use Rattle.rules.specs.Calls.{did}
use Rattle.rules.specs.Questions.{net_answer}
use Rattle.rules.proofs.worked.worked_cases.Goals as goal

pub returns : goal.returns
unfolding field unused_bits net_bid net_offer leg_prices pair_price most prices_taken markets_of best_order reduced dropped order_with step_of legs_taken after_step steps strategy_at stands_among did net_answer
returns c = record {
  even_net_market = refl;
  buy_inside_rests = record { answers = refl; executes = refl; leaves = refl };
  sell_inside_rests = record { answers = refl; executes = refl; leaves = refl };
  older_buy_pays_its_limit = record { answers = refl; executes = refl; leaves = refl };
  older_sell_gets_its_limit = record { answers = refl; executes = refl; leaves = refl };
  customer_goes_first = record { answers = refl; executes = refl; leaves = refl };
  customer_trades = refl;
  improved_leg_goes_first = record { answers = refl; executes = refl; leaves = refl };
  uneven_net_market = refl;
  legs_make_the_price = refl;
  a_cent_is_left = refl;
  no_price_no_trade = record { answers = refl; executes = refl; leaves = refl };
  legged_in_part = record { answers = refl; executes = refl; leaves = refl };
  offers_are_taken = refl;
  bids_are_taken = refl;
  third_stands = refl;
  three_eighths_stand = refl;
  fourth_is_refused = refl;
  halves_are_refused = refl;
  ratio_number = refl;
  widest_is_open = refl;
  widest_has_a_net_market = refl;
  wider_is_not = refl;
  wider_has_no_net_market = refl;
  negative_limit_is_read = refl;
  negative_limit_is_accepted = refl;
  same_bits_without_sign = refl;
  far_limit_is_refused = refl;
  limit_number = refl;
}
