use Rattle.std.proofs.Common.{refl}
use Rattle.pricing.specs.Legs.{net_bid, net_offer}
use Rattle.pricing.specs.Prices.{leg_prices}
use Rattle.pricing.specs.Pair.{pair_price}
use Rattle.pricing.specs.Reading.{markets_of}
use Rattle.pricing.proofs.worked.worked_prices.Goals as goal

pub returns : goal.returns
unfolding net_bid net_offer leg_prices pair_price markets_of
returns c = record {
  even_net = refl;
  older_buy_pays_its_limit = refl;
  older_sell_gets_its_limit = refl;
  uneven_net = refl;
  legs_make_the_price = refl;
  a_cent_is_left = refl;
  widest_is_open = refl;
  wider_is_not = refl;
}
