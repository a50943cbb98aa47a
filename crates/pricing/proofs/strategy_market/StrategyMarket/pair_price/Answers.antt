use Rattle.std.proofs.Common.{◌≡◌, List, ℤ, Option, sym, ap, ◌∙◌, subst, w64, to_z, of_z}
use Rattle.std.proofs.lemmas.Int.{to_z-of_z}
use Rattle.pricing.specs.declared.market.LegMarket.{LegMarket}
use Rattle.pricing.specs.declared.market.NetPrice.{NetPrice}
use Rattle.pricing.specs.Markets.{legs_of}
use Rattle.pricing.specs.Pair.{pair_price}
use Rattle.pricing.specs.Trades.{Found, First, Narrower}
use Rattle.pricing.proofs.Trades.{all_fair, found, first_one, narrower}
use Rattle.pricing.proofs.strategy_market.StrategyMarket.pair_price.Goals as goal

pub returns : goal.returns
returns c =
    let ms : List LegMarket = legs_of c.args.self.now in
    let buy = c.args.buy_limit in
    let sell = c.args.sell_limit in
    let older = c.args.buy_is_older in
    let e : c.search.result ≡ pair_price ms buy sell older =
    c.search.ensures
    ∙ ap (λ (z : ℤ). pair_price ms z (to_z w64 (of_z w64 sell)) older) (to_z-of_z w64 buy c.ranges.buy_limit)
    ∙ ap (λ (z : ℤ). pair_price ms buy z older) (to_z-of_z w64 sell c.ranges.sell_limit) in
    record {
      answer = e;
      found = subst (λ (r : Option NetPrice). Found ms buy sell r) (sym e) (found ms buy sell older);
      first = subst (λ (r : Option NetPrice). First ms buy sell older r) (sym e) (first_one ms buy sell older);
      narrower = subst (λ (r : Option NetPrice). Narrower ms buy sell r) (sym e) (narrower ms buy sell older);
      fair = all_fair ms;
    }
