-- `total`: the sum of the sizes.
use Rattle.std.proofs.Common.{◌∙◌, sym, arith, rules, of_calls}
use Rattle.std.proofs.lemmas.Iterator.{YieldsList-from_slice, YieldsList-from_map}
use Rattle.std.proofs.lemmas.Iterator.Consumers.{YieldsList-at, sum_by_from_yields_List, fits_by_from_yields_list}
use Rattle.depth.proofs.Sides.{contracts_sum}
use Rattle.depth.proofs.side.total.Goals as goal

pub sum-requires : goal.sum-requires
sum-requires c =
    let sum = contracts_sum c.args.lots.now in
    record {
      can = search of_calls;
      finite = search of_calls;
      fits = fits_by_from_yields_list (λ x. x.lot.size) c.args.lots.now c.map.result _ (YieldsList-from_map _ (λ x. x.lot.size) (YieldsList-at c.map.ensures.source (YieldsList-from_slice c.args.lots.now c.iter.ensures.rest)) c.map.ensures.closure (λ x r q k. search rules)) (omega arith);
    }

pub returns : goal.returns
returns c =
    sum_by_from_yields_List (λ x. x.lot.size) c.args.lots.now c.map.result _ c.sum.ensures.ran (YieldsList-from_map _ (λ x. x.lot.size) (YieldsList-at c.map.ensures.source (YieldsList-from_slice c.args.lots.now c.iter.ensures.rest)) c.map.ensures.closure (λ x r q k. search rules))
    ∙ sym (contracts_sum c.args.lots.now)
