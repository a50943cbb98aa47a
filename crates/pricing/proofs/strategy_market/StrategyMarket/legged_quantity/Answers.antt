use Rattle.std.proofs.Common.{◌≡◌, true, false, refl, sym, ap, ◌∙◌, subst, w64}
use Rattle.std.proofs.lemmas.Int.{to_z-of_z}
use Rattle.pricing.specs.Markets.{legs_of}
use Rattle.pricing.specs.Legging.{reaches, legged_quantity, Greatest}
use Rattle.pricing.proofs.Taking.{greatest}
use Rattle.pricing.proofs.strategy_market.StrategyMarket.legged_quantity.Goals as goal

pub returns-then-is_reached-clause-greatest : goal.returns-then-is_reached-clause-greatest
returns-then-is_reached-clause-greatest c =
    let ms = legs_of c.args.self.now in
    let reached : true ≡ reaches ms c.args.buy c.args.limit = c.if-is_reached.ensures ∙ ap (λ z. reaches ms c.args.buy z) (to_z-of_z w64 c.args.limit c.ranges.limit) in
    let is : legged_quantity ms c.args.buy c.args.limit c.args.quantity ≡ c.most.result = rw (← reached) (sym c.most.ensures) in
    subst (Greatest ms c.args.buy c.args.limit c.args.quantity) is (greatest ms c.args.buy c.args.limit c.args.quantity c.args.self.now.sound)

pub returns-else-is_reached-clause-greatest : goal.returns-else-is_reached-clause-greatest
returns-else-is_reached-clause-greatest c =
    let ms = legs_of c.args.self.now in
    let short : false ≡ reaches ms c.args.buy c.args.limit = c.if-is_reached.ensures ∙ ap (λ z. reaches ms c.args.buy z) (to_z-of_z w64 c.args.limit c.ranges.limit) in
    let none : legged_quantity ms c.args.buy c.args.limit c.args.quantity ≡ 0 = rw (← short) refl in
    subst (Greatest ms c.args.buy c.args.limit c.args.quantity) none (greatest ms c.args.buy c.args.limit c.args.quantity c.args.self.now.sound)
