use Rattle.std.proofs.Common.{◌≡◌, ◌<◌, ◌≤◌, length, get_or, take, Some, None, sym, ap, ◌∙◌, arith}
use Rattle.std.specs.Option.{option_map}
use Rattle.std.proofs.lemmas.List.{length-set}
use Rattle.strategies.specs.Legs.{blank}
use Rattle.pricing.specs.Markets.{legs_of}
use Rattle.pricing.specs.Reading.{leg_market, markets_of}
use Rattle.pricing.proofs.Marketing.{market_closed, market_more, sound_more, markets_all}
use Rattle.pricing.proofs.reading.read_legs.Goals as goal

pub returns-in_err-four : goal.returns-in_err-four
returns-in_err-four g c =
    let b = g.B.SimpleBook.lots c.args.book.now in
    let legs = c.args.legs.now in
    let i = c.loop-i.i in
    let e : None ≡ leg_market b (get_or legs i blank) = c.in_err-four.ensures.answer ∙ ap (λ b. leg_market b (get_or legs i blank)) c.loop-i.invariant.0 in
    record {
      answer = ap (option_map legs_of) c.from_residual.ensures ∙ market_closed b legs i c.loop-i-test.true c.loop-i.four c.loop-i.invariant.2 e;
      lots = c.leg_market.ensures.lots ∙ c.loop-i.invariant.0;
      frame = c.leg_market.ensures.frame ∙ c.loop-i.invariant.1;
    }

pub loop-i-preserved : goal.loop-i-preserved
loop-i-preserved g c =
    let b = g.B.SimpleBook.lots c.args.book.now in
    let legs = c.args.legs.now in
    let i = c.loop-i.i in
    let lt : i < length legs = c.loop-i-test.true in
    let few : length legs ≤ 4 = c.requires.0.most in
    let m = c.in_ok-four.field-0 in
    let room : i < length c.loop-i.four = omega (arith, c.loop-i.invariant.4) in
    let e : Some m ≡ leg_market b (get_or legs i blank) = c.in_ok-four.ensures.answer ∙ ap (λ b. leg_market b (get_or legs i blank)) c.loop-i.invariant.0 in (
      c.leg_market.ensures.lots ∙ c.loop-i.invariant.0,
      c.leg_market.ensures.frame ∙ c.loop-i.invariant.1,
      market_more b legs i lt c.loop-i.four c.loop-i.invariant.2 m e room,
      sound_more i c.loop-i.four m room c.loop-i.invariant.3 c.in_ok-four.ensures.sound,
      length-set c.loop-i.four i m ∙ c.loop-i.invariant.4,
    )

pub returns : goal.returns
returns g c =
    let b = g.B.SimpleBook.lots c.args.book.now in
    let legs = c.args.legs.now in
    let i = c.loop-i.i in
    let end : i ≡ length legs = omega arith in
    let all : markets_of b legs ≡ Some (take i c.loop-i.four) = markets_all b legs i c.loop-i.four c.loop-i-test.false c.loop-i.invariant.2 in
    record {
      answer = sym (all ∙ ap (λ n. Some (take n c.loop-i.four)) end);
      lots = c.loop-i.invariant.0;
      frame = c.loop-i.invariant.1;
    }
