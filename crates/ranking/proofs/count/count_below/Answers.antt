use Rattle.std.proofs.Common.{ap, ◌∙◌, arith, take_all, rules}
use Rattle.ranking.specs.Orders.{count_below}
use Rattle.ranking.proofs.Counts.{counted_more}
use Rattle.ranking.proofs.count.count_below.Goals as goal

pub loop-x-preserved : goal.loop-x-preserved
loop-x-preserved g c =
    let p = λ (y : g.row.E.Denot). g.E.Order.below y c.args.one.now in
    let more = counted_more p c.args.all.now c.loop-x.x-index c.x-item.result c.loop-x-test.true c.x-item.is in
    search rules

pub returns : goal.returns
returns g c =
    record {
      value = c.loop-x.invariant.1 ∙ ap (λ xs. count_below g.E.Order.below xs c.args.one.now) (take_all _ _ c.loop-x-test.false);
      bound = omega (arith, c.loop-x.invariant.0);
    }
