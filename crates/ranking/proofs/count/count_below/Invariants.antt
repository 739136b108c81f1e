use Rattle.std.proofs.Common.{◌≡◌, ◌≤◌, take}
use Rattle.ranking.specs.Orders.{count_below}
use Rattle.ranking.proofs.count.count_below.Given as goal

abbrev pub invariant-loop-x : goal.invariant-loop-x
invariant-loop-x g l = (l.count ≤ l.x-index) × (l.count ≡ count_below g.E.Order.below (take l.x-index l.all) l.one)
