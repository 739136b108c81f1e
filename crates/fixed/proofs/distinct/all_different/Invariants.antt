use Rattle.std.proofs.Common.{◌≡◌, length}
use Rattle.fixed.specs.Lists.{all_differ}
use Rattle.fixed.proofs.distinct.all_different.Given as goal

abbrev pub invariant-loop-first : goal.invariant-loop-first
invariant-loop-first g l = all_differ g.T.PartialEq.eq l.items ≡ all_differ g.T.PartialEq.eq l.left

abbrev pub decreases-loop-first : goal.decreases-loop-first
decreases-loop-first g l = length l.left
