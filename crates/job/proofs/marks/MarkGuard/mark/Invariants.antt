use Rattle.std.proofs.Common.{◌≡◌, ℕ, ◌||◌, take}
use Rattle.fixed.specs.Lists.{has}
use Rattle.job.specs.Preview.{marked}
use Rattle.job.proofs.marks.MarkGuard.mark.Given as goal

abbrev pub invariant-loop-point : goal.invariant-loop-point
invariant-loop-point l = (p : ℕ) → marked l.marks p ≡ (marked l.fn.self.marks.now p || has (take l.point-index l.points) p)
