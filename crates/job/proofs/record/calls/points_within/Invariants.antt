use Rattle.std.proofs.Common.{◌≡◌, ℕ, true, leb, take}
use Rattle.std.specs.List.{list_all}
use Rattle.fixed.specs.Fixed.{list_of}
use Rattle.job.proofs.record.calls.points_within.Given as goal

abbrev pub invariant-loop-point : goal.invariant-loop-point
invariant-loop-point l =
    (list_of l.list ≡ take l.point-index l.points) × (list_all (λ (p : ℕ). leb p 255) (take l.point-index l.points) ≡ true)
