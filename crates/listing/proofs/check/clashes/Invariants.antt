use Rattle.std.proofs.Common.{◌≡◌, map, length, take}
use Rattle.fixed.specs.Fixed.{list_of}
use Rattle.job.specs.Records.{job_of, jobs_of}
use Rattle.listing.proofs.Rows.{RowsTo}
use Rattle.listing.proofs.check.clashes.Given as goal

abbrev pub invariant-loop-job : goal.invariant-loop-job
invariant-loop-job l =
    (length l.marks ≡ 256)
    × (jobs_of l.earlier ≡ take l.job-index (map job_of l.job-items))
    × RowsTo (map job_of l.job-items) l.job-index (list_of l.rows)
