-- What is said of a proposal on a board of some size.
use Rattle.std.specs.Prelude.{◌≡◌, ℕ, true, false, map, Some, None, Option}
use Rattle.fixed.specs.Fixed.{list_of}
use Rattle.fixed.specs.declared.list.FixedList.{FixedList}
use Rattle.job.specs.Records.{job_of}
use Rattle.job.specs.declared.record.JobRecord.{JobRecord}
use Rattle.procedure.specs.Proposals.{Proposed, spoilt}

-- good with just its follow-ups, or spoilt
abbrev pub Judged : ℕ → Proposed → Option (FixedList JobRecord 4) → Type 0
Judged size p (Some jobs) = (spoilt size p ≡ false) × (map job_of (list_of jobs) ≡ p.followups)
Judged size p None = spoilt size p ≡ true
