-- The keys that the precedences give to a job and its number.
use Rattle.std.specs.Prelude.{ℕ, length}
use Rattle.job.specs.Plain.{Job}

abbrev pub sheet_key : Job → ℕ → ℕ
sheet_key job n = n

-- the urgency, then the count of points
abbrev pub urgency_key : Job → ℕ → ℕ × ℕ
urgency_key job n = (job.urgency, length job.points)
