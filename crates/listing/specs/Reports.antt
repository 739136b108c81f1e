-- What the check of a sheet answers.
use Rattle.std.specs.Prelude.{◌≡◌, ℕ, ◌<◌, ◌≤◌, true, List, length, take, is_ok, None, Ok, Err, Option, Result, MatchResult, slice_index_or}
use Rattle.fixed.specs.Fixed.{list_of}
use Rattle.job.specs.Plain.{Job}
use Rattle.job.specs.Preview.{job_at, HighestClash}
use Rattle.spelling.specs.declared.fault.SheetFault.{SheetFault}
use Rattle.spelling.specs.Sheet.{Tables, read}
use Rattle.listing.specs.declared.fault.CheckFault.{CheckFault}
use Rattle.listing.specs.declared.fault.CheckFault.TheVariants.{TooLong, Sheet, NoMemory}
use Rattle.listing.specs.declared.report.Report.{Report}

-- a row for each job: the highest number of a job before it that clashes with it
pub record ClashRows (js : List Job) (rows : List (Option ℕ)) : Type 0 where
  pub many : length rows ≡ length js
  pub each : (i : ℕ) → i < length js → HighestClash (take i js) (job_at js i) (slice_index_or rows i None)

-- the rows of the jobs that were read
abbrev pub Rows : Result Tables SheetFault → List (Option ℕ) → Type 0
Rows (Ok t) rows = ClashRows t.jobs rows
Rows (Err e) rows = ⊥

-- when each fault is the answer: the length comes first, and only an accepted sheet can want memory
abbrev pub Refuses : List ℕ → CheckFault → Type 0
Refuses bytes TooLong = 16384 < length bytes
Refuses bytes (Sheet e) = (length bytes ≤ 16384) × (read bytes ≡ Err e)
Refuses bytes NoMemory = (length bytes ≤ 16384) × (is_ok (read bytes) ≡ true)

abbrev pub Checked : List ℕ → Result Report CheckFault → Type 0
Checked bytes r = MatchResult r (λ report. (length bytes ≤ 16384) × Rows (read bytes) (list_of report.clashes)) (Refuses bytes)
