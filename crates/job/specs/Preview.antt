-- What a preview answers, and what it leaves in the marks.
use Rattle.std.specs.Prelude.{◌≡◌, ℕ, ◌-◌, ◌<◌, ◌≤◌, Bool, true, false, not, List, length, replicate, Ok, Err, Option, Result, ◌==◌, ◌≢◌, slice_index, slice_index_or}
use Rattle.std.specs.Option as options
use Rattle.std.specs.Result as results
use Rattle.std.specs.List.{list_any}
use Rattle.job.specs.declared.fault.PreviewFault.{PreviewFault}
use Rattle.job.specs.declared.fault.PreviewFault.TheVariants.{WrongLength, Candidate}
use Rattle.job.specs.Admitted.{admitted, no_record}
use Rattle.job.specs.Plain.{Job, clashes}

-- the job at a place, counted from 0: job number n stands at n - 1
abbrev pub job_at : List Job → ℕ → Job
job_at js i = slice_index_or js i no_record

-- no job from place i on clashes with j
abbrev pub ClearFrom : List Job → Job → ℕ → Type 0
ClearFrom js j i = (k : ℕ) → i ≤ k → k < length js → clashes j (job_at js k) ≡ false

-- the highest number of a job that clashes with j, or nothing if none does
abbrev pub HighestClash : List Job → Job → Option ℕ → Type 0
HighestClash js j r =
    options.MatchOption r (ClearFrom js j 0) (λ n. (1 ≤ n) × (n ≤ length js) × (clashes j (job_at js (n - 1)) ≡ true) × ClearFrom js j n)

abbrev pub blank_marks : List ℕ
blank_marks = replicate 256 0

-- whether a point's mark is not blank
abbrev pub marked : List ℕ → ℕ → Bool
marked ms p = not (slice_index ms p == 0)

-- no job from place i on has a marked point
abbrev pub UnmarkedFrom : List ℕ → List Job → ℕ → Type 0
UnmarkedFrom ms js i = (k : ℕ) → i ≤ k → k < length js → list_any (marked ms) (job_at js k).points ≡ false

-- the highest number of a job that has a marked point, or nothing if none has
abbrev pub HighestMarked : List ℕ → List Job → Option ℕ → Type 0
HighestMarked ms js r =
    options.MatchOption r (UnmarkedFrom ms js 0) (λ n. (1 ≤ n) × (n ≤ length js) × (list_any (marked ms) (job_at js (n - 1)).points ≡ true) × UnmarkedFrom ms js n)

-- 256 marks end blank, whatever they held; a list of another length stays as it was
abbrev pub Blanked : List ℕ → List ℕ → Type 0
Blanked ms ms' = (length ms ≡ 256 → ms' ≡ blank_marks) × ((length ms ≢ 256) → ms' ≡ ms)

-- why a candidate is refused
abbrev pub Refused : Job → PreviewFault → Type 0
Refused j WrongLength = ⊥
Refused j (Candidate f) = admitted j ≡ Err f

-- the answer for a candidate against the jobs of a table
abbrev pub Answered : List Job → Job → Result (Option ℕ) PreviewFault → Type 0
Answered js j r = results.MatchResult r (λ o. (admitted j ≡ Ok j) × HighestClash js j o) (λ e. Refused j e)

-- a list of marks of another length comes before all else
abbrev pub Previewed : List Job → Job → List ℕ → Result (Option ℕ) PreviewFault → Type 0
Previewed js j ms r = (length ms ≡ 256 → Answered js j r) × ((length ms ≢ 256) → r ≡ Err WrongLength)
