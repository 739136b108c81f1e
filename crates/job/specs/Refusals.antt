-- The numbers of refusals.
use Rattle.std.specs.Prelude.{ℕ, List, ◌∷◌, ◌++◌, decimal}
use Rattle.job.specs.declared.fault.FieldFault.{FieldFault}
use Rattle.job.specs.declared.fault.FieldFault.TheVariants.{NoNumber, AboveRange, UnknownLetter, TooManyPoints}
use Rattle.job.specs.declared.fault.JobFault.TheVariants.{Field, PointTwice}
use Rattle.job.specs.declared.fault.PreviewFault.{PreviewFault}
use Rattle.job.specs.declared.fault.PreviewFault.TheVariants.{WrongLength, Candidate}
use Rattle.job.specs.declared.refusal.Refusal.{Refusal}

-- the reason of a refused field
abbrev pub reason_of : FieldFault → ℕ
reason_of NoNumber = 1
reason_of (AboveRange top) = 2
reason_of UnknownLetter = 3
reason_of TooManyPoints = 4

-- a refusal without field and reason
abbrev pub line_refusal : ℕ → ℕ → Refusal
line_refusal n line = record { number = n; line = line; field = 0; reason = 0 }

-- a preview's refusals have no line and no field
abbrev pub preview_refusal : PreviewFault → Refusal
preview_refusal WrongLength = line_refusal 13 0
preview_refusal (Candidate (Field e)) = record { number = 4; line = 0; field = 0; reason = reason_of e }
preview_refusal (Candidate PointTwice) = line_refusal 5 0

-- how a refusal is written: its four numbers with a space between two
abbrev pub refusal_values : Refusal → List ℕ
refusal_values r = decimal r.number ++ (32 ∷ (decimal r.line ++ (32 ∷ (decimal r.field ++ (32 ∷ decimal r.reason)))))
