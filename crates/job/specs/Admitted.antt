-- Which plain jobs are job records.
use Rattle.std.specs.Prelude.{ℕ, ◌&&◌, leb, List, [], length, Ok, Result, nat_le}
use Rattle.std.specs.List.{list_all}
use Rattle.job.specs.declared.fault.FieldFault.{FieldFault}
use Rattle.job.specs.declared.fault.FieldFault.TheVariants.{AboveRange, UnknownLetter, TooManyPoints}
use Rattle.job.specs.declared.fault.JobFault.{JobFault}
use Rattle.job.specs.declared.fault.JobFault.TheVariants.{Field, PointTwice}
use Rattle.fixed.specs.Lists.{distinct}
use Rattle.job.specs.Plain.{Job}
use Rattle.fixed.specs.Results.{given, and_then, or_else}

-- a letter from A to Z
abbrev pub letter_within : ℕ → Result ℕ FieldFault
letter_within l = given (nat_le 65 l && nat_le l 90) UnknownLetter (Ok l)

abbrev pub urgency_within : ℕ → Result ℕ FieldFault
urgency_within u = given (nat_le u 9) (AboveRange 9) (Ok u)

-- at most 8 points, each at most 255
abbrev pub points_within : List ℕ → Result (List ℕ) FieldFault
points_within ps = given (nat_le (length ps) 8) TooManyPoints (given (list_all (λ p. leb p 255) ps) (AboveRange 255) (Ok ps))

-- a job as it is, or its first fault
abbrev pub admitted : Job → Result Job JobFault
admitted j =
    and_then (or_else (letter_within j.letter) Field) (λ _.
    and_then (or_else (urgency_within j.urgency) Field) (λ _.
    and_then (or_else (points_within j.points) Field) (λ _.
    given (distinct j.points) PointTwice (Ok j))))

-- the same of a job whose points are few and small already
abbrev pub assembled : Job → Result Job JobFault
assembled j =
    and_then (or_else (letter_within j.letter) Field) (λ _.
    and_then (or_else (urgency_within j.urgency) Field) (λ _.
    given (distinct j.points) PointTwice (Ok j)))

-- a job of letter T with nothing in it
abbrev pub no_record : Job
no_record = record { letter = 84; argument = 0; urgency = 0; points = [] }
