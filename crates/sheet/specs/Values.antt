-- The values of a job line.
use Rattle.std.specs.Prelude.{◌≡◌, ℕ, List, Ok, Err, Result, MatchResult}
use Rattle.job.specs.declared.fault.FieldFault.{FieldFault}
use Rattle.fixed.specs.Fixed.{list_of}
use Rattle.job.specs.Plain.{Job}
use Rattle.spelling.specs.declared.column.Column.{Column}
use Rattle.spelling.specs.Lines.{put}
use Rattle.sheet.specs.declared.values.Values.{Values}

abbrev pub values_of : Values → Job
values_of v = record { letter = v.letter; argument = v.argument; urgency = v.urgency; points = list_of v.points }

-- the values with what the text of one column says; a refused field changes nothing
abbrev pub Puts : Column → List ℕ → Job → Result (Unit {0}) FieldFault → Job → Type 0
Puts c t was r is = MatchResult r (λ _. put c t was ≡ Ok is) (λ e. (put c t was ≡ Err e) × (is ≡ was))
