-- The sheet: from bytes to tables, or to the first fault.
use Rattle.std.specs.Prelude.{ℕ, ◌+◌, cond, not, List, [], ◌∷◌, ◌++◌, length, Ok, Err, codes, Result, nat_lt}
use Rattle.wiring.specs.declared.wire.Wire.{Wire}
use Rattle.job.specs.Plain.{Job}
use Rattle.fixed.specs.Results.{and_then, or_else, given}
use Rattle.spelling.specs.declared.column.Column.{Column}
use Rattle.spelling.specs.declared.fault.LineFault.TheVariants.{JobNames, WireNames, Unended, TooManyJobs, TooManyWires}
use Rattle.spelling.specs.declared.fault.SheetFault.{SheetFault}
use Rattle.spelling.specs.declared.fault.SheetFault.TheVariants.{NoBytes, AtLine}
use Rattle.spelling.specs.Lines.{names, job_line, wire_line}
use Rattle.spelling.specs.Texts.{Pieces, last, more, cut, same, empty}

pub record Tables : Type 0 where
  pub jobs : List Job
  pub wires : List Wire

-- the names of the wires' part
abbrev pub wire_names : List ℕ
wire_names = codes "from to delay"

-- behind the names stands one line for each job
abbrev pub job_number : List Job → ℕ
job_number js = 2 + length js

-- behind the jobs stand an empty line, the names, and one line for each wire
abbrev pub wire_number : List Job → List Wire → ℕ
wire_number js ws = 4 + length js + length ws

-- the wires, behind those that are there
abbrev pub wires_from : List Job → List Wire → Pieces → Result Tables SheetFault
wires_from js ws (last l) = given (empty l) (AtLine (wire_number js ws) (cond (nat_lt (length ws) 256) Unended TooManyWires)) (Ok (record { jobs = js; wires = ws }))
wires_from js ws (more l p) = and_then (or_else (wire_line ws l) (AtLine (wire_number js ws))) (λ w. wires_from js (ws ++ (w ∷ [])) p)

-- the wires' part, behind the empty line
abbrev pub wires_part : List Job → Pieces → Result Tables SheetFault
wires_part js (last l) = Err (AtLine (3 + length js) WireNames)
wires_part js (more l p) = given (same l wire_names) (AtLine (3 + length js) WireNames) (wires_from js [] p)

-- the jobs, behind those that are there; an empty line ends them
abbrev pub jobs_from : List Column → List Job → Pieces → Result Tables SheetFault
jobs_from order js (last l) = given (empty l) (AtLine (job_number js) (cond (nat_lt (length js) 64) Unended TooManyJobs)) (Ok (record { jobs = js; wires = [] }))
jobs_from order js (more l p) =
    cond (empty l) (wires_part js p)
    (and_then (or_else (job_line order js l) (AtLine (job_number js))) (λ j. jobs_from order (js ++ (j ∷ [])) p))

abbrev pub read_lines : Pieces → Result Tables SheetFault
read_lines (last l) = Err (AtLine 1 JobNames)
read_lines (more l p) = and_then (or_else (names l) (AtLine 1)) (λ order. jobs_from order [] p)

abbrev pub read : List ℕ → Result Tables SheetFault
read bytes = given (not (empty bytes)) NoBytes (read_lines (cut 10 bytes))
