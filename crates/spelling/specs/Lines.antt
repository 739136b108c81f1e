-- Lines: the names of the columns, a job, a wire.
use Rattle.std.specs.Prelude.{ℕ, ◌+◌, Bool, cond, not, ◌&&◌, List, [], ◌∷◌, map, length, Ok, Err, codes, Result, ◌==◌, nat_lt}
use Rattle.std.specs.List.{list_all}
use Rattle.job.specs.declared.fault.FieldFault.{FieldFault}
use Rattle.wiring.specs.declared.wire.Wire.{Wire}
use Rattle.job.specs.Admitted.{no_record}
use Rattle.fixed.specs.Lists.{distinct}
use Rattle.job.specs.Plain.{Job}
use Rattle.fixed.specs.Results.{and_then, or_else, given}
use Rattle.wiring.specs.Wires.{wired}
use Rattle.spelling.specs.declared.column.Column.{Column}
use Rattle.spelling.specs.declared.column.Column.TheVariants.{Proc, Arg, Urg, Points}
use Rattle.spelling.specs.declared.fault.LineFault.{LineFault}
use Rattle.spelling.specs.declared.fault.LineFault.TheVariants.{JobNames, FieldCount, AtField, PointTwice, TooManyJobs, TooManyWires}
use Rattle.spelling.specs.Faults.{wire_fault}
use Rattle.spelling.specs.Fields.{number, letter, points}
use Rattle.spelling.specs.Texts.{cut, all_of, same, empty, each}

-- ## The names of the columns
abbrev pub place : Column → ℕ
place Proc = 0
place Arg = 1
place Urg = 2
place Points = 3

abbrev pub name : Column → List ℕ
name Proc = codes "proc"
name Arg = codes "arg"
name Urg = codes "urg"
name Points = codes "points"

abbrev pub column : List ℕ → Result Column LineFault
column t =
    cond (same t (name Proc)) (Ok Proc)
    (cond (same t (name Arg)) (Ok Arg)
    (cond (same t (name Urg)) (Ok Urg)
    (cond (same t (name Points)) (Ok Points) (Err JobNames))))

-- four columns, no two the same: so each of the four is there once
abbrev pub order_of_four : List Column → Bool
order_of_four cs = length cs == 4 && distinct (map place cs)

abbrev pub names : List ℕ → Result (List Column) LineFault
names l = and_then (each column (all_of (cut 32 l))) (λ cs. given (order_of_four cs) JobNames (Ok cs))

-- ## The fields of a line of values
-- the fields, if they are as many as wanted and none is empty
abbrev pub split : ℕ → List ℕ → Result (List (List ℕ)) LineFault
split n l = let ts = all_of (cut 32 l) in given (length ts == n && list_all (λ t. not (empty t)) ts) (FieldCount n) (Ok ts)

-- a job with what the field of one column says
abbrev pub put : Column → List ℕ → Job → Result Job FieldFault
put Proc t j = and_then (letter t) (λ x. Ok (record { letter = x; argument = j.argument; urgency = j.urgency; points = j.points }))
put Arg t j = and_then (number 4294967295 t) (λ x. Ok (record { letter = j.letter; argument = x; urgency = j.urgency; points = j.points }))
put Urg t j = and_then (number 9 t) (λ x. Ok (record { letter = j.letter; argument = j.argument; urgency = x; points = j.points }))
put Points t j = and_then (points t) (λ x. Ok (record { letter = j.letter; argument = j.argument; urgency = j.urgency; points = x }))

-- the fields from the left, counted from k
abbrev pub fields : List Column → List (List ℕ) → ℕ → Job → Result Job LineFault
fields [] ts k j = Ok j
fields (c ∷ cs) [] k j = Ok j
fields (c ∷ cs) (t ∷ ts) k j = and_then (or_else (put c t j) (AtField k)) (fields cs ts (k + 1))

abbrev pub job_line : List Column → List Job → List ℕ → Result Job LineFault
job_line order before l =
    given (nat_lt (length before) 64) TooManyJobs
    (and_then (split 4 l) (λ ts. and_then (fields order ts 1 no_record) (λ j. given (distinct j.points) PointTwice (Ok j))))

-- ## A wire
abbrev pub wire_fields : List (List ℕ) → Result Wire LineFault
wire_fields [] = Err (FieldCount 3)
wire_fields (a ∷ []) = Err (FieldCount 3)
wire_fields (a ∷ (b ∷ [])) = Err (FieldCount 3)
wire_fields (a ∷ (b ∷ (c ∷ ts))) =
    and_then (or_else (number 255 a) (AtField 1)) (λ x.
    and_then (or_else (number 255 b) (AtField 2)) (λ y.
    and_then (or_else (number 4294967295 c) (AtField 3)) (λ z. Ok (record { from = x; to = y; delay = z }))))

abbrev pub wire_line : List Wire → List ℕ → Result Wire LineFault
wire_line before l =
    given (nat_lt (length before) 256) TooManyWires
    (and_then (split 3 l) (λ ts. and_then (wire_fields ts) (λ w. or_else (wired before w) wire_fault)))
