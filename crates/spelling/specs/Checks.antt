-- The checks of each kind of line, in their order: a refusal is the first that fails.
use Rattle.std.specs.Prelude.{ℕ, ◌+◌, Bool, true, false, cond, not, ◌&&◌, ◌||◌, List, [], ◌∷◌, ◌++◌, map, length, Some, None, Option, ◌==◌, nat_le, nat_lt}
use Rattle.std.specs.Str.{all_ascii_digits}
use Rattle.std.specs.Str.Parse.{digits_value}
use Rattle.std.specs.List.{list_all, list_any}
use Rattle.job.specs.declared.fault.FieldFault.TheVariants.{NoNumber, AboveRange, UnknownLetter, TooManyPoints}
use Rattle.wiring.specs.declared.wire.Wire.{Wire}
use Rattle.fixed.specs.Lists.{distinct}
use Rattle.job.specs.Plain.{Job}
use Rattle.wiring.specs.Wires.{leaving}
use Rattle.spelling.specs.declared.column.Column.{Column}
use Rattle.spelling.specs.declared.column.Column.TheVariants.{Proc, Arg, Urg, Points}
use Rattle.spelling.specs.declared.fault.LineFault.{LineFault}
use Rattle.spelling.specs.declared.fault.LineFault.TheVariants.{JobNames, WireNames, Unended, FieldCount, AtField, PointTwice, TooManyJobs, TooManyWires, WireToItself, FifthWire}
use Rattle.spelling.specs.Fields.{plain}
use Rattle.spelling.specs.Lines.{name}
use Rattle.spelling.specs.Sheet.{wire_names}
use Rattle.spelling.specs.Spelling.{job_lines, wire_lines}
use Rattle.spelling.specs.Texts.{Pieces, last, more, cut, all_of, same, empty}

-- a test that a line must pass, and the fault if it does not
pub record Check : Type 0 where
  pub passes : Bool
  pub fault : LineFault

abbrev pub must : Bool → LineFault → Check
must b f = record { passes = b; fault = f }

abbrev pub first : List Check → Option LineFault
first [] = None
first (c ∷ cs) = cond c.passes (first cs) (Some c.fault)

-- ## Fields
abbrev pub number_checks : ℕ → ℕ → List ℕ → List Check
number_checks k top t = must (all_ascii_digits t && plain t) (AtField k NoNumber) ∷ (must (nat_le (digits_value 10 t) top) (AtField k (AboveRange top)) ∷ [])

abbrev pub point_checks : ℕ → List (List ℕ) → List Check
point_checks k [] = []
point_checks k (t ∷ ts) = number_checks k 255 t ++ point_checks k ts

abbrev pub field_checks : Column → ℕ → List ℕ → List Check
field_checks Proc k t = must (same t (84 ∷ []) || same t (83 ∷ [])) (AtField k UnknownLetter) ∷ []
field_checks Arg k t = number_checks k 4294967295 t
field_checks Urg k t = number_checks k 9 t
field_checks Points k t = cond (same t (45 ∷ [])) [] (must (nat_le (length (all_of (cut 44 t))) 8) (AtField k TooManyPoints) ∷ point_checks k (all_of (cut 44 t)))

abbrev pub fields_checks : List Column → ℕ → List (List ℕ) → List Check
fields_checks [] k ts = []
fields_checks (c ∷ cs) k [] = []
fields_checks (c ∷ cs) k (t ∷ ts) = field_checks c k t ++ fields_checks cs (k + 1) ts

-- whether the numbers of a list are all different
abbrev pub once_in : Column → List ℕ → Bool
once_in Proc t = true
once_in Arg t = true
once_in Urg t = true
once_in Points t = same t (45 ∷ []) || distinct (map (digits_value 10) (all_of (cut 44 t)))

abbrev pub once_each : List Column → List (List ℕ) → Bool
once_each [] ts = true
once_each (c ∷ cs) [] = true
once_each (c ∷ cs) (t ∷ ts) = once_in c t && once_each cs ts

-- ## Lines
-- the wanted number of fields, none of them empty
abbrev pub shape_check : ℕ → List (List ℕ) → Check
shape_check n ts = must (length ts == n && list_all (λ t. not (empty t)) ts) (FieldCount n)

abbrev pub is_name : List ℕ → Bool
is_name t = same t (name Proc) || (same t (name Arg) || (same t (name Urg) || same t (name Points)))

-- whether no text stands twice
abbrev pub differ : List (List ℕ) → Bool
differ [] = true
differ (t ∷ ts) = not (list_any (λ u. same t u) ts) && differ ts

abbrev pub names_checks : List ℕ → List Check
names_checks l = let ts = all_of (cut 32 l) in must (length ts == 4) JobNames ∷ (must (list_all is_name ts) JobNames ∷ (must (differ ts) JobNames ∷ []))

abbrev pub job_checks : List Column → List Job → List ℕ → List Check
job_checks order before l = let ts = all_of (cut 32 l) in
    must (nat_lt (length before) 64) TooManyJobs ∷ (shape_check 4 ts ∷ (fields_checks order 1 ts ++ (must (once_each order ts) PointTwice ∷ [])))

-- the checks of a wire's three fields and of the wire that they say
abbrev pub wire_field_checks : List Wire → List (List ℕ) → List Check
wire_field_checks before [] = []
wire_field_checks before (a ∷ []) = []
wire_field_checks before (a ∷ (b ∷ [])) = []
wire_field_checks before (a ∷ (b ∷ (c ∷ ts))) =
    number_checks 1 255 a ++ (number_checks 2 255 b ++ (number_checks 3 4294967295 c
    ++ (must (not (digits_value 10 a == digits_value 10 b)) WireToItself ∷ (must (nat_lt (leaving (digits_value 10 a) before) 4) FifthWire ∷ []))))

abbrev pub wire_checks : List Wire → List ℕ → List Check
wire_checks before l = let ts = all_of (cut 32 l) in
    must (nat_lt (length before) 256) TooManyWires ∷ (shape_check 3 ts ∷ wire_field_checks before ts)

-- ## Places in a sheet
-- a line with its end, or what is left behind the last end
pub data Line : Type 0 where
  ended : List ℕ → Line
  unended : List ℕ → Line

-- where a line may stand, with what was read before it
pub data Place : Type 0 where
  at_names : Place
  at_job : List Column → List Job → Place
  at_wire_names : List Column → List Job → Place
  at_wire : List Column → List Job → List Wire → Place

-- the lines before a place
abbrev pub before : Place → List (List ℕ)
before at_names = []
before (at_job order js) = job_lines order js
before (at_wire_names order js) = job_lines order js ++ ([] ∷ [])
before (at_wire order js ws) = job_lines order js ++ wire_lines ws

-- an empty line ends the jobs, and nothing more need follow a whole line
abbrev pub checks : Place → Line → List Check
checks at_names (ended l) = names_checks l
checks at_names (unended l) = must false JobNames ∷ []
checks (at_job order js) (ended []) = []
checks (at_job order js) (ended (x ∷ l)) = job_checks order js (x ∷ l)
checks (at_job order js) (unended []) = []
checks (at_job order js) (unended (x ∷ l)) = must (nat_lt (length js) 64) TooManyJobs ∷ (must false Unended ∷ [])
checks (at_wire_names order js) (ended l) = must (same l wire_names) WireNames ∷ []
checks (at_wire_names order js) (unended l) = must false WireNames ∷ []
checks (at_wire order js ws) (ended l) = wire_checks ws l
checks (at_wire order js ws) (unended []) = []
checks (at_wire order js ws) (unended (x ∷ l)) = must (nat_lt (length ws) 256) TooManyWires ∷ (must false Unended ∷ [])

-- a line with what follows it: nothing follows one without its end
abbrev pub followed : Line → Pieces → Pieces
followed (ended l) p = more l p
followed (unended l) p = last l

-- lines with others behind them
abbrev pub lines_then : List (List ℕ) → Pieces → Pieces
lines_then [] p = p
lines_then (l ∷ ls) p = more l (lines_then ls p)
