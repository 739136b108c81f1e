-- What one writes for tables.
use Rattle.std.specs.Prelude.{◌≡◌, ℕ, ◌≤◌, Bool, true, false, ◌⊎◌, List, [], ◌∷◌, ◌++◌, map, length, decimal}
use Rattle.std.specs.List.{AllByRecursion}
use Rattle.wiring.specs.declared.wire.Wire.{Wire}
use Rattle.fixed.specs.Lists.{distinct}
use Rattle.job.specs.Plain.{Job}
use Rattle.wiring.specs.Wires.{leaving}
use Rattle.spelling.specs.declared.column.Column.{Column}
use Rattle.spelling.specs.declared.column.Column.TheVariants.{Proc, Arg, Urg, Points}
use Rattle.spelling.specs.Lines.{name, order_of_four}
use Rattle.spelling.specs.Sheet.{Tables, wire_names}

-- pieces with one separator between two
abbrev pub join : ℕ → List (List ℕ) → List ℕ
join c [] = []
join c (l ∷ []) = l
join c (l ∷ (m ∷ ls)) = l ++ (c ∷ join c (m ∷ ls))

-- lines, each with its end
abbrev pub with_ends : List (List ℕ) → List ℕ
with_ends [] = []
with_ends (l ∷ ls) = l ++ (10 ∷ with_ends ls)

abbrev pub points_text : List ℕ → List ℕ
points_text [] = 45 ∷ []
points_text (p ∷ ps) = join 44 (map decimal (p ∷ ps))

abbrev pub text : Job → Column → List ℕ
text j Proc = j.letter ∷ []
text j Arg = decimal j.argument
text j Urg = decimal j.urgency
text j Points = points_text j.points

abbrev pub names_text : List Column → List ℕ
names_text order = join 32 (map name order)

abbrev pub job_text : List Column → Job → List ℕ
job_text order j = join 32 (map (text j) order)

abbrev pub wire_text : Wire → List ℕ
wire_text w = join 32 (decimal w.from ∷ (decimal w.to ∷ (decimal w.delay ∷ [])))

-- the names and the jobs
abbrev pub job_lines : List Column → List Job → List (List ℕ)
job_lines order js = names_text order ∷ map (job_text order) js

-- an empty line, the names and the wires
abbrev pub wire_lines : List Wire → List (List ℕ)
wire_lines ws = [] ∷ (wire_names ∷ map wire_text ws)

-- the wires' part may be left out if there are no wires
abbrev pub part : Bool → List Wire → List (List ℕ)
part true ws = wire_lines ws
part false [] = []
part false (w ∷ ws) = wire_lines (w ∷ ws)

abbrev pub spell : List Column → Bool → Tables → List ℕ
spell order with_part t = with_ends (job_lines order t.jobs ++ part with_part t.wires)

-- ## The limits of a sheet's tables
pub record WithinJob (j : Job) : Type 0 where
  pub letter : (j.letter ≡ 84) ⊎ (j.letter ≡ 83)
  pub argument : j.argument ≤ 4294967295
  pub urgency : j.urgency ≤ 9
  pub points : AllByRecursion (λ p. p ≤ 255) j.points
  pub few : length j.points ≤ 8
  pub once : distinct j.points ≡ true

pub record WithinJobs (js : List Job) : Type 0 where
  pub few : length js ≤ 64
  pub each : AllByRecursion WithinJob js

pub record WithinWire (w : Wire) : Type 0 where
  pub from : w.from ≤ 255
  pub to : w.to ≤ 255
  pub delay : w.delay ≤ 4294967295
  pub apart : w.from ≡ w.to → ⊥

pub record WithinWires (ws : List Wire) : Type 0 where
  pub few : length ws ≤ 256
  pub each : AllByRecursion WithinWire ws
  pub four : (p : ℕ) → leaving p ws ≤ 4

pub record Within (t : Tables) : Type 0 where
  pub jobs : WithinJobs t.jobs
  pub wires : WithinWires t.wires

-- the bytes are what one writes for the tables, with the names in some order
pub record Spelled (bytes : List ℕ) (t : Tables) : Type 0 where
  pub order : List Column
  pub four : order_of_four order ≡ true
  pub with_part : Bool
  pub is : bytes ≡ spell order with_part t
