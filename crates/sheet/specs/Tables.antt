-- What a reading leaves in the tables.
use Rattle.std.specs.Prelude.{◌≡◌, ℕ, Bool, cond, List, [], ◌∷◌, ◌++◌, IfErr, Ok, Err, Result, MatchResult}
use Rattle.wiring.specs.declared.wire.Wire.{Wire}
use Rattle.job.specs.Plain.{Job}
use Rattle.spelling.specs.declared.fault.SheetFault.{SheetFault}
use Rattle.spelling.specs.declared.fault.SheetFault.TheVariants.{NoBytes, AtLine}
use Rattle.spelling.specs.Laws.{FaultyLine}
use Rattle.spelling.specs.Sheet.{Tables, read, wires_part}
use Rattle.spelling.specs.Spelling.{Within, Spelled}
use Rattle.spelling.specs.Texts.{Pieces}

-- an element more, if one was read
abbrev pub Adds : {T E : Type 0} → Result T E → List T → List T → Type 0
Adds (Ok x) was is = is ≡ was ++ (x ∷ [])
Adds (Err e) was is = ⊥

-- what was read stands behind what was there; a fault changes nothing
abbrev pub Takes : {T E : Type 0} → Result T E → List T → Result (Unit {0}) E → List T → Type 0
Takes a was r is = MatchResult r (λ _. Adds a was is) (λ e. (a ≡ Err e) × (is ≡ was))

-- the tables that were to be read, or the same fault
abbrev pub Leaves : Result Tables SheetFault → Result (Unit {0}) SheetFault → List Job → List Wire → Type 0
Leaves a r js ws = MatchResult r (λ _. a ≡ Ok (record { jobs = js; wires = ws })) (λ e. a ≡ Err e)

-- the jobs that were to be read, and whether the wires' part p follows, or the same fault
abbrev pub Follows : Result Tables SheetFault → Result Bool SheetFault → List Job → Pieces → Type 0
Follows a r js p = MatchResult r (λ follows. a ≡ cond follows (wires_part js p) (Ok (record { jobs = js; wires = [] }))) (λ e. a ≡ Err e)

-- what reading a sheet answers and leaves: the tables that it says, or its first fault and no tables
abbrev pub Read : List ℕ → Result (Unit {0}) SheetFault → List Job → List Wire → Type 0
Read bytes r js ws = MatchResult r (λ _. read bytes ≡ Ok (record { jobs = js; wires = ws })) (λ e. (read bytes ≡ Err e) × (js ≡ []) × (ws ≡ []))

-- accepted exactly if the bytes spell tables within the limits, which are then the tables that were read
abbrev pub Spells : List ℕ → Result (Unit {0}) SheetFault → List Job → List Wire → Type 0
Spells bytes r js ws = MatchResult r (λ _. Within (record { jobs = js; wires = ws }) × Spelled bytes (record { jobs = js; wires = ws })) (λ _. (t : Tables) → Within t → Spelled bytes t → ⊥)

-- no bytes, or a line that is the first faulty one, by the first of its checks that fails
abbrev pub FirstFault : List ℕ → SheetFault → Type 0
FirstFault bytes NoBytes = bytes ≡ []
FirstFault bytes (AtLine n f) = FaultyLine bytes n f

abbrev pub Faults : List ℕ → Result (Unit {0}) SheetFault → Type 0
Faults bytes r = IfErr r (FirstFault bytes)
