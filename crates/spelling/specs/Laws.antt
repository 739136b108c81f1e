-- What reading a sheet promises, in the words of the sheet.
use Rattle.std.specs.Prelude.{◌≡◌, ℕ, ◌+◌, ◌≤◌, true, false, ◌↔◌, List, [], ◌++◌, length, Some, Ok, Err, decimal}
use Rattle.spelling.specs.declared.fault.LineFault.{LineFault}
use Rattle.spelling.specs.declared.fault.SheetFault.TheVariants.{NoBytes, AtLine}
use Rattle.spelling.specs.Checks.{Line, Place, at_names, at_job, at_wire_names, at_wire, before, checks, first, followed, lines_then}
use Rattle.spelling.specs.Fields.{number}
use Rattle.spelling.specs.Lines.{order_of_four}
use Rattle.spelling.specs.Sheet.{Tables, read_lines, read}
use Rattle.spelling.specs.Spelling.{with_ends, WithinJobs, WithinWires, Within, Spelled}
use Rattle.spelling.specs.Texts.{Pieces, cut, empty}

-- ## A number is read exactly as it is written
abbrev pub NumberExactlyWritten : Type 0
NumberExactlyWritten = (top : ℕ) → top ≤ 4294967295 → (t : List ℕ) (n : ℕ) → (number top t ≡ Ok n) ↔ ((t ≡ decimal n) × (n ≤ top))

-- ## Accepted exactly when it is a spelling
abbrev pub AcceptedExactlySpelled : Type 0
AcceptedExactlySpelled = (bytes : List ℕ) (t : Tables) → (read bytes ≡ Ok t) ↔ (Within t × Spelled bytes t)

-- a sheet spells only one pair of tables
abbrev pub SpelledOnce : Type 0
SpelledOnce = (bytes : List ℕ) (t u : Tables) → Within t → Spelled bytes t → Within u → Spelled bytes u → t ≡ u

-- ## Refused at the first fault
-- what was read before a place keeps the limits
abbrev pub Sound : Place → Type 0
Sound at_names = Unit {0}
Sound (at_job order js) = (order_of_four order ≡ true) × WithinJobs js
Sound (at_wire_names order js) = (order_of_four order ≡ true) × WithinJobs js
Sound (at_wire order js ws) = (order_of_four order ≡ true) × WithinJobs js × WithinWires ws

-- line n is faulty: the lines before it are those of a place, and of the checks at that place f is the first that fails
pub record FaultyLine (bytes : List ℕ) (n : ℕ) (f : LineFault) : Type 0 where
  pub place : Place
  pub sound : Sound place
  pub number : n ≡ 1 + length (before place)
  pub line : Line
  pub after : Pieces
  pub is : cut 10 bytes ≡ lines_then (before place) (followed line after)
  pub fault : first (checks place line) ≡ Some f

abbrev pub RefusedAtFirstFault : Type 0
RefusedAtFirstFault = (bytes : List ℕ) (n : ℕ) (f : LineFault) → (read bytes ≡ Err (AtLine n f)) ↔ ((empty bytes ≡ false) × FaultyLine bytes n f)

-- the lines before a place begin an accepted sheet
pub record Begins (p : Place) : Type 0 where
  pub goes_on : List (List ℕ)
  pub tables : Tables
  pub accepted : read (with_ends (before p ++ goes_on)) ≡ Ok tables

abbrev pub FaultlessBefore : Type 0
FaultlessBefore = (p : Place) → Sound p → Begins p

-- whatever follows a faulty line, the refusal is the same
abbrev pub SameWhateverFollows : Type 0
SameWhateverFollows = (p : Place) (l : Line) (f : LineFault) → Sound p → first (checks p l) ≡ Some f → (q : Pieces) → read_lines (lines_then (before p) (followed l q)) ≡ Err (AtLine (1 + length (before p)) f)

abbrev pub RefusedWithoutBytes : Type 0
RefusedWithoutBytes = (bytes : List ℕ) → (read bytes ≡ Err NoBytes) ↔ (bytes ≡ [])
