-- The promises of reading, at one sheet.
use Rattle.std.proofs.Common.{◌≡◌, ℕ, List, Ok, Err}
use Rattle.spelling.specs.declared.fault.SheetFault.{SheetFault}
use Rattle.spelling.specs.declared.fault.SheetFault.TheVariants.{NoBytes, AtLine}
use Rattle.spelling.specs.Sheet.{Tables, read}
use Rattle.spelling.specs.Spelling.{Within, Spelled}
use Rattle.spelling.proofs.Accepted.{accepted_exactly_spelled}
use Rattle.spelling.proofs.First.{refused_at_first_fault, refused_without_bytes}
use Rattle.sheet.specs.Tables.{FirstFault}

pub accepted : (bytes : List ℕ) (t : Tables) → read bytes ≡ Ok t → Within t × Spelled bytes t
accepted bytes t h = (accepted_exactly_spelled bytes t).0 h

first_fault : (bytes : List ℕ) (e : SheetFault) → read bytes ≡ Err e → FirstFault bytes e
first_fault bytes NoBytes h = (refused_without_bytes bytes).0 h
first_fault bytes (AtLine n f) h = ((refused_at_first_fault bytes n f).0 h).1

pub refused : (bytes : List ℕ) (e : SheetFault) → read bytes ≡ Err e → ((t : Tables) → Within t → Spelled bytes t → ⊥) × FirstFault bytes e
refused bytes e h = (
  (λ t w s. let k = (accepted_exactly_spelled bytes t).1 (w, s) in absurd cc),
  first_fault bytes e h,
)
