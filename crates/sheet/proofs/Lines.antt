-- The lines of a sheet, one by one.
use Rattle.std.proofs.Common.{◌≡◌, ℕ, ◌+◌, false, eqb, None, Some, Option, List, [], ◌∷◌, ◌++◌, length, Ok, Err, Result, sym, refl, ap, ◌∙◌}
use Rattle.std.specs.Borrow.{Bor}
use Rattle.std.specs.Option.{option_eq}
use lib.Pointwise.{pointwise}
use Rattle.wiring.specs.declared.wire.Wire.{Wire}
use Rattle.job.specs.Plain.{Job}
use Rattle.spelling.specs.declared.fault.LineFault.{LineFault}
use Rattle.spelling.specs.declared.fault.LineFault.TheVariants.{WireNames}
use Rattle.spelling.specs.declared.fault.SheetFault.{SheetFault}
use Rattle.spelling.specs.declared.fault.SheetFault.TheVariants.{AtLine}
use Rattle.spelling.specs.Lines.{wire_line}
use Rattle.spelling.specs.Sheet.{Tables, wire_names, wires_part, wires_from}
use Rattle.spelling.specs.Texts.{Pieces, more, cut}
use Rattle.fields.specs.Reading.{placed, NextLine}
use Rattle.fields.proofs.Steps.{same_eq}
use Rattle.sheet.specs.Tables.{Adds, Takes}

-- what was added is what was read
added : {T E : Type 0} (a : Result T E) (was is : List T) → Adds a was is → (x : T) × (a ≡ Ok x) × (is ≡ was ++ (x ∷ []))
added (Ok x) was is h = (x, refl, h)
added (Err e) was is h = absurd h

taken : {T E : Type 0} (k : ℕ) (a : Result T E) (was is : List T) (r : Result (Unit {0}) E) → Ok (tt {0}) ≡ placed k r → Takes a was r is → (x : T) × (a ≡ Ok x) × (is ≡ was ++ (x ∷ []))
taken k a was is (Ok u) h t = added a was is t
taken k a was is (Err e) h t = absurd cc

-- ## Wires
wire_read : (js : List Job) (ws : List Wire) (l : List ℕ) (q : Pieces) (w : Wire) → wire_line ws l ≡ Ok w → wires_from js ws (more l q) ≡ wires_from js (ws ++ (w ∷ [])) q
wire_read js ws l q w e = rw e

pub wires_step : (js : List Job) (ws ws' : List Wire) (p q : Pieces) (l : List ℕ) (k : ℕ) (r : Result (Unit {0}) LineFault) (whole : Result Tables SheetFault) →
    p ≡ more l q → Ok (tt {0}) ≡ placed k r → Takes (wire_line ws l) ws r ws' → wires_from js ws p ≡ whole → wires_from js ws' q ≡ whole
wires_step js ws ws' p q l k r whole c o t e =
    let (w, a, b) = taken k (wire_line ws l) ws ws' r o t in
    ap (λ (v : List Wire). wires_from js v q) b ∙ (sym (ap (wires_from js ws) c ∙ wire_read js ws l q w a) ∙ e)

-- another line than the names of the wires' part, or none
pub part_refused : (js : List Job) (t t' : List ℕ) (r : Option (Bor (List ℕ))) (s : Bor (List ℕ)) (n : ℕ) →
    NextLine t r t' → s.now ≡ wire_names → option_eq (λ x y. pointwise eqb x.now y.now) r (Some s) ≡ false → n ≡ length js → wires_part js (cut 10 t) ≡ Err (AtLine (3 + n) WireNames)
part_refused js t t' None s n h w e k = rw (h.0, k)
part_refused js t t' (Some l) s n h w e k = let other = rw w at (sym (same_eq l.now s.now) ∙ e) in rw (h.0, other, k)
