-- Every sheet spells tables or has a first faulty line, and reading says which.
use Rattle.std.proofs.Common.{◌≡◌, ℕ, ◌+◌, ◌<◌, Bool, true, false, cond, eqb, ltb, List, [], ◌∷◌, ◌++◌, map, length, Some, Ok, Err, Result, sym, refl, ap, ◌∙◌, true≢false, append_assoc, append-nil, arith, length-append}
use lib.ListN.{length-map}
use Rattle.std.proofs.ByRecursion.{All-push}
use Rattle.std.proofs.lemmas.List.{map_push}
use Rattle.std.proofs.lemmas.Bool.{eqb-true}
use Rattle.wiring.specs.declared.wire.Wire.{Wire}
use Rattle.job.specs.Plain.{Job}
use Rattle.wiring.specs.Wires.{leaving}
use Rattle.fixed.proofs.Pushing.{by_bool}
use Rattle.wiring.proofs.Counts.{leaving_push}
use Rattle.spelling.specs.declared.column.Column.{Column}
use Rattle.spelling.specs.declared.column.Column.TheVariants.{Proc, Arg, Urg, Points}
use Rattle.spelling.specs.declared.fault.LineFault.{LineFault}
use Rattle.spelling.specs.declared.fault.LineFault.TheVariants.{JobNames, WireNames, Unended, TooManyJobs, TooManyWires}
use Rattle.spelling.specs.declared.fault.SheetFault.{SheetFault}
use Rattle.spelling.specs.declared.fault.SheetFault.TheVariants.{NoBytes, AtLine}
use Rattle.spelling.specs.Checks.{Line, ended, unended, Place, at_names, at_job, at_wire_names, at_wire, before, must, first, names_checks, job_checks, wire_checks, checks, followed, lines_then}
use Rattle.spelling.specs.Laws.{Sound, FaultyLine, RefusedAtFirstFault, SameWhateverFollows, RefusedWithoutBytes, Begins, FaultlessBefore}
use Rattle.spelling.specs.Lines.{order_of_four, names, job_line, wire_line}
use Rattle.spelling.specs.Sheet.{Tables, wire_names, job_number, wire_number, read_lines, read}
use Rattle.spelling.specs.Spelling.{job_text, wire_text, job_lines, wire_lines, part, WithinJob, WithinJobs, WithinWire, WithinWires, Within}
use Rattle.spelling.specs.Texts.{Pieces, last, more, cut, same, empty}
use Rattle.spelling.proofs.Basics.{by_result, same_true, lines_append}
use Rattle.spelling.proofs.Lines.{names_back, job_line_back, wire_line_back}
use Rattle.spelling.proofs.Ordered.{agrees_err, agrees_at_err, names_agree, job_line_agrees, wire_line_agrees}
use Rattle.spelling.proofs.Reached.{jobs_reached, part_reached, wires_reached, lines_read, spelled_read}

-- ## A faulty line is refused
-- which line stands at a place
job_line_number : (cs : List Column) (js : List Job) → 1 + length (job_lines cs js) ≡ job_number js
job_line_number cs js = simp length-map (omega arith)

part_line_number : (cs : List Column) (js : List Job) → 1 + length (job_lines cs js ++ ([] ∷ [])) ≡ 3 + length js
part_line_number cs js = simp (length-append, length-map) (omega arith)

wire_line_number : (cs : List Column) (js : List Job) (ws : List Wire) → 1 + length (job_lines cs js ++ wire_lines ws) ≡ wire_number js ws
wire_line_number cs js ws = simp (length-append, length-map) (omega arith)

pub same_whatever_follows : SameWhateverFollows
same_whatever_follows at_names (ended l) f s h q = rw (agrees_err (names l) (names_checks l) f (names_agree l) h)
same_whatever_follows at_names (unended l) f s h q = cc
same_whatever_follows (at_job cs js) (ended []) f s h q = absurd cc
same_whatever_follows (at_job cs js) (ended (x ∷ l)) f s h q =
    rw (jobs_reached cs s.0 js s.1 (more (x ∷ l) q), job_line_number cs js, agrees_err (job_line cs js (x ∷ l)) (job_checks cs js (x ∷ l)) f (job_line_agrees cs js (x ∷ l) s.0) h)
same_whatever_follows (at_job cs js) (unended l) f s h q = rw (jobs_reached cs s.0 js s.1 (last l), job_line_number cs js) (grind arith)
same_whatever_follows (at_wire_names cs js) (ended l) f s h q = rw (part_reached cs s.0 js s.1 (more l q), part_line_number cs js) (grind arith)
same_whatever_follows (at_wire_names cs js) (unended l) f s h q = rw (part_reached cs s.0 js s.1 (last l), part_line_number cs js) (grind arith)
same_whatever_follows (at_wire cs js ws) (ended l) f s h q =
    rw (wires_reached cs s.0 js s.1 ws s.2 (more l q), wire_line_number cs js ws, agrees_err (wire_line ws l) (wire_checks ws l) f (wire_line_agrees ws l) h)
same_whatever_follows (at_wire cs js ws) (unended l) f s h q = rw (wires_reached cs s.0 js s.1 ws s.2 (last l), wire_line_number cs js ws) (grind arith)

-- ## Every sheet spells tables or has a faulty line
pub data Outcome : Pieces → Type 0 where
  spelled : {p : Pieces} (cs : List Column) (b : Bool) (t : Tables) → order_of_four cs ≡ true → Within t → p ≡ lines_then (job_lines cs t.jobs ++ part b t.wires) (last []) → Outcome p
  faulty : {p : Pieces} (a : Place) (l : Line) (q : Pieces) (f : LineFault) → Sound a → p ≡ lines_then (before a) (followed l q) → first (checks a l) ≡ Some f → Outcome p

-- a line without its end fails one of its two checks
unended_first : (b : Bool) (full e : LineFault) → first (must b full ∷ (must false e ∷ [])) ≡ Some (cond b e full)
unended_first b full e = grind arith

-- tables with one more row keep the limits
jobs_push : (js : List Job) (j : Job) → WithinJobs js → length js < 64 → WithinJob j → WithinJobs (js ++ (j ∷ []))
jobs_push js j Js h w = record { few = simp length-append (omega arith); each = All-push WithinJob js j Js.each w }

wires_push : (ws : List Wire) (w : Wire) → WithinWires ws → length ws < 256 → WithinWire w → leaving w.from ws < 4 → WithinWires (ws ++ (w ∷ []))
wires_push ws w Ws h W g = record {
  few = simp length-append (omega arith);
  each = All-push WithinWire ws w Ws.each W;
  four = λ p. rw (leaving_push p ws w) (by_bool (eqb w.from p)
      (λ e. let z : leaving p ws < 4 = rw (eqb-true w.from p e) at g in rw e (omega arith))
      (λ e. let z = Ws.four p in rw e (omega arith)));
}

no_jobs : WithinJobs []
no_jobs = record { few = omega arith; each = tt }

no_wires : WithinWires []
no_wires = record { few = omega arith; each = tt; four = λ p. omega arith }

-- one line more before the rest
job_next : (cs : List Column) (js : List Job) (j : Job) (p : Pieces) → lines_then (job_lines cs (js ++ (j ∷ []))) p ≡ lines_then (job_lines cs js) (more (job_text cs j) p)
job_next cs js j p = simp (map_push, lines_append)

wire_next : (cs : List Column) (js : List Job) (ws : List Wire) (w : Wire) (p : Pieces) → lines_then (job_lines cs js ++ wire_lines (ws ++ (w ∷ []))) p ≡ lines_then (job_lines cs js ++ wire_lines ws) (more (wire_text w) p)
wire_next cs js ws w p = simp (map_push, lines_append (job_lines cs js), lines_append (map wire_text ws))

-- line by line, behind the lines of sound tables
module _ (cs : List Column) (o : order_of_four cs ≡ true) where
  wires_outcome : (js : List Job) → WithinJobs js → (ws : List Wire) → WithinWires ws → (p : Pieces) → Outcome (lines_then (job_lines cs js ++ wire_lines ws) p)
  wires_outcome js Js ws Ws (last []) = spelled cs true (record { jobs = js; wires = ws }) o (record { jobs = Js; wires = Ws }) refl
  wires_outcome js Js ws Ws (last (x ∷ l)) = faulty (at_wire cs js ws) (unended (x ∷ l)) (last []) _ (o, Js, Ws) refl (unended_first (ltb (length ws) 256) TooManyWires Unended)
  wires_outcome js Js ws Ws (more l p) = by_result (wire_line ws l)
      (λ w e.
      let (few, t, W, four) = wire_line_back ws l w e in
      rw (← t, ← wire_next cs js ws w p) (wires_outcome js Js (ws ++ (w ∷ [])) (wires_push ws w Ws few W four) p))
      (λ f e. faulty (at_wire cs js ws) (ended l) p f (o, Js, Ws) refl (agrees_at_err _ _ f (wire_line_agrees ws l) e))

  jobs_outcome : (js : List Job) → WithinJobs js → (p : Pieces) → Outcome (lines_then (job_lines cs js) p)
  jobs_outcome js Js (last []) = spelled cs false (record { jobs = js; wires = [] }) o (record { jobs = Js; wires = no_wires }) (ap (λ ls. lines_then ls (last [])) (sym (append-nil (job_lines cs js))))
  jobs_outcome js Js (last (x ∷ l)) = faulty (at_job cs js) (unended (x ∷ l)) (last []) _ (o, Js) refl (unended_first (ltb (length js) 64) TooManyJobs Unended)
  jobs_outcome js Js (more [] (last l)) = faulty (at_wire_names cs js) (unended l) (last []) WireNames (o, Js) (sym (lines_append (job_lines cs js) ([] ∷ []) (last l))) refl
  jobs_outcome js Js (more [] (more l p)) = by_bool (same l wire_names)
      (λ e. rw (same_true l wire_names e, ← lines_append (job_lines cs js) (wire_lines []) p) (wires_outcome js Js [] no_wires p))
      (λ e. faulty (at_wire_names cs js) (ended l) p WireNames (o, Js) (sym (lines_append (job_lines cs js) ([] ∷ []) (more l p))) (rw e))
  jobs_outcome js Js (more (x ∷ l) p) = by_result (job_line cs js (x ∷ l))
      (λ j e.
      let (few, t, w) = job_line_back cs js (x ∷ l) j o e in
      rw (← t, ← job_next cs js j p) (jobs_outcome (js ++ (j ∷ [])) (jobs_push js j Js few w) p))
      (λ f e. faulty (at_job cs js) (ended (x ∷ l)) p f (o, Js) refl (agrees_at_err _ _ f (job_line_agrees cs js (x ∷ l) o) e))

pub outcome : (p : Pieces) → Outcome p
outcome (last l) = faulty at_names (unended l) (last []) JobNames tt refl refl
outcome (more l p) = by_result (names l)
    (λ cs e. let (t, o) = names_back l cs e in rw (← t) (jobs_outcome cs o [] no_jobs p))
    (λ f e. faulty at_names (ended l) p f tt refl (agrees_at_err _ _ f (names_agree l) e))

-- what reading says of it
abbrev pub says : {p : Pieces} → Outcome p → Result Tables SheetFault
says (spelled cs b t o W e) = Ok t
says (faulty a l q f s e k) = Err (AtLine (1 + length (before a)) f)

pub read_says : {p : Pieces} (w : Outcome p) → read_lines p ≡ says w
read_says (spelled cs b t o W e) = ap read_lines e ∙ lines_read cs b t o W
read_says (faulty a l q f s e k) = ap read_lines e ∙ same_whatever_follows a l f s k q

-- ## The laws of a refused sheet
refused_back : (bytes : List ℕ) (n : ℕ) (f : LineFault) → read bytes ≡ Err (AtLine n f) → (empty bytes ≡ false) × FaultyLine bytes n f
refused_back [] n f h = absurd cc
refused_back (b ∷ bs) n f h = (refl, go (outcome (cut 10 (b ∷ bs))) (sym h ∙ read_says (outcome (cut 10 (b ∷ bs)))))
  where
    go : (w : Outcome (cut 10 (b ∷ bs))) → Err (AtLine n f) ≡ says w → FaultyLine (b ∷ bs) n f
    go (spelled cs c t o W e) r = absurd cc
    go (faulty a l q g s e k) r = record { place = a; sound = s; number = cc; line = l; after = q; is = e; fault = cc }

fault_refused : (bytes : List ℕ) (n : ℕ) (f : LineFault) → empty bytes ≡ false → FaultyLine bytes n f → read bytes ≡ Err (AtLine n f)
fault_refused [] n f s F = absurd (true≢false s)
fault_refused (b ∷ bs) n f s F = rw F.number (ap read_lines F.is ∙ same_whatever_follows F.place F.line f F.sound F.fault F.after)

pub refused_at_first_fault : RefusedAtFirstFault
refused_at_first_fault bytes n f = (refused_back bytes n f, λ s. fault_refused bytes n f s.0 s.1)

pub refused_without_bytes : RefusedWithoutBytes
refused_without_bytes bytes = (go bytes, λ e. rw e)
  where
    never : {p : Pieces} (w : Outcome p) → Err NoBytes ≡ says w → ⊥
    never (spelled cs c t o W e) r = cc
    never (faulty a l q f s e k) r = cc

    go : (bytes : List ℕ) → read bytes ≡ Err NoBytes → bytes ≡ []
    go [] h = refl
    go (b ∷ bs) h = absurd (never (outcome (cut 10 (b ∷ bs))) (sym h ∙ read_says (outcome (cut 10 (b ∷ bs)))))

-- lines that go on to spell tables
begins : (a : Place) (ls : List (List ℕ)) (cs : List Column) (b : Bool) (js : List Job) (ws : List Wire) → order_of_four cs ≡ true → WithinJobs js → WithinWires ws →
    before a ++ ls ≡ job_lines cs js ++ part b ws → Begins a
begins a ls cs b js ws o Js Ws e = record { goes_on = ls; tables = record { jobs = js; wires = ws }; accepted = rw e (spelled_read cs b (record { jobs = js; wires = ws }) o (record { jobs = Js; wires = Ws })) }

abbrev columns : List Column
columns = Proc ∷ (Arg ∷ (Urg ∷ (Points ∷ [])))

pub faultless_before : FaultlessBefore
faultless_before at_names s = begins at_names (job_lines columns []) columns false [] [] refl no_jobs no_wires refl
faultless_before (at_job cs js) (o, Js) = begins (at_job cs js) [] cs false js [] o Js no_wires refl
faultless_before (at_wire_names cs js) (o, Js) = begins (at_wire_names cs js) (wire_names ∷ []) cs true js [] o Js no_wires (append_assoc (job_lines cs js) ([] ∷ []) (wire_names ∷ []))
faultless_before (at_wire cs js ws) (o, Js, Ws) = begins (at_wire cs js ws) [] cs true js ws o Js Ws (append-nil (job_lines cs js ++ wire_lines ws))
