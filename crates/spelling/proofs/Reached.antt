-- Behind the lines of sound tables, reading goes on as if these tables had just been read.
use Rattle.std.proofs.Common.{◌≡◌, ℕ, ◌<◌, Bool, true, false, List, [], ◌∷◌, ◌++◌, map, Ok, refl, ap, ◌∙◌, append_assoc, append-nil, arith, length-append}
use Rattle.std.proofs.ByRecursion.{All-weaker, All-map, All-append}
use Rattle.std.proofs.lemmas.List.Sums.{sum_by-append, sum_by-cons}
use Rattle.std.proofs.lemmas.Bool.Decides.{nat_tests}
use Rattle.std.specs.List.{AllByRecursion}
use Rattle.wiring.specs.declared.wire.Wire.{Wire}
use Rattle.job.specs.Plain.{Job}
use Rattle.wiring.specs.Wires.{leaving}
use Rattle.spelling.specs.declared.column.Column.{Column}
use Rattle.spelling.specs.Checks.{lines_then}
use Rattle.spelling.specs.Lines.{order_of_four}
use Rattle.spelling.specs.Sheet.{Tables, wire_names, wires_from, wires_part, jobs_from, read_lines, read}
use Rattle.spelling.specs.Spelling.{with_ends, job_text, wire_text, job_lines, wire_lines, part, spell, WithinJob, WithinJobs, WithinWire, WithinWires, Within}
use Rattle.spelling.specs.Texts.{Pieces, last, more, empty}
use Rattle.spelling.proofs.Basics.{all_middle, Free, cut_ended, lines_append}
use Rattle.spelling.proofs.Lines.{names_read, free_names, job_line_reads, job_some, free_job, wire_line_reads, free_wire}

-- ## Jobs and wires behind others
jobs_on : (cs : List Column) → order_of_four cs ≡ true → (is js : List Job) → WithinJobs (is ++ js) → (q : Pieces) → jobs_from cs is (lines_then (map (job_text cs) js) q) ≡ jobs_from cs (is ++ js) q
jobs_on cs o is [] Js q = rw (append-nil is)
jobs_on cs o is (j ∷ js) Js q =
    let few = simp length-append at Js.few in
    let e : (is ++ (j ∷ [])) ++ js ≡ is ++ (j ∷ js) = append_assoc is (j ∷ []) js in
    let r = job_line_reads cs is j o (omega arith) (all_middle WithinJob is j js Js.each) in
    rw (job_some cs is (job_text cs j) j r, r, ← e) (jobs_on cs o (is ++ (j ∷ [])) js (rw (← e) at Js) q)

leaving_middle : (vs : List Wire) (w : Wire) (ws : List Wire) → leaving w.from vs < leaving w.from (vs ++ (w ∷ ws))
leaving_middle vs w ws = simp (sum_by-append, sum_by-cons) (grind (arith, nat_tests))

wires_on : (js : List Job) (vs ws : List Wire) → WithinWires (vs ++ ws) → (q : Pieces) → wires_from js vs (lines_then (map wire_text ws) q) ≡ wires_from js (vs ++ ws) q
wires_on js vs [] Ws q = rw (append-nil vs)
wires_on js vs (w ∷ ws) Ws q =
    let few = simp length-append at Ws.few in
    let four = Ws.four w.from in
    let m = leaving_middle vs w ws in
    let e : (vs ++ (w ∷ [])) ++ ws ≡ vs ++ (w ∷ ws) = append_assoc vs (w ∷ []) ws in
    rw (wire_line_reads vs w (omega arith) (all_middle WithinWire vs w ws Ws.each) (omega arith), ← e) (wires_on js (vs ++ (w ∷ [])) ws (rw (← e) at Ws) q)

-- ## From the first line on
module _ (cs : List Column) (o : order_of_four cs ≡ true) (js : List Job) (Js : WithinJobs js) where
  pub jobs_reached : (q : Pieces) → read_lines (lines_then (job_lines cs js) q) ≡ jobs_from cs js q
  jobs_reached q = rw (names_read cs o) (jobs_on cs o [] js Js q)

  pub part_reached : (q : Pieces) → read_lines (lines_then (job_lines cs js ++ ([] ∷ [])) q) ≡ wires_part js q
  part_reached q = ap read_lines (lines_append (job_lines cs js) ([] ∷ []) q) ∙ jobs_reached (more [] q)

  pub wires_reached : (ws : List Wire) → WithinWires ws → (q : Pieces) → read_lines (lines_then (job_lines cs js ++ wire_lines ws) q) ≡ wires_from js ws q
  wires_reached ws Ws q = ap read_lines (lines_append (job_lines cs js) (wire_lines ws) q) ∙ (jobs_reached (lines_then (wire_lines ws) q) ∙ wires_on js [] ws Ws q)

  spelled_lines : (b : Bool) (ws : List Wire) → WithinWires ws → read_lines (lines_then (job_lines cs js ++ part b ws) (last [])) ≡ Ok (record { jobs = js; wires = ws })
  spelled_lines true ws Ws = wires_reached ws Ws (last [])
  spelled_lines false [] Ws = ap (λ ls. read_lines (lines_then ls (last []))) (append-nil (job_lines cs js)) ∙ jobs_reached (last [])
  spelled_lines false (w ∷ ws) Ws = wires_reached (w ∷ ws) Ws (last [])

-- ## What was written is read
pub lines_read : (cs : List Column) (b : Bool) (t : Tables) → order_of_four cs ≡ true → Within t → read_lines (lines_then (job_lines cs t.jobs ++ part b t.wires) (last [])) ≡ Ok t
lines_read cs b t o W = spelled_lines cs o t.jobs W.jobs b t.wires W.wires

-- no line holds the byte that ends lines
free_wire_names : Free 10 wire_names
free_wire_names = grind (arith, nat_tests)

free_wires : (ws : List Wire) → AllByRecursion WithinWire ws → AllByRecursion (Free 10) (wire_lines ws)
free_wires ws a = (tt, (free_wire_names, All-map (Free 10) wire_text ws (All-weaker WithinWire _ free_wire ws a)))

free_part : (b : Bool) (ws : List Wire) → AllByRecursion WithinWire ws → AllByRecursion (Free 10) (part b ws)
free_part true ws a = free_wires ws a
free_part false [] a = tt
free_part false (w ∷ ws) a = free_wires (w ∷ ws) a

some_ended : (l : List ℕ) (ls : List (List ℕ)) → empty (with_ends (l ∷ ls)) ≡ false
some_ended [] ls = refl
some_ended (x ∷ l) ls = refl

pub spelled_read : (cs : List Column) (b : Bool) (t : Tables) → order_of_four cs ≡ true → Within t → read (spell cs b t) ≡ Ok t
spelled_read cs b t o W =
    let ls = job_lines cs t.jobs ++ part b t.wires in
    let free : AllByRecursion (Free 10) ls = All-append (Free 10) (job_lines cs t.jobs) (part b t.wires)
    (free_names cs, All-map (Free 10) (job_text cs) t.jobs (All-weaker WithinJob _ (free_job cs) t.jobs W.jobs.each)) (free_part b t.wires W.wires.each) in
    rw (some_ended _ _, cut_ended ls free) (lines_read cs b t o W)
