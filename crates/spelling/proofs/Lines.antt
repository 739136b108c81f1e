-- Lines: what is read is what was written, and the other way round.
use Rattle.std.proofs.Common.{◌≡◌, ℕ, ◌+◌, ◌<◌, ◌≤◌, true, false, not, eqb, ltb, ◌⊎◌, List, [], ◌∷◌, map, length, Ok, Result, decimal, sym, refl, ap, ◌∙◌, arith}
use lib.ListN.{length-map}
use Rattle.std.proofs.lemmas.Bool.{eqb-true, eqb-false, ne_eqb, and_parts, or_parts, lt-ltb, not-true}
use Rattle.std.proofs.lemmas.Bool.Decides.{nat_tests}
use Rattle.std.proofs.ByRecursion.{All-map}
use Rattle.std.specs.List.{AllByRecursion}
use Rattle.std.specs.List.{list_all}
use Rattle.wiring.specs.declared.wire.Wire.{Wire}
use Rattle.job.specs.Admitted.{no_record}
use Rattle.fixed.specs.Lists.{has, distinct}
use Rattle.job.specs.Plain.{Job}
use Rattle.wiring.specs.Wires.{leaving, wired}
use Rattle.fixed.specs.Results.{and_then, or_else, given}
use Rattle.fixed.proofs.Pushing.{by_bool}
use Rattle.spelling.specs.declared.column.Column.{Column}
use Rattle.spelling.specs.declared.column.Column.TheVariants.{Proc, Arg, Urg, Points}
use Rattle.spelling.specs.declared.fault.LineFault.TheVariants.{AtField}
use Rattle.spelling.specs.declared.fault.LineFault.{LineFault}
use Rattle.spelling.specs.Faults.{wire_fault}
use Rattle.spelling.specs.Fields.{number, letter, points}
use Rattle.spelling.specs.Lines.{place, name, column, order_of_four, names, split, put, fields, job_line, wire_fields, wire_line}
use Rattle.spelling.specs.Spelling.{join, text, names_text, job_text, wire_text, WithinJob, WithinWire}
use Rattle.spelling.specs.Texts.{cut, all_of, empty, each}
use Rattle.spelling.proofs.Basics.{ok_then, ok_or_then, ok_tested, each_back, each_reads, all_each, Free, join_cut, cut_join, free_join}
use Rattle.spelling.proofs.Values.{number_back, number_reads, free_decimal, letter_back, letter_reads, FewSmall, points_back, points_reads, free_points, column_reads, column_back}

-- ## The order of the columns
-- four different columns are all of them
all_of_four : (cs : List Column) (e : Column) → length cs ≡ 4 → distinct (map place cs) ≡ true → has (map place cs) (place e) ≡ true
all_of_four [] e l o = absurd (omega arith)
all_of_four (a ∷ []) e l o = absurd (omega arith)
all_of_four (a ∷ (b ∷ [])) e l o = absurd (omega arith)
all_of_four (a ∷ (b ∷ (c ∷ []))) e l o = absurd (omega arith)
all_of_four (a ∷ (b ∷ (c ∷ (d ∷ (x ∷ cs))))) e l o = absurd (omega arith)
all_of_four (a ∷ (b ∷ (c ∷ (d ∷ [])))) e l o = grind (arith, nat_tests)

-- each column stands in an order, and once
pub record Order (cs : List Column) : Type 0 where
  pub long : length cs ≡ 4
  pub once : distinct (map place cs) ≡ true
  pub all : (d : Column) → has (map place cs) (place d) ≡ true

pub order_from : (cs : List Column) → order_of_four cs ≡ true → Order cs
order_from cs h =
    let (n, once) = and_parts (eqb (length cs) 4) _ h in
    let long = eqb-true (length cs) 4 n in
    record { long = long; once = once; all = λ e. all_of_four cs e long once }

-- ## The line of names
free_name : (d : ℕ) → d < 33 → (c : Column) → Free d (name c)
free_name d h c = grind (arith, nat_tests)

pub free_names : (cs : List Column) → Free 10 (names_text cs)
free_names cs = free_join 10 32 refl (map name cs) (All-map (Free 10) name cs (all_each _ (free_name 10 (omega arith)) cs))

pub names_back : (l : List ℕ) (cs : List Column) → names l ≡ Ok cs → (names_text cs ≡ l) × (order_of_four cs ≡ true)
names_back l cs h =
    let (p, o) = ok_tested (each column (all_of (cut 32 l))) order_of_four _ cs h in
    (ap (join 32) (each_back column name column_back (all_of (cut 32 l)) cs p) ∙ join_cut 32 l, o)

pub names_read : (cs : List Column) → order_of_four cs ≡ true → names (names_text cs) ≡ Ok cs
names_read cs h =
    let n = (order_from cs h).long in
    let c = cut_join 32 (map name cs) (rw (length-map cs name) (omega arith)) (All-map (Free 32) name cs (all_each _ (free_name 32 (omega arith)) cs)) in
    rw (c, each_reads column name cs (all_each _ column_reads cs), h)

-- ## The fields of a job, one by one
-- what one column says of a job is within the limits
abbrev Fits : Column → Job → Type 0
Fits Proc j = (j.letter ≡ 84) ⊎ (j.letter ≡ 83)
Fits Arg j = j.argument ≤ 4294967295
Fits Urg j = j.urgency ≤ 9
Fits Points j = FewSmall j.points

-- two jobs agree in one column
abbrev pub Same : Column → Job → Job → Type 0
Same Proc j k = j.letter ≡ k.letter
Same Arg j k = j.argument ≡ k.argument
Same Urg j k = j.urgency ≡ k.urgency
Same Points j k = j.points ≡ k.points

same_trans : (c : Column) (i j k : Job) → Same c i j → Same c j k → Same c i k
same_trans c i j k p q = grind arith

text_same : (c : Column) (j k : Job) → Same c j k → text j c ≡ text k c
text_same c j k e = grind arith

-- columns of one place are one column
same_place : (c d : Column) (j k : Job) → place c ≡ place d → Same c j k → Same d j k
same_place c d j k p e = grind arith

fits_place : (c d : Column) (j k : Job) → place c ≡ place d → Same c j k → Fits c j → Fits d k
fits_place c d j k p e f = grind arith

same_job : (j k : Job) → ((d : Column) → Same d j k) → j ≡ k
same_job j k s =
    let l = s Proc in
    let a = s Arg in
    let u = s Urg in
    let p = s Points in
    grind arith

-- a field that was read changes only its column
put_back : (c : Column) (t : List ℕ) (j k : Job) → put c t j ≡ Ok k → (text k c ≡ t) × Fits c k
put_back Proc t j k h = let (x, p, q) = ok_then (letter t) _ k h in let e = letter_back t x p in grind arith
put_back Arg t j k h = let (x, p, q) = ok_then (number 4294967295 t) _ k h in let e = number_back 4294967295 (omega arith) t x p in grind arith
put_back Urg t j k h = let (x, p, q) = ok_then (number 9 t) _ k h in let e = number_back 9 (omega arith) t x p in grind arith
put_back Points t j k h = let (x, p, q) = ok_then (points t) _ k h in let e = points_back t x p in grind arith

put_others : (c d : Column) (t : List ℕ) (j k : Job) → put c t j ≡ Ok k → (place c ≡ place d → ⊥) → Same d j k
put_others c d t j k h n = grind arith

put_reads : (c : Column) (j i : Job) → Fits c j → (k : Job) × (put c (text j c) i ≡ Ok k) × Same c j k
put_reads Proc j i f = (record { letter = j.letter; argument = i.argument; urgency = i.urgency; points = i.points }, rw (letter_reads j.letter f), refl)
put_reads Arg j i f = (record { letter = i.letter; argument = j.argument; urgency = i.urgency; points = i.points }, rw (number_reads 4294967295 j.argument (omega arith) f), refl)
put_reads Urg j i f = (record { letter = i.letter; argument = i.argument; urgency = j.urgency; points = i.points }, rw (number_reads 9 j.urgency (omega arith) f), refl)
put_reads Points j i f = (record { letter = i.letter; argument = i.argument; urgency = i.urgency; points = j.points }, rw (points_reads j.points f), refl)

-- ## The fields of a job together
pub fields_others : (cs : List Column) (ts : List (List ℕ)) (n : ℕ) (j k : Job) → fields cs ts n j ≡ Ok k → (d : Column) → has (map place cs) (place d) ≡ false → Same d j k
fields_others [] ts n j k h d m = grind arith
fields_others (c ∷ cs) [] n j k h d m = grind arith
fields_others (c ∷ cs) (t ∷ ts) n j k h d m =
    let (i, p, q) = ok_or_then (put c t j) _ (fields cs ts (n + 1)) k h in
    let (u, v) = or_parts (eqb (place c) (place d)) _ m in
    same_trans d j i k (put_others c d t j i p (eqb-false _ _ u)) (fields_others cs ts (n + 1) i k q d v)

-- the columns that were read
record Filled (cs : List Column) (ts : List (List ℕ)) (k : Job) : Type 0 where
  is : map (text k) cs ≡ ts
  fits : (d : Column) → has (map place cs) (place d) ≡ true → Fits d k

fields_back : (cs : List Column) (ts : List (List ℕ)) (n : ℕ) (j k : Job) → distinct (map place cs) ≡ true → length ts ≡ length cs → fields cs ts n j ≡ Ok k → Filled cs ts k
fields_back [] [] n j k d l h = record { is = refl; fits = λ c e. absurd cc }
fields_back [] (t ∷ ts) n j k d l h = absurd (omega arith)
fields_back (c ∷ cs) [] n j k d l h = absurd (omega arith)
fields_back (c ∷ cs) (t ∷ ts) n j k d l h =
    let (i, p, q) = ok_or_then (put c t j) _ (fields cs ts (n + 1)) k h in
    let (e, f) = put_back c t j i p in
    let (once, d') = and_parts (not (has (map place cs) (place c))) (distinct (map place cs)) d in
    let F = fields_back cs ts (n + 1) i k d' (omega arith) q in
    let s = fields_others cs ts (n + 1) i k q c (not-true _ once) in
    record {
      is = rw (← text_same c i k s, e, F.is);
      fits = λ b m. by_bool (eqb (place c) (place b))
          (λ u. fits_place c b i k (eqb-true _ _ u) s f)
          (λ u. F.fits b (rw u at m));
    }

fields_read : (cs : List Column) (n : ℕ) (j i : Job) → ((d : Column) → Fits d j) →
    (k : Job) × (fields cs (map (text j) cs) n i ≡ Ok k) × ((d : Column) → has (map place cs) (place d) ≡ true → Same d j k)
fields_read [] n j i f = (i, refl, λ d e. absurd cc)
fields_read (c ∷ cs) n j i f =
    let (k, p, s) = put_reads c j i (f c) in
    let (m, q, g) = fields_read cs (n + 1) j k f in (
      m,
      rw p q,
      λ d e. by_bool (has (map place cs) (place d)) (g d)
          (λ u. same_trans d j k m (same_place c d j k (grind (arith, nat_tests)) s) (fields_others cs (map (text j) cs) (n + 1) k m q d u)),
    )

-- ## The texts of a line of values
-- room for one more, as many texts as wanted, and what was read from them
line_back : {A : Type 0} (n have top : ℕ) (full : LineFault) (l : List ℕ) (f : List (List ℕ) → Result A LineFault) (a : A) → given (ltb have top) full (and_then (split n l) f) ≡ Ok a →
    (have < top) × (length (all_of (cut 32 l)) ≡ n) × (f (all_of (cut 32 l)) ≡ Ok a)
line_back n have top full l f a h = grind (arith, nat_tests)

-- ## A line of a job
fits_all : (j : Job) → WithinJob j → (d : Column) → Fits d j
fits_all j w Proc = w.letter
fits_all j w Arg = w.argument
fits_all j w Urg = w.urgency
fits_all j w Points = record { small = w.points; few = w.few }

pub job_line_back : (cs : List Column) (before : List Job) (l : List ℕ) (j : Job) → order_of_four cs ≡ true → job_line cs before l ≡ Ok j →
    (length before < 64) × (job_text cs j ≡ l) × WithinJob j
job_line_back cs before l j o h =
    let (room, many, r) = line_back 4 (length before) 64 _ l _ j h in
    let (f, once) = ok_tested (fields cs (all_of (cut 32 l)) 1 no_record) (λ k. distinct k.points) _ j r in
    let O = order_from cs o in
    let F = fields_back cs (all_of (cut 32 l)) 1 no_record j O.once (many ∙ sym O.long) f in
    let P = F.fits Points (O.all Points) in (
      room,
      ap (join 32) F.is ∙ join_cut 32 l,
      record { letter = F.fits Proc (O.all Proc); argument = F.fits Arg (O.all Arg); urgency = F.fits Urg (O.all Urg); points = P.small; few = P.few; once = once },
    )

pub job_some : (cs : List Column) (before : List Job) (l : List ℕ) (j : Job) → job_line cs before l ≡ Ok j → empty l ≡ false
job_some cs before l j h = grind arith

-- no field that is read or written is empty, and none holds a separator
some_text : (c : Column) (t : List ℕ) (i k : Job) → put c t i ≡ Ok k → empty t ≡ false
some_text c t i k h = grind arith

some_texts : (j : Job) → ((d : Column) → Fits d j) → (cs : List Column) → list_all (λ t. not (empty t)) (map (text j) cs) ≡ true
some_texts j f [] = refl
some_texts j f (c ∷ cs) = let (k, p, s) = put_reads c j j (f c) in rw (some_text c (text j c) j k p) (some_texts j f cs)

free_text : (d : ℕ) → d < 33 → (j : Job) → ((c : Column) → Fits c j) → (c : Column) → Free d (text j c)
free_text d h j f c = let z = f c in grind (arith, nat_tests, free_decimal d (λ i. omega arith), free_points d (λ i. omega arith) (λ e. omega arith) (λ e. omega arith))

free_texts : (d : ℕ) → d < 33 → (cs : List Column) (j : Job) → WithinJob j → AllByRecursion (Free d) (map (text j) cs)
free_texts d h cs j w = All-map (Free d) (text j) cs (all_each _ (free_text d h j (fits_all j w)) cs)

pub free_job : (cs : List Column) (j : Job) → WithinJob j → Free 10 (job_text cs j)
free_job cs j w = free_join 10 32 refl (map (text j) cs) (free_texts 10 (omega arith) cs j w)

pub job_line_reads : (cs : List Column) (before : List Job) (j : Job) → order_of_four cs ≡ true → length before < 64 → WithinJob j → job_line cs before (job_text cs j) ≡ Ok j
job_line_reads cs before j o h w =
    let O = order_from cs o in
    let f = fits_all j w in
    let n : length (map (text j) cs) ≡ 4 = length-map cs (text j) ∙ O.long in
    let c = cut_join 32 (map (text j) cs) (omega arith) (free_texts 32 (omega arith) cs j w) in
    let (k, p, s) = fields_read cs 1 j no_record f in
    let e = same_job j k (λ d. s d (O.all d)) in
    rw (lt-ltb _ _ h, c, n, some_texts j f cs, p, ← e, w.once)

-- ## A line of a wire
abbrev three : Wire → List (List ℕ)
three w = decimal w.from ∷ (decimal w.to ∷ (decimal w.delay ∷ []))

three_back : (ts : List (List ℕ)) (w : Wire) → length ts ≡ 3 → wire_fields ts ≡ Ok w →
    (three w ≡ ts) × (w.from ≤ 255) × (w.to ≤ 255) × (w.delay ≤ 4294967295)
three_back [] w l h = absurd (omega arith)
three_back (a ∷ []) w l h = absurd (omega arith)
three_back (a ∷ (b ∷ [])) w l h = absurd (omega arith)
three_back (a ∷ (b ∷ (c ∷ (d ∷ ts)))) w l h = absurd (omega arith)
three_back (a ∷ (b ∷ (c ∷ []))) w l h =
    let (x, p, h1) = ok_or_then (number 255 a) (AtField 1) _ w h in
    let (y, q, h2) = ok_or_then (number 255 b) (AtField 2) _ w h1 in
    let (z, r, h3) = ok_or_then (number 4294967295 c) (AtField 3) _ w h2 in
    let e = number_back 255 (omega arith) a x p in
    let f = number_back 255 (omega arith) b y q in
    let g = number_back 4294967295 (omega arith) c z r in
    grind arith

-- a wire that may stand behind others
wired_back : (before : List Wire) (v w : Wire) → or_else (wired before v) wire_fault ≡ Ok w → (v ≡ w) × (v.from ≡ v.to → ⊥) × (leaving v.from before < 4)
wired_back before v w h = grind (arith, nat_tests)

pub wire_line_back : (before : List Wire) (l : List ℕ) (w : Wire) → wire_line before l ≡ Ok w →
    (length before < 256) × (wire_text w ≡ l) × WithinWire w × (leaving w.from before < 4)
wire_line_back before l w h =
    let (room, many, r) = line_back 3 (length before) 256 _ l _ w h in
    let (k, f, g) = ok_then (wire_fields (all_of (cut 32 l))) _ w r in
    let (v, m, n) = wired_back before k w g in
    let (is, i, j, d) = three_back (all_of (cut 32 l)) k many f in
    rw (← v) (room, ap (join 32) is ∙ join_cut 32 l, record { from = i; to = j; delay = d; apart = m }, n)

free_three : (d : ℕ) → d < 33 → (w : Wire) → WithinWire w → AllByRecursion (Free d) (three w)
free_three d h w W = (free_decimal d (λ i. omega arith) w.from (omega arith), (free_decimal d (λ i. omega arith) w.to (omega arith), (free_decimal d (λ i. omega arith) w.delay (omega arith), tt)))

pub free_wire : (w : Wire) → WithinWire w → Free 10 (wire_text w)
free_wire w W = free_join 10 32 refl (three w) (free_three 10 (omega arith) w W)

some_number : (top : ℕ) (t : List ℕ) (n : ℕ) → number top t ≡ Ok n → empty t ≡ false
some_number top t n h = grind arith

pub wire_line_reads : (before : List Wire) (w : Wire) → length before < 256 → WithinWire w → leaving w.from before < 4 → wire_line before (wire_text w) ≡ Ok w
wire_line_reads before w h W g =
    let c = cut_join 32 (three w) (omega arith) (free_three 32 (omega arith) w W) in
    let a = number_reads 255 w.from (omega arith) W.from in
    let b = number_reads 255 w.to (omega arith) W.to in
    let d = number_reads 4294967295 w.delay (omega arith) W.delay in
    rw (lt-ltb _ _ h, c, some_number 255 (decimal w.from) _ a, some_number 255 (decimal w.to) _ b, some_number 4294967295 _ _ d, a, b, d, ne_eqb w.from w.to W.apart, lt-ltb _ _ g)
