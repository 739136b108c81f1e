-- A line is refused by the first of its checks that fails, and read if none fails.
use Rattle.std.proofs.Common.{◌≡◌, ℕ, ◌+◌, Bool, true, false, cond, not, ◌&&◌, eqb, ltb, List, [], ◌∷◌, ◌++◌, map, length, Some, None, Ok, Err, Result, sym, refl, ◌∙◌, arith}
use lib.ListN.{length-map}
use Rattle.std.proofs.lemmas.Bool.{and_parts, not-true}
use Rattle.std.proofs.lemmas.Bool.Decides.{nat_tests}
use Rattle.std.specs.Str.Parse.{digits_value}
use Rattle.std.specs.List.{list_all, list_any}
use Rattle.job.specs.declared.fault.FieldFault.{FieldFault}
use Rattle.wiring.specs.declared.wire.Wire.{Wire}
use Rattle.job.specs.Admitted.{no_record}
use Rattle.fixed.specs.Lists.{has, distinct}
use Rattle.job.specs.Plain.{Job}
use Rattle.fixed.specs.Results.{and_then, or_else, given}
use Rattle.wiring.specs.Wires.{leaving, wired}
use Rattle.spelling.specs.declared.column.Column.{Column}
use Rattle.spelling.specs.declared.column.Column.TheVariants.{Points}
use Rattle.spelling.specs.declared.fault.LineFault.{LineFault}
use Rattle.spelling.specs.declared.fault.LineFault.TheVariants.{JobNames, AtField, PointTwice, TooManyJobs, TooManyWires, WireToItself, FifthWire}
use Rattle.spelling.specs.Checks.{Check, must, first, shape_check, number_checks, point_checks, field_checks, fields_checks, once_in, once_each, is_name, differ, names_checks, job_checks, wire_field_checks, wire_checks}
use Rattle.spelling.specs.Faults.{wire_fault}
use Rattle.spelling.specs.Fields.{number}
use Rattle.spelling.specs.Lines.{place, name, column, order_of_four, names, split, put, fields, job_line, wire_fields, wire_line}
use Rattle.spelling.specs.Texts.{cut, all_of, same, each}
use Rattle.spelling.proofs.Basics.{ok_or_then, each_back}
use Rattle.spelling.proofs.Values.{number_parts, column_back}
use Rattle.spelling.proofs.Lines.{order_from, fields_others}

-- ## A reading beside its checks
abbrev pub Agrees : {A : Type 0} → Result A LineFault → List Check → Type 0
Agrees (Ok x) cs = first cs ≡ None
Agrees (Err e) cs = first cs ≡ Some e

pub agrees_err : {A : Type 0} (r : Result A LineFault) (cs : List Check) (f : LineFault) → Agrees r cs → first cs ≡ Some f → r ≡ Err f
agrees_err r cs f a h = grind arith

pub agrees_at_err : {A : Type 0} (r : Result A LineFault) (cs : List Check) (f : LineFault) → Agrees r cs → r ≡ Err f → first cs ≡ Some f
agrees_at_err r cs f a e = grind arith

-- checks behind others
first_append : (cs ds : List Check) → first cs ≡ None → first (cs ++ ds) ≡ first ds
first_append [] ds h = refl
first_append (c ∷ cs) ds h = grind (arith, first_append cs ds)

first_stays : (cs ds : List Check) (f : LineFault) → first cs ≡ Some f → first (cs ++ ds) ≡ Some f
first_stays [] ds f h = absurd cc
first_stays (c ∷ cs) ds f h = grind (arith, first_stays cs ds f)

agrees_then : {A B : Type 0} (r : Result A LineFault) (g : A → Result B LineFault) (cs ds : List Check) → Agrees r cs → ((x : A) → r ≡ Ok x → Agrees (g x) ds) → Agrees (and_then r g) (cs ++ ds)
agrees_then r g cs ds h k = grind (arith, first_append cs ds, first_stays cs ds)

-- ## Fields
-- a field reports what is wrong, and the line adds the field's place
module _ (k : ℕ) where
  number_agrees : (top : ℕ) (t : List ℕ) → Agrees (or_else (number top t) (AtField k)) (number_checks k top t)
  number_agrees top t = grind arith

  -- the first of three steps
  agrees_field : {A B C : Type 0} (r : Result A FieldFault) (f : A → Result B LineFault) (g : B → Result C LineFault) (cs ds : List Check) →
      Agrees (or_else r (AtField k)) cs → ((x : A) → r ≡ Ok x → Agrees (and_then (f x) g) ds) → Agrees (and_then (and_then (or_else r (AtField k)) f) g) (cs ++ ds)
  agrees_field r f g cs ds h m = grind (arith, first_append cs ds, first_stays cs ds)

  each_agrees : (ts : List (List ℕ)) → Agrees (or_else (each (number 255) ts) (AtField k)) (point_checks k ts)
  each_agrees [] = refl
  each_agrees (t ∷ ts) = let a = each_agrees ts in grind arith

  put_agrees : (c : Column) (t : List ℕ) (j : Job) → Agrees (or_else (put c t j) (AtField k)) (field_checks c k t)
  put_agrees c t j = let a = each_agrees (all_of (cut 44 t)) in grind (arith, nat_tests)

fields_agree : (cs : List Column) (ts : List (List ℕ)) (k : ℕ) (j : Job) → Agrees (fields cs ts k j) (fields_checks cs k ts)
fields_agree [] ts k j = refl
fields_agree (c ∷ cs) [] k j = refl
fields_agree (c ∷ cs) (t ∷ ts) k j = agrees_then (or_else (put c t j) (AtField k)) (fields cs ts (k + 1)) (field_checks c k t) (fields_checks cs (k + 1) ts) (put_agrees k c t j) (λ i _. fields_agree cs ts (k + 1) i)

-- ## A point twice
each_values : (ts : List (List ℕ)) (ns : List ℕ) → each (number 255) ts ≡ Ok ns → map (digits_value 10) ts ≡ ns
each_values [] ns h = cc
each_values (t ∷ ts) ns h = grind (arith, number_parts 255 t, each_values ts)

put_once : (t : List ℕ) (j k : Job) → put Points t j ≡ Ok k → once_in Points t ≡ distinct k.points
put_once t j k h = let e = each_values (all_of (cut 44 t)) in grind (arith, nat_tests)

once_more : (c : Column) (cs : List Column) (t : List ℕ) (ts : List (List ℕ)) (j i k : Job) → has (map place cs) (place c) ≡ false → put c t j ≡ Ok i →
    once_each cs ts ≡ cond (has (map place cs) 3) (distinct k.points) true → (has (map place cs) 3 ≡ false → i.points ≡ k.points) →
    (once_in c t && once_each cs ts) ≡ cond (has (map place (c ∷ cs)) 3) (distinct k.points) true
once_more c cs t ts j i k o p r s = grind (arith, put_once t j i)

-- of the columns only the points' can hold a point twice
fields_once : (cs : List Column) (ts : List (List ℕ)) (n : ℕ) (j k : Job) → distinct (map place cs) ≡ true → length ts ≡ length cs → fields cs ts n j ≡ Ok k →
    once_each cs ts ≡ cond (has (map place cs) 3) (distinct k.points) true
fields_once [] ts n j k d l h = refl
fields_once (c ∷ cs) [] n j k d l h = absurd (omega arith)
fields_once (c ∷ cs) (t ∷ ts) n j k d l h =
    let (i, p, q) = ok_or_then (put c t j) _ (fields cs ts (n + 1)) k h in
    let (once, d') = and_parts (not (has (map place cs) (place c))) (distinct (map place cs)) d in
    once_more c cs t ts j i k (not-true _ once) p (fields_once cs ts (n + 1) i k d' (omega arith) q) (fields_others cs ts (n + 1) i k q Points)

-- ## The line of names
columns_agree : (ts : List (List ℕ)) → Agrees (each column ts) (must (list_all is_name ts) JobNames ∷ [])
columns_agree [] = refl
columns_agree (t ∷ ts) = let a = columns_agree ts in grind arith

-- two columns have the same name exactly if they have the same place
names_apart : (c d : Column) → same (name c) (name d) ≡ eqb (place d) (place c)
names_apart c d = grind arith

some_names : (c : Column) (cs : List Column) → list_any (λ u. same (name c) u) (map name cs) ≡ has (map place cs) (place c)
some_names c [] = refl
some_names c (d ∷ cs) = rw (names_apart c d, some_names c cs)

differ_names : (cs : List Column) → differ (map name cs) ≡ distinct (map place cs)
differ_names [] = refl
differ_names (c ∷ cs) = rw (some_names c cs, differ_names cs)

order_of_texts : (ts : List (List ℕ)) (cs : List Column) → each column ts ≡ Ok cs → order_of_four cs ≡ (eqb (length ts) 4 && differ ts)
order_of_texts ts cs h = rw (← each_back column name column_back ts cs h, length-map cs name, differ_names cs)

pub names_agree : (l : List ℕ) → Agrees (names l) (names_checks l)
names_agree l =
    let a = columns_agree (all_of (cut 32 l)) in
    let o = order_of_texts (all_of (cut 32 l)) in
    grind arith

-- ## Lines of values
-- room for one more, the wanted number of fields, and what the fields say
line_agrees : {A : Type 0} (n : ℕ) (room : Bool) (full : LineFault) (l : List ℕ) (f : List (List ℕ) → Result A LineFault) (cs : List Check) →
    (room ≡ true → length (all_of (cut 32 l)) ≡ n → Agrees (f (all_of (cut 32 l))) cs) → Agrees (given room full (and_then (split n l) f)) (must room full ∷ (shape_check n (all_of (cut 32 l)) ∷ cs))
line_agrees n room full l f cs a = grind (arith, nat_tests)

job_fields_agree : (cs : List Column) (ts : List (List ℕ)) → order_of_four cs ≡ true → length ts ≡ 4 →
    Agrees (and_then (fields cs ts 1 no_record) (λ j. given (distinct j.points) PointTwice (Ok j))) (fields_checks cs 1 ts ++ (must (once_each cs ts) PointTwice ∷ []))
job_fields_agree cs ts o n =
    agrees_then (fields cs ts 1 no_record) _ (fields_checks cs 1 ts) _ (fields_agree cs ts 1 no_record) (λ j e.
    let O = order_from cs o in
    let once = fields_once cs ts 1 no_record j O.once (n ∙ sym O.long) e in
    rw (once, O.all Points) (grind arith))

pub job_line_agrees : (cs : List Column) (before : List Job) (l : List ℕ) → order_of_four cs ≡ true → Agrees (job_line cs before l) (job_checks cs before l)
job_line_agrees cs before l o = line_agrees 4 (ltb (length before) 64) TooManyJobs l _ _ (λ _. job_fields_agree cs (all_of (cut 32 l)) o)

wired_agrees : (before : List Wire) (w : Wire) → ltb (length before) 256 ≡ true → Agrees (or_else (wired before w) wire_fault) (must (not (eqb w.from w.to)) WireToItself ∷ (must (ltb (leaving w.from before) 4) FifthWire ∷ []))
wired_agrees before w r = grind arith

wire_fields_agree : (before : List Wire) (ts : List (List ℕ)) → ltb (length before) 256 ≡ true → length ts ≡ 3 → Agrees (and_then (wire_fields ts) (λ w. or_else (wired before w) wire_fault)) (wire_field_checks before ts)
wire_fields_agree before [] r n = absurd (omega arith)
wire_fields_agree before (a ∷ []) r n = absurd (omega arith)
wire_fields_agree before (a ∷ (b ∷ [])) r n = absurd (omega arith)
wire_fields_agree before (a ∷ (b ∷ (c ∷ ts))) r n =
    agrees_field 1 (number 255 a) _ _ (number_checks 1 255 a) _ (number_agrees 1 255 a) (λ x p.
    agrees_field 2 (number 255 b) _ _ (number_checks 2 255 b) _ (number_agrees 2 255 b) (λ y q.
    agrees_field 3 (number 4294967295 c) _ _ (number_checks 3 4294967295 c) _ (number_agrees 3 4294967295 c) (λ z _.
    rw ((number_parts 255 a x p).3, (number_parts 255 b y q).3) (wired_agrees before (record { from = x; to = y; delay = z }) r))))

pub wire_line_agrees : (before : List Wire) (l : List ℕ) → Agrees (wire_line before l) (wire_checks before l)
wire_line_agrees before l = line_agrees 3 (ltb (length before) 256) TooManyWires l _ _ (wire_fields_agree before (all_of (cut 32 l)))
