-- A field that is read and put into the values.
use Rattle.std.proofs.Common.{◌≡◌, ℕ, ◌+◌, ◌<◌, ◌≤◌, false, not, ◌&&◌, eqb, leb, List, [], ◌∷◌, ◌++◌, length, get_or, drop, Ok, Err, Result, sym, refl, ap, ◌∙◌, arith}
use Rattle.std.proofs.lemmas.List.{at_drop_more, at_drop_all}
use Rattle.std.proofs.lemmas.Result.{MatchResult-at_ok, MatchResult-at_err}
use Rattle.std.proofs.lemmas.Bool.{and_parts, eqb-true, leb-false, lt-ltb}
use Rattle.std.specs.List.{list_all}
use Rattle.job.specs.declared.fault.FieldFault.{FieldFault}
use Rattle.wiring.specs.declared.fault.WireFault.{WireFault}
use Rattle.wiring.specs.declared.wire.Wire.{Wire}
use Rattle.job.specs.Plain.{Job}
use Rattle.fixed.specs.Results.{and_then, or_else}
use Rattle.wiring.specs.Wires.{wired}
use Rattle.fixed.proofs.Pushing.{by_bool}
use Rattle.spelling.specs.declared.fault.LineFault.{LineFault}
use Rattle.spelling.specs.declared.fault.LineFault.TheVariants.{AtField}
use Rattle.spelling.specs.Faults.{wire_fault}
use Rattle.spelling.specs.declared.column.Column.{Column}
use Rattle.spelling.specs.declared.column.Column.TheVariants.{Proc, Arg, Urg, Points}
use Rattle.spelling.specs.Fields.{letter, number}
use Rattle.spelling.specs.Lines.{put, fields, split, wire_fields, wire_line}
use Rattle.spelling.specs.Texts.{cut, all_of, empty}
use Rattle.fields.specs.Fields.{Reads}
use Rattle.fields.specs.Reading.{head_of, tail_of, placed}
use Rattle.sheet.specs.Tables.{Adds}
use Rattle.sheet.specs.Values.{Puts}

-- two steps that a refused one keeps from being taken
same_refusal : {A B C E : Type 0} (r : Result A E) (g : A → B) (h : A → C) (e : E) → Err e ≡ and_then r (λ x. Ok (g x)) → and_then r (λ x. Ok (h x)) ≡ Err e
same_refusal (Ok x) g h e p = absurd cc
same_refusal (Err f) g h e p = let z : f ≡ e = cc in rw z

pub put_refused : (c : Column) (t : List ℕ) (at : ℕ) (j : Job) (e : FieldFault) → Reads c t at (Err e) → put c t j ≡ Err e
put_refused Proc t at j e h = same_refusal (letter t) _ _ e h
put_refused Arg t at j e h = same_refusal (number 4294967295 t) _ _ e h
put_refused Urg t at j e h = same_refusal (number 9 t) _ _ e h
put_refused Points t at j e h = absurd h

-- what is known of a field that was put, and of one that was refused
pub put_ok : (c : Column) (t : List ℕ) (was is : Job) (r : Result (Unit {0}) FieldFault) (u : Unit {0}) → r ≡ Ok u → Puts c t was r is → put c t was ≡ Ok is
put_ok c t was is r u e h = MatchResult-at_ok (λ _. put c t was ≡ Ok is) (λ e. (put c t was ≡ Err e) × (is ≡ was)) u e h

pub put_err : (c : Column) (t : List ℕ) (was is : Job) (r : Result (Unit {0}) FieldFault) (f : FieldFault) → r ≡ Err f → Puts c t was r is → put c t was ≡ Err f
put_err c t was is r f e h = (MatchResult-at_err (λ _. put c t was ≡ Ok is) (λ e. (put c t was ≡ Err e) × (is ≡ was)) f e h).0

-- ## A fault with its place
pub placed_ok : {T E : Type 0} (k : ℕ) (r : Result T E) (x : T) → Ok x ≡ placed k r → r ≡ Ok x
placed_ok k (Ok y) x h = cc
placed_ok k (Err e) x h = absurd cc

pub placed_err : {T E : Type 0} (k : ℕ) (r : Result T E) (q : ℕ × E) → Err q ≡ placed k r → (r ≡ Err q.1) × (q ≡ (k, q.1))
placed_err k (Ok y) q h = absurd cc
placed_err k (Err e) q h = let z : q ≡ (k, e) = cc in rw z (refl, refl)

-- ## The fields of a job
module _ (cs : List Column) (i : ℕ) (j : Job) (whole : Result Job LineFault) where
  field_next : (ts : List (List ℕ)) → i < length cs → length cs ≡ 4 → length ts + i ≡ 4 → fields (drop i cs) ts (i + 1) j ≡ whole →
      (and_then (or_else (put (get_or cs i Proc) (head_of ts) j) (AtField (i + 1))) (fields (drop (i + 1) cs) (tail_of ts) (i + 1 + 1)) ≡ whole) × (length (tail_of ts) + (i + 1) ≡ 4)
  field_next [] h n m e = absurd (omega arith)
  field_next (t ∷ ts) h n m e = (sym (at_drop_more (λ (l : List Column). fields l (t ∷ ts) (i + 1) j) cs i Proc h) ∙ e, omega arith)

  pub fields_step : (ts us : List (List ℕ)) (k : Job) → i < length cs → length cs ≡ 4 → (length ts + i ≡ 4) × (fields (drop i cs) ts (i + 1) j ≡ whole) → us ≡ tail_of ts → put (get_or cs i Proc) (head_of ts) j ≡ Ok k →
      (length us + (i + 1) ≡ 4) × (fields (drop (i + 1) cs) us (i + 1 + 1) k ≡ whole)
  fields_step ts us k h n m u p = let (a, b) = field_next ts h n m.0 m.1 in rw u (b, rw p at a)

  pub fields_refused : (ts : List (List ℕ)) (e : FieldFault) → i < length cs → length cs ≡ 4 → (length ts + i ≡ 4) × (fields (drop i cs) ts (i + 1) j ≡ whole) → put (get_or cs i Proc) (head_of ts) j ≡ Err e → whole ≡ Err (AtField (i + 1) e)
  fields_refused ts e h n m p = let (a, b) = field_next ts h n m.0 m.1 in sym (rw p at a)

  pub fields_all : (ts : List (List ℕ)) → length cs ≤ i → fields (drop i cs) ts (i + 1) j ≡ whole → whole ≡ Ok j
  fields_all ts h e = sym e ∙ at_drop_all (λ (l : List Column). fields l ts (i + 1) j) cs i h

-- ## The lines
pub split_ok : (n : ℕ) (l : List ℕ) → Ok (tt {0}) ≡ and_then (split n l) (λ _. Ok (tt {0})) → (split n l ≡ Ok (all_of (cut 32 l))) × (length (all_of (cut 32 l)) ≡ n)
split_ok n l h = by_bool (eqb (length (all_of (cut 32 l))) n && list_all (λ (t : List ℕ). not (empty t)) (all_of (cut 32 l)))
    (λ e. (rw e, eqb-true _ _ (and_parts _ _ e).0))
    (λ e. let k = rw e at h in absurd cc)

pub wire_line_is : (ws : List Wire) (l : List ℕ) → leb 256 (length ws) ≡ false → split 3 l ≡ Ok (all_of (cut 32 l)) →
    wire_line ws l ≡ and_then (wire_fields (all_of (cut 32 l))) (λ w. or_else (wired ws w) wire_fault)
wire_line_is ws l h s = rw (lt-ltb (length ws) 256 (leb-false _ _ h), s)

-- the wire of a line that is not one too many, and that has three fields
module _ (ws : List Wire) (l : List ℕ) (room : false ≡ leb 256 (length ws)) (shape : Ok (tt {0}) ≡ and_then (split 3 l) (λ _. Ok (tt {0}))) where
  line_is : wire_line ws l ≡ and_then (wire_fields (all_of (cut 32 l))) (λ w. or_else (wired ws w) wire_fault)
  line_is = wire_line_is ws l (sym room) (split_ok 3 l shape).0

  pub wire_refused : (e : LineFault) → Err e ≡ wire_fields (all_of (cut 32 l)) → wire_line ws l ≡ Err e
  wire_refused e h = line_is ∙ rw (← h)

  pub wire_faulty : (w : Wire) (f : WireFault) → Ok w ≡ wire_fields (all_of (cut 32 l)) → wired ws w ≡ Err f → wire_line ws l ≡ Err (wire_fault f)
  wire_faulty w f h k = line_is ∙ rw (← h, k)

  pub wire_taken : (w : Wire) (vs : List Wire) → Ok w ≡ wire_fields (all_of (cut 32 l)) → wired ws w ≡ Ok w → vs ≡ ws ++ (w ∷ []) → Adds (wire_line ws l) ws vs
  wire_taken w vs h k e = let a : wire_line ws l ≡ Ok w = line_is ∙ rw (← h, k) in rw a e

-- ## The fields of a wire
wire_fields_are : (ts : List (List ℕ)) → length ts ≡ 3 → wire_fields ts ≡
    and_then (or_else (number 255 (head_of ts)) (AtField 1)) (λ x.
    and_then (or_else (number 255 (head_of (tail_of ts))) (AtField 2)) (λ y.
    and_then (or_else (number 4294967295 (head_of (tail_of (tail_of ts)))) (AtField 3)) (λ z. Ok (record { from = x; to = y; delay = z }))))
wire_fields_are [] h = absurd (omega arith)
wire_fields_are (a ∷ []) h = absurd (omega arith)
wire_fields_are (a ∷ (b ∷ [])) h = absurd (omega arith)
wire_fields_are (a ∷ (b ∷ (c ∷ ts))) h = refl

-- the pieces before each of the three fields
module _ (ts ps qs rs : List (List ℕ)) (l m n : Result ℕ FieldFault) (x y : ℕ) (long : length ts ≡ 3) (start : ps ≡ ts) (one : l ≡ number 255 (head_of ps)) (then : qs ≡ tail_of ps) (two : m ≡ number 255 (head_of qs)) (last : rs ≡ tail_of qs)
    (three : n ≡ number 4294967295 (head_of rs)) (left : Ok x ≡ placed 1 l) (right : Ok y ≡ placed 2 m) where
  third : wire_fields ts ≡ and_then (or_else n (AtField 3)) (λ z. Ok (record { from = x; to = y; delay = z }))
  third =
      let u = then ∙ ap tail_of start in
      let v = last ∙ ap tail_of u in
      let a : number 255 (head_of ts) ≡ Ok x = ap (λ (t : List (List ℕ)). number 255 (head_of t)) (sym start) ∙ (sym one ∙ placed_ok 1 l x left) in
      let b : number 255 (head_of (tail_of ts)) ≡ Ok y = ap (λ (t : List (List ℕ)). number 255 (head_of t)) (sym u) ∙ (sym two ∙ placed_ok 2 m y right) in
      let c : number 4294967295 (head_of (tail_of (tail_of ts))) ≡ n = ap (λ (t : List (List ℕ)). number 4294967295 (head_of t)) (sym v) ∙ sym three in
      wire_fields_are ts long ∙ rw (a, b, c)

  pub third_refused : (q : ℕ × FieldFault) → Err q ≡ placed 3 n → Err (AtField q.0 q.1) ≡ wire_fields ts
  third_refused q h = let (e, k) = placed_err 3 n q h in sym (third ∙ (rw e (ap (λ (p : ℕ × FieldFault). Err (AtField p.0 p.1)) (sym k))))

  pub third_read : (z : ℕ) → Ok z ≡ placed 3 n → Ok (record { from = x; to = y; delay = z }) ≡ wire_fields ts
  third_read z h = sym (third ∙ rw (placed_ok 3 n z h))
