-- Lists that a loop gathers piece by piece.
use Rattle.std.proofs.Common.{◌≡◌, ℕ, zero, suc, ◌+◌, ◌<◌, eqb, List, [], ◌∷◌, ◌++◌, map, length, get_or, take, drop, Ok, Err, Result, sym, refl, ap, ◌∙◌, append_assoc, append-nil, arith}
use lib.Seq.{split_at}
use Rattle.std.proofs.lemmas.List.{length-append, take_more}
use Rattle.std.proofs.lemmas.Bool.{eq-eqb, ne_eqb}
use Rattle.fixed.specs.Lists.{has, all_differ, distinct}
use Rattle.std.specs.List.{list_any}
use Rattle.fixed.specs.Results.{and_then, given}
use Rattle.spelling.specs.declared.column.Column.{Column}
use Rattle.spelling.specs.contracts.column.ColumnPartialEq.TheImpl as column_eq
use Rattle.spelling.specs.declared.fault.LineFault.{LineFault}
use Rattle.spelling.specs.declared.fault.LineFault.TheVariants.{JobNames}
use Rattle.spelling.specs.Lines.{column, order_of_four, names, place}
use Rattle.spelling.specs.Texts.{each, cut, all_of}
use Rattle.fields.specs.Order.{first_column}
use Rattle.fields.specs.Reading.{tail_of}

-- ## The names of the columns
column_fault : (t : List ℕ) (e : LineFault) → column t ≡ Err e → e ≡ JobNames
column_fault t e h = grind arith

-- some columns, if they are an order
abbrev ordered : List Column → Result (List Column) LineFault
ordered cs = given (order_of_four cs) JobNames (Ok cs)

-- the names behind those of some columns
abbrev named : List Column → List (List ℕ) → Result (List Column) LineFault
named acc ts = and_then (each column ts) (λ cs. ordered (acc ++ cs))

named_next : (acc : List Column) (t : List ℕ) (ts : List (List ℕ)) → named acc (t ∷ ts) ≡ and_then (column t) (λ c. named (acc ++ (c ∷ [])) ts)
named_next acc t ts = go (column t) (each column ts)
  where
    go : (r : Result Column LineFault) (s : Result (List Column) LineFault) →
        and_then (and_then r (λ c. and_then s (λ cs. Ok (c ∷ cs)))) (λ cs. ordered (acc ++ cs)) ≡ and_then r (λ c. and_then s (λ cs. ordered ((acc ++ (c ∷ [])) ++ cs)))
    go (Ok c) (Ok cs) = rw (append_assoc acc (c ∷ []) cs)
    go (Ok c) (Err e) = refl
    go (Err e) s = refl

-- a name more, or a fault
then_fault : (t : List ℕ) (f : Column → Result (List Column) LineFault) → ((c : Column) → f c ≡ Err JobNames) → and_then (column t) f ≡ Err JobNames
then_fault t f h = go (column t) refl
  where
    go : (r : Result Column LineFault) → column t ≡ r → and_then r f ≡ Err JobNames
    go (Ok c) e = h c
    go (Err g) e = ap Err (column_fault t g e)

-- more than four names are no order
named_many : (acc : List Column) (ts : List (List ℕ)) → 4 < length acc → named acc ts ≡ Err JobNames
named_many acc [] h = rw (append-nil acc, ne_eqb (length acc) 4 (λ e. omega arith))
named_many acc (t ∷ ts) h = named_next acc t ts ∙ then_fault t _ (λ c. named_many (acc ++ (c ∷ [])) ts (simp length-append (omega arith)))

-- n names more, and none behind them
abbrev next_names : ℕ → List Column → List (List ℕ) → Result (List Column) LineFault
next_names zero acc [] = ordered acc
next_names zero acc (t ∷ ts) = Err JobNames
next_names (suc n) acc ts = and_then (first_column ts) (λ c. next_names n (acc ++ (c ∷ [])) (tail_of ts))

next_named : (n : ℕ) (acc : List Column) (ts : List (List ℕ)) → length acc + n ≡ 4 → named acc ts ≡ next_names n acc ts
next_named zero acc [] h = rw (append-nil acc)
next_named zero acc (t ∷ ts) h = named_next acc t ts ∙ then_fault t _ (λ c. named_many (acc ++ (c ∷ [])) ts (simp length-append (omega arith)))
next_named (suc n) acc [] h = rw (append-nil acc, ne_eqb (length acc) 4 (λ e. omega arith))
next_named (suc n) acc (t ∷ ts) h = named_next acc t ts ∙ go (column t) (λ c. next_named n (acc ++ (c ∷ [])) ts (simp length-append (omega arith)))
  where
    go : (r : Result Column LineFault) {f g : Column → Result (List Column) LineFault} → ((c : Column) → f c ≡ g c) → and_then r f ≡ and_then r g
    go (Ok c) k = k c
    go (Err e) k = refl

-- a line of names is read name by name
pub names_next : (l : List ℕ) → names l ≡ next_names 4 [] (all_of (cut 32 l))
names_next l = next_named 4 [] (all_of (cut 32 l)) refl

-- columns are equal where their places are
eq_places : (c d : Column) → column_eq.ghosts.eq c d ≡ eqb (place c) (place d)
eq_places c d = grind arith

any_place : (c : Column) (cs : List Column) → list_any (λ d. column_eq.ghosts.eq d c) cs ≡ has (map place cs) (place c)
any_place c [] = refl
any_place c (d ∷ cs) = rw (eq_places d c, any_place c cs)

differ_places : (cs : List Column) → all_differ column_eq.ghosts.eq cs ≡ distinct (map place cs)
differ_places [] = refl
differ_places (c ∷ cs) = rw (any_place c cs, differ_places cs)

-- four columns are an order if they differ
pub order_differs : (cs : List Column) → length cs ≡ 4 → order_of_four cs ≡ all_differ column_eq.ghosts.eq cs
order_differs cs n = rw (eq-eqb (length cs) 4 n) (sym (differ_places cs))

-- ## The numbers of a list
module _ {A B E : Type 0} (f : A → Result B E) where
  each_append : (ts us : List A) → each f (ts ++ us) ≡ and_then (each f ts) (λ xs. and_then (each f us) (λ ys. Ok (xs ++ ys)))
  each_append [] us = whole (each f us)
    where
      whole : (r : Result (List B) E) → r ≡ and_then r (λ ys. Ok ys)
      whole (Ok ys) = refl
      whole (Err e) = refl
  each_append (t ∷ ts) us = rw (each_append ts us) (go (f t) (each f ts))
    where
      go : (r : Result B E) (s : Result (List B) E) →
          and_then r (λ y. and_then (and_then s (λ xs. and_then (each f us) (λ ys. Ok (xs ++ ys)))) (λ ys. Ok (y ∷ ys))) ≡ and_then (and_then r (λ y. and_then s (λ xs. Ok (y ∷ xs)))) (λ xs. and_then (each f us) (λ ys. Ok (xs ++ ys)))
      go (Ok y) (Ok xs) = last (each f us)
        where
          last : (r : Result (List B) E) → and_then (and_then r (λ ys. Ok (xs ++ ys))) (λ ys. Ok (y ∷ ys)) ≡ and_then r (λ ys. Ok (y ∷ xs ++ ys))
          last (Ok ys) = refl
          last (Err e) = refl
      go (Ok y) (Err e) = refl
      go (Err e) s = refl

  -- the first n were read, and then one more, or none of the others
  pub each_more : (ts : List A) (xs : List B) (n : ℕ) (t : A) (y : B) → n < length ts → t ≡ get_or ts n t → each f (take n ts) ≡ Ok xs → Ok y ≡ f t → each f (take (n + 1) ts) ≡ Ok (xs ++ (y ∷ []))
  each_more ts xs n t y h g e p = rw (take_more ts n t h, each_append (take n ts) (get_or ts n t ∷ []), e, ← g, ← p)

  pub each_stops : (ts : List A) (xs : List B) (n : ℕ) (t : A) (e : E) → n < length ts → t ≡ get_or ts n t → each f (take n ts) ≡ Ok xs → Err e ≡ f t → each f ts ≡ Err e
  each_stops ts xs n t e h g i p = rw (split_at ts n t h) (rw (each_append (take n ts) (get_or ts n t ∷ drop (suc n) ts), i, ← g, ← p))
