-- The steps of the reader.
use Rattle.std.proofs.Common.{◌≡◌, ℕ, zero, suc, ◌+◌, Bool, true, false, not, eqb, leb, ltb, List, [], ◌∷◌, length, take, drop, Some, None, Option, sym, refl, ap, ◌∙◌, arith}
use Rattle.std.proofs.Math.Numerals.{one-add}
use Rattle.std.proofs.lemmas.List.{take_all}
use Rattle.std.proofs.lemmas.Bool.{le-leb, lt-leb, eqb-true, ltb-true, ltb-false}
use Rattle.std.proofs.lemmas.List.Sums.{passes_at_first, split_at_first}
use Rattle.std.proofs.lemmas.Iterator.{YieldsList}
use Rattle.std.proofs.lemmas.Iterator.Splits.{YieldsList-from_slice_split}
use Rattle.std.specs.Borrow.{Bor}
use Rattle.std.specs.Fn.{CalledAt}
use Rattle.std.specs.Slice.Iter.{split_rest, split_done, split_callee, split_steps}
use Rattle.std.specs.declared.slice.Split.{Split}
use denote.Param.Members.{Mut}
use Rattle.std.specs.List.{position, position_or_len, slice_split, slice_get, onto_first}
use Rattle.std.specs.Option.{option_map, is_some, is_none}
use Rattle.std.specs.Cmp.Lexicographic.{pointwise}
use Rattle.fixed.proofs.Pushing.{by_bool}
use Rattle.spelling.specs.Texts.{Pieces, last, more, onto, cut, all_of, same}
use Rattle.spelling.proofs.Basics.{Free, cut_more, cut_last}
use Rattle.fields.specs.declared.reader.Reader.{Reader}
use Rattle.fields.specs.Reading.{Ends, rest_of, pieces_of}

-- ## The first separator
free_before : (c : ℕ) (t : List ℕ) → Free c (take (position_or_len (λ b. eqb b c) t) t)
free_before c [] = tt
free_before c (b ∷ t) = by_bool (eqb b c) (λ e. rw e tt) (λ e. rw (e, one-add) (e, free_before c t))

pub ends_first : (c : ℕ) (t : List ℕ) → Ends c t (position (λ b. eqb b c) t)
ends_first c t =
    let n = position_or_len (λ b. eqb b c) t in
    by_bool (ltb n (length t))
    (λ e.
    let l = ltb-true n (length t) e in
    let g = eqb-true _ _ (passes_at_first (λ b. eqb b c) t 0 l) in
    rw e (l, ap (cut c) (split_at_first (λ b. eqb b c) t 0 l ∙ rw g) ∙ cut_more c (take n t) (drop (n + 1) t) (free_before c t)))
    (λ e. rw e (cut_last c t (rw (take_all n t (ltb-false n (length t) e)) at (free_before c t))))

-- ## Texts that are the same
-- the library's test of two texts
pub same_eq : (xs ys : List ℕ) → pointwise eqb xs ys ≡ same xs ys
same_eq [] [] = refl
same_eq [] (y ∷ ys) = refl
same_eq (x ∷ xs) [] = refl
same_eq (x ∷ xs) (y ∷ ys) = rw (same_eq xs ys)

-- the library's pieces
split_onto : (b : ℕ) (p : Pieces) → onto_first b (all_of p) ≡ all_of (onto b p)
split_onto b (last l) = refl
split_onto b (more l p) = refl

pub split_cut : (c : ℕ) (t : List ℕ) → slice_split (λ b. eqb b c) t ≡ all_of (cut c t)
split_cut c [] = refl
split_cut c (b ∷ t) = by_bool (eqb b c) (λ e. rw (e, split_cut c t)) (λ e. rw (e, split_cut c t, split_onto b (cut c t)))

pub yields_pieces : {F : Type 0} {s : Split ℕ F} (g : Mut F (Bor ℕ × Unit {0}) Bool) (c : ℕ) {f : F} (t : List ℕ) → split_rest s ≡ t → split_done s ≡ false → split_callee s ≡ f →
    ((x : ℕ) (b : Bool) (q : F) → CalledAt g f x b q → (q ≡ f) × (b ≡ eqb x c)) → YieldsList (split_steps g) (λ x. x.now) s (all_of (cut c t))
yields_pieces g c t r d p h = rw (← split_cut c t) (YieldsList-from_slice_split g (λ b. eqb b c) t r d p h)

-- nothing is there at place n exactly if there are at most n
none_at : {B : Type 0} (n : ℕ) (xs : List B) → is_none (slice_get xs n) ≡ leb (length xs) n
none_at zero [] = refl
none_at (suc n) [] = sym (le-leb 0 (suc n) (omega arith))
none_at zero (x ∷ xs) = sym (lt-leb (length (x ∷ xs)) 0 (omega arith))
none_at (suc n) (x ∷ xs) = none_at n xs ∙ grind arith

none_shown : {A B : Type 0} (v : A → B) (r : Option A) → is_none r ≡ is_none (option_map v r)
none_shown v (Some x) = refl
none_shown v None = refl

turned : (b c : Bool) → c ≡ not b → b ≡ not c
turned true c e = rw e
turned false c e = rw e

pub none_behind : {A B : Type 0} (v : A → B) (r : Option A) (n : ℕ) (xs : List B) (b : Bool) → is_some r ≡ not b → option_map v r ≡ slice_get xs n → b ≡ leb (length xs) n
none_behind v r n xs b h e = turned b (is_some r) h ∙ none_shown v r ∙ ap is_none e ∙ none_at n xs

-- a reader that has handed on nothing yet
pub fresh_pieces : (c : ℕ) (r : Reader) (t : List ℕ) → rest_of r ≡ t → r.done ≡ false → pieces_of c r ≡ all_of (cut c t)
fresh_pieces c r t e d = rw (d, e)
