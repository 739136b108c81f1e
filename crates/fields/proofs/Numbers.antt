-- The digits of a number, one by one.
use Rattle.std.proofs.Common.{◌≡◌, ℕ, ◌+◌, ◌-◌, ◌*◌, ◌^◌, ◌<◌, ◌≤◌, true, false, ◌⊎◌, inl, inr, min, List, length, get_or, take, Ok, Err, Result, sym, arith}
use Rattle.std.proofs.lemmas.Int.Digits.{digits_value_more, digits_more}
use Rattle.std.proofs.lemmas.List.{take_all}
use Rattle.std.proofs.lemmas.Str.Parse.{IsNumeralModel, numerals_by_value, tells_all_ascii_digits, digit_at}
use Rattle.std.proofs.lemmas.Bool.{le-leb, lt-leb}
use Rattle.std.proofs.lemmas.Bool.Decides.{nat_tests}
use Rattle.std.specs.Str.{all_ascii_digits}
use Rattle.std.specs.Int.{IsInRange}
use Rattle.std.specs.Char.{digit_value}
use Rattle.std.specs.Str.Parse.{digits_value}
use Rattle.job.specs.declared.fault.FieldFault.{FieldFault}
use Rattle.job.specs.declared.fault.FieldFault.TheVariants.{NoNumber, AboveRange}
use Rattle.fixed.proofs.Pushing.{by_bool}
use Rattle.spelling.specs.Fields.{number, plain}
use Rattle.spelling.proofs.Values.{number_exactly_written}
use Rattle.fields.specs.Fields.{Written}

own : IsNumeralModel (λ ds. all_ascii_digits ds ≡ true) (digits_value 10)
own = numerals_by_value (λ ds. all_ascii_digits ds ≡ true) tells_all_ascii_digits

digit_is : (x : ℕ) → IsInRange 48 57 x → digit_value x ≡ x - 48
digit_is x h = grind (arith, nat_tests)

pub no_digit : (t : List ℕ) (i : ℕ) → i < length t → (IsInRange 48 57 (get_or t i 0) → ⊥) → all_ascii_digits t ≡ false
no_digit t i h n = by_bool (all_ascii_digits t) (λ e. absurd (n (digit_at t i (own.to t e) h))) (λ e. e)

pub digits_next : (t : List ℕ) (i : ℕ) → i < length t → all_ascii_digits (take i t) ≡ true → IsInRange 48 57 (get_or t i 0) → all_ascii_digits (take (i + 1) t) ≡ true
digits_next t i h d n = own.from (take (i + 1) t) (digits_more 10 t i h (own.to (take i t) d) (rw (digit_is (get_or t i 0) n) (omega arith)))

-- n and v are the same, or both beyond 32 bits
abbrev pub Alike : ℕ → ℕ → Type 0
Alike n v = min n (2 ^ 32) ≡ min v (2 ^ 32)

pub value_next : (n : ℕ) (t : List ℕ) (i : ℕ) → i < length t → IsInRange 48 57 (get_or t i 0) → Alike n (digits_value 10 (take i t)) → (m : ℕ) →
    ((n < 2 ^ 32) × (m ≡ n * 10 + (get_or t i 0 - 48))) ⊎ ((2 ^ 32 ≤ n) × (m ≡ n)) → Alike m (digits_value 10 (take (i + 1) t))
value_next n t i h d near m (inl w) = rw (digits_value_more 10 t i h, digit_is (get_or t i 0) d) (omega (arith, w.0, w.1))
value_next n t i h d near m (inr w) = rw (digits_value_more 10 t i h) (omega (arith, w.0, w.1))

pub whole_digits : (t : List ℕ) (i : ℕ) → length t ≤ i → all_ascii_digits (take i t) ≡ true → all_ascii_digits t ≡ true
whole_digits t i h d = rw (take_all i t h) at d

pub whole_value : (n : ℕ) (t : List ℕ) (i : ℕ) → length t ≤ i → Alike n (digits_value 10 (take i t)) → Alike n (digits_value 10 t)
whole_value n t i h d = rw (take_all i t h) at d

pub number_not_plain : (top : ℕ) (t : List ℕ) → false ≡ plain t → Err NoNumber ≡ number top t
number_not_plain top t p = by_bool (all_ascii_digits t) (λ e. rw (e, ← p)) (λ e. rw e)

pub number_none : (top : ℕ) (t : List ℕ) → all_ascii_digits t ≡ false → Err NoNumber ≡ number top t
number_none top t d = rw d

-- n is what the digits write, as far as it goes
module _ (top n : ℕ) (t : List ℕ) (p : true ≡ plain t) (d : all_ascii_digits t ≡ true) (e : Alike n (digits_value 10 t)) where
  pub number_above : top < n → top < 2 ^ 32 → Err (AboveRange top) ≡ number top t
  number_above k b = let z : top < digits_value 10 t = omega (arith, e) in rw (d, ← p, lt-leb (digits_value 10 t) top z)

  pub number_within : n ≤ top → top < 2 ^ 32 → Ok n ≡ number top t
  number_within k b = let z : n ≡ digits_value 10 t = omega (arith, e) in rw (z, d, ← p, le-leb (digits_value 10 t) top (omega arith))

-- exactly what one writes for a number is read as it
pub written_exactly : (top : ℕ) (t : List ℕ) (r : Result ℕ FieldFault) → top < 2 ^ 32 → r ≡ number top t → Written top t r
written_exactly top t (Ok n) h e = (number_exactly_written top (omega arith) t n).0 (sym e)
written_exactly top t (Err f) h e = λ n l w. let k = (number_exactly_written top (omega arith) t n).1 (w, l) in absurd cc
