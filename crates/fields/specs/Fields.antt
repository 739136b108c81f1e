-- What a field of a column holds.
use Rattle.std.specs.Prelude.{◌≡◌, ℕ, ◌≤◌, List, Ok, decimal, Result, MatchResult, ◌≢◌}
use Rattle.job.specs.declared.fault.FieldFault.{FieldFault}
use Rattle.fixed.specs.Results.{and_then}
use Rattle.spelling.specs.declared.column.Column.{Column}
use Rattle.spelling.specs.declared.column.Column.TheVariants.{Proc, Arg, Urg, Points}
use Rattle.spelling.specs.Fields.{letter, number}
use Rattle.fields.specs.declared.field.Field.{Field}
use Rattle.fields.specs.declared.field.Field.TheVariants.{Letter, Number, List as Listed}

-- a list is a part of the line, and stands at that offset
abbrev pub IsList : List ℕ → ℕ → Field → Type 0
IsList t at (Letter c) = ⊥
IsList t at (Number n) = ⊥
IsList t at (Listed l i) = (l.now ≡ t) × (i ≡ at)

-- the text t, which begins at a place of the line, as a field of a column
abbrev pub Reads : Column → List ℕ → ℕ → Result Field FieldFault → Type 0
Reads Proc t at r = r ≡ and_then (letter t) (λ x. Ok (Letter x))
Reads Arg t at r = r ≡ and_then (number 4294967295 t) (λ x. Ok (Number x))
Reads Urg t at r = r ≡ and_then (number 9 t) (λ x. Ok (Number x))
Reads Points t at r = MatchResult r (IsList t at) (λ _. ⊥)

-- the number that was written, or no number within the range was written
abbrev pub Written : ℕ → List ℕ → Result ℕ FieldFault → Type 0
Written top t r = MatchResult r (λ n. (t ≡ decimal n) × (n ≤ top)) (λ _. (n : ℕ) → n ≤ top → t ≢ decimal n)
