-- Bytes between separators: lines, fields and points alike.
use Rattle.std.specs.Prelude.{ℕ, Bool, true, false, cond, ◌&&◌, List, [], ◌∷◌, Ok, Result, ◌==◌}
use Rattle.fixed.specs.Results.{and_then}

-- some pieces that a separator ends, and what follows the last separator
pub data Pieces : Type 0 where
  last : List ℕ → Pieces
  more : List ℕ → Pieces → Pieces

abbrev pub onto : ℕ → Pieces → Pieces
onto b (last l) = last (b ∷ l)
onto b (more l p) = more (b ∷ l) p

abbrev pub cut : ℕ → List ℕ → Pieces
cut c [] = last []
cut c (b ∷ bs) = cond (b == c) (more [] (cut c bs)) (onto b (cut c bs))

-- the pieces, whether or not a separator ends them
abbrev pub all_of : Pieces → List (List ℕ)
all_of (last l) = l ∷ []
all_of (more l p) = l ∷ all_of p

-- whether two texts are the same
abbrev pub same : List ℕ → List ℕ → Bool
same [] [] = true
same [] (y ∷ ys) = false
same (x ∷ xs) [] = false
same (x ∷ xs) (y ∷ ys) = x == y && same xs ys

abbrev pub empty : List ℕ → Bool
empty [] = true
empty (x ∷ xs) = false

-- each in turn, up to the first that is refused
abbrev pub each : {A B E : Type 0} → (A → Result B E) → List A → Result (List B) E
each f [] = Ok []
each f (x ∷ xs) = and_then (f x) (λ y. and_then (each f xs) (λ ys. Ok (y ∷ ys)))
