-- The words at a list of points, read and put.
use Rattle.std.specs.Prelude.{◌≡◌, ℕ, Bool, List, [], ◌∷◌, map, length, Ok, Err, Result, MatchResult, ◌==◌, nat_le, nat_lt, slice_index, slice_set}
use Rattle.std.specs.List.{list_all}
use Rattle.fixed.specs.Results.{given}
use Rattle.board.specs.declared.fault.BoardFault.{BoardFault}
use Rattle.board.specs.declared.fault.BoardFault.TheVariants.{WrongLength, NotOnBoard}

-- whether each point is below a board's size
abbrev pub on_board : ℕ → List ℕ → Bool
on_board size ps = list_all (λ p. nat_lt p size) ps

-- the words at the points, in their order
abbrev pub words_at : List ℕ → List ℕ → List ℕ
words_at ws ps = map (λ p. slice_index ws p) ps

-- the words once the k-th of the new ones is put at the k-th point, from the first on
abbrev pub put_at : List ℕ → List ℕ → List ℕ → List ℕ
put_at ws [] vs = ws
put_at ws (p ∷ ps) [] = ws
put_at ws (p ∷ ps) (v ∷ vs) = put_at (slice_set ws p v) ps vs

-- the words at up to 8 points, all on the board
abbrev pub reading : List ℕ → List ℕ → Result (List ℕ) BoardFault
reading ws ps = given (nat_le (length ps) 8) WrongLength (given (on_board (length ws) ps) NotOnBoard (Ok (words_at ws ps)))

-- the words once a word is put at each of the points, all on the board
abbrev pub putting : List ℕ → List ℕ → List ℕ → Result (List ℕ) BoardFault
putting ws ps vs = given (length vs == length ps) WrongLength (given (on_board (length ws) ps) NotOnBoard (Ok (put_at ws ps vs)))

-- the words that are left: those that were put, or on a refusal those that were there
abbrev pub PutAll : List ℕ → List ℕ → List ℕ → Result (Unit {0}) BoardFault → List ℕ → Type 0
PutAll ws ps vs r ws' = MatchResult r (λ _. putting ws ps vs ≡ Ok ws') (λ e. (putting ws ps vs ≡ Err e) × (ws' ≡ ws))
