-- Shifts: part of the words of a board, as a board.
use Rattle.std.specs.Prelude.{◌≡◌, ℕ, ◌+◌, ◌<◌, ◌≤◌, List, length, take, drop, Result, MatchResult, slice_index, slice_set}
use Rattle.board.specs.declared.fault.BoardFault.{BoardFault}
use Rattle.board.specs.declared.fault.BoardFault.TheVariants.{NotOnBoard}

-- the words of a shift: n of them, from s on
abbrev pub shifted : ℕ → ℕ → List ℕ → List ℕ
shifted s n ws = take n (drop s ws)

-- a shift has at least one point, and all of them are on the board below
abbrev pub FitsBelow : List ℕ → ℕ → ℕ → Type 0
FitsBelow ws s n = (1 ≤ n) × (s + n ≤ length ws)

-- there are n words, and the one at p is the one at s + p below
abbrev pub Shows : List ℕ → ℕ → ℕ → List ℕ → Type 0
Shows ws s n vs = (length vs ≡ n) × ((p : ℕ) → p < n → slice_index vs p ≡ slice_index ws (s + p))

-- the point below, of a point of the shift
abbrev pub Reached : List ℕ → ℕ → ℕ → ℕ → Result ℕ BoardFault → Type 0
Reached ws s n p r = MatchResult r (λ q. (q ≡ s + p) × (p < n)) (λ e. (length (shifted s n ws) ≤ p) × (e ≡ NotOnBoard))

-- what a put through a shift leaves in the words below: the one at s + p is set, and no other
abbrev pub KeptBelow : List ℕ → ℕ → ℕ → ℕ → Result (Unit {0}) BoardFault → List ℕ → Type 0
KeptBelow ws s p w r ws' = MatchResult r (λ _. (s + p < length ws) × (ws' ≡ slice_set ws (s + p) w)) (λ _. ws' ≡ ws)
