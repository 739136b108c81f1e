-- What a board's calls answer and leave, by its words: one for each point, so their number is the board's size.
use Rattle.std.specs.Prelude.{◌≡◌, ℕ, ◌<◌, ◌≤◌, List, length, Result, MatchResult, slice_index, slice_set}
use Rattle.board.specs.declared.fault.BoardFault.{BoardFault}
use Rattle.board.specs.declared.fault.BoardFault.TheVariants.{NotOnBoard}

-- the word at a point, refused exactly at the size or above
abbrev pub Read : List ℕ → ℕ → Result ℕ BoardFault → Type 0
Read ws p r = MatchResult r (λ w. (p < length ws) × (w ≡ slice_index ws p)) (λ e. (length ws ≤ p) × (e ≡ NotOnBoard))

-- the words once one is put, refused exactly at the size or above, and then left as they were
abbrev pub Put : List ℕ → ℕ → ℕ → Result (Unit {0}) BoardFault → List ℕ → Type 0
Put ws p w r ws' = MatchResult r (λ _. (p < length ws) × (ws' ≡ slice_set ws p w)) (λ e. (length ws ≤ p) × (e ≡ NotOnBoard) × (ws' ≡ ws))

-- a board has 1 to 256 points
abbrev pub BoardSized : List ℕ → Type 0
BoardSized ws = (1 ≤ length ws) × (length ws ≤ 256)
