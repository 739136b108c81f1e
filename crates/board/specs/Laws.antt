-- What holds of every board that is made: its limits, the words put at lists of points, and shifts over shifts.
use Rattle.std.specs.Prelude.{◌≡◌, ℕ, ◌+◌, ◌≤◌, true, false, List, length, Result, slice_index}
use Rattle.fixed.specs.Lists.{has, distinct}
use Rattle.board.specs.declared.fault.BoardFault.{BoardFault}
use Rattle.board.specs.Boards.{Put, BoardSized}
use Rattle.board.specs.Points.{on_board, words_at, put_at}
use Rattle.board.specs.Shifts.{shifted, FitsBelow}

-- a put keeps a board within its limits
abbrev pub PutKeepsLimits : Type 0
PutKeepsLimits = (ws ws' : List ℕ) (p w : ℕ) (r : Result (Unit {0}) BoardFault) → BoardSized ws → Put ws p w r ws' → BoardSized ws'

-- a shift that fits is a board, if the one below is
abbrev pub ShiftWithinLimits : Type 0
ShiftWithinLimits = (ws : List ℕ) (s n : ℕ) → BoardSized ws → FitsBelow ws s n → BoardSized (shifted s n ws)

-- words put at different points of the board are read there again
abbrev pub ReadAsPut : Type 0
ReadAsPut = (ws ps vs : List ℕ) → on_board (length ws) ps ≡ true → distinct ps ≡ true → length vs ≡ length ps → words_at (put_at ws ps vs) ps ≡ vs

-- no other word changes, and the size stays
abbrev pub OthersKept : Type 0
OthersKept = (ws ps vs : List ℕ) → (length (put_at ws ps vs) ≡ length ws) × ((p : ℕ) → has ps p ≡ false → slice_index (put_at ws ps vs) p ≡ slice_index ws p)

-- a shift over a shift is one shift, by both starts together
abbrev pub ShiftsAdd : Type 0
ShiftsAdd = (ws : List ℕ) (s m t n : ℕ) → t + n ≤ m → shifted t n (shifted s m ws) ≡ shifted (s + t) n ws
