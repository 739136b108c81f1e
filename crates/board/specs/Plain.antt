-- A plain board lies on a lent slice.
use Rattle.std.specs.Prelude.{◌≡◌, ℕ, List, Result, MatchResult}
use Rattle.std.specs.Borrow.{MutBor}
use Rattle.board.specs.declared.fault.BoardFault.{BoardFault}
use Rattle.board.specs.declared.fault.BoardFault.TheVariants.{WrongLength}
use Rattle.board.specs.declared.plain.PlainBoard.{PlainBoard}
use Rattle.board.specs.Boards.{BoardSized}

-- a board on the words of a slice, or the slice as it was, where it is no board's
abbrev pub Laid : MutBor (List ℕ) → Result PlainBoard (MutBor (List ℕ) × BoardFault) → Type 0
Laid cells r =
    MatchResult r (λ b. BoardSized cells.now × (b.cells.now ≡ cells.now))
    (λ e. (BoardSized cells.now → ⊥) × (e.0.now ≡ cells.now) × (e.1 ≡ WrongLength))
