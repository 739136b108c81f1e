-- What a shift shows of the board below it.
use Rattle.std.specs.Prelude.{◌≡◌, ℕ, List, Result, MatchResult}
use Rattle.board.specs.declared.fault.BoardFault.{BoardFault}
use Rattle.board.specs.declared.fault.BoardFault.TheVariants.{InvalidShift}
use Rattle.board.specs.declared.shift.Shift.{Shift}
use Rattle.board.specs.Shifts.{shifted, FitsBelow, Shows}

-- the words of a shift; `words` are those of a board below
abbrev pub shown : {B : Type 0} → (B → List ℕ) → Shift B → List ℕ
shown words b = shifted b.start b.size (words b.below)

-- a shift over the board below, or that board again, where none fits
abbrev pub Shifted : {B : Type 0} → (B → List ℕ) → B → ℕ → ℕ → Result (Shift B) (B × BoardFault) → Type 0
Shifted words below s n r =
    MatchResult r (λ b. FitsBelow (words below) s n × (b.below ≡ below) × (b.start ≡ s) × (b.size ≡ n) × Shows (words below) s n (shown words b))
    (λ e. (FitsBelow (words below) s n → ⊥) × (e ≡ (below, InvalidShift)))
