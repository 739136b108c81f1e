-- The rule of two procedures with a cut letter.
use Rattle.std.specs.Prelude.{ℕ, cond, nat_lt}
use Rattle.procedure.specs.Proposals.{Rule}

-- letters before the cut go to the first, others to the second
abbrev pub paired_rule : ℕ → Rule → Rule → Rule
paired_rule cut first second j ws = cond (nat_lt j.letter cut) (first j ws) (second j ws)
