-- The rule of letter T.
use Rattle.std.specs.Prelude.{ℕ, ◌+◌, min, cond, List, [], map, ◌==◌}
use Rattle.procedure.specs.Proposals.{Rule, unchanged}

-- each word with the argument added, stopping at the highest word
abbrev pub tallied : ℕ → List ℕ → List ℕ
tallied argument ws = map (λ w. min (w + argument) 4294967295) ws

abbrev pub tally_rule : Rule
tally_rule j ws = cond (j.letter == 84) (record { words = tallied j.argument ws; followups = [] }) (unchanged ws)
