-- The rule of letter S: the word of the first point, a, is carried to the second, b.
use Rattle.std.specs.Prelude.{ℕ, ◌+◌, Bool, cond, not, ◌&&◌, ◌||◌, List, [], ◌∷◌, map, length, filter, ◌==◌, nat_eq, nat_le, nat_lt, slice_index, slice_set}
use Rattle.wiring.specs.declared.wire.Wire.{Wire}
use Rattle.job.specs.Plain.{Job}
use Rattle.procedure.specs.Proposals.{Rule, unchanged}

-- whether v takes the place of the word at b: there is a word at a, v is a word, and b has none or a higher one
abbrev pub reaches : ℕ → ℕ → ℕ → Bool
reaches at_a at_b v = not (at_a == 0) && (nat_le v 4294967295 && (at_b == 0 || nat_lt v at_b))

-- the follow-up along a wire from b
abbrev pub along : ℕ → ℕ → Wire → Job
along b urgency w = record { letter = 83; argument = w.delay; urgency = urgency; points = b ∷ w.to ∷ [] }

-- a follow-up for each wire from b, in the order of the wires
abbrev pub sent_on : ℕ → ℕ → List Wire → List Job
sent_on b urgency wires = map (along b urgency) (filter (λ w. nat_eq w.from b) wires)

-- whether a job is of letter S, and has two points with a word for each
abbrev pub for_two : Job → List ℕ → Bool
for_two j ws = j.letter == 83 && (length j.points == 2 && length ws == 2)

-- the word that is carried to the second point
abbrev pub carried : Job → List ℕ → ℕ
carried j ws = slice_index ws 0 + j.argument

-- whether it is written there
abbrev pub writes : Job → List ℕ → Bool
writes j ws = for_two j ws && reaches (slice_index ws 0) (slice_index ws 1) (carried j ws)

abbrev pub spread_rule : List Wire → Rule
spread_rule wires j ws =
    cond (writes j ws)
    (record { words = slice_set ws 1 (carried j ws); followups = sent_on (slice_index j.points 1) j.urgency wires })
    (unchanged ws)
