-- What the rules and the verdict on a proposal promise, in the words of jobs and boards.
use Rattle.std.specs.Prelude.{◌≡◌, ℕ, ◌+◌, ◌<◌, ◌≤◌, true, false, ◌⊎◌, ◌↔◌, List, [], ◌∷◌, length, replicate, Ok, ◌≢◌, slice_index, slice_index_or}
use Rattle.std.specs.List.{AllByRecursion}
use Rattle.wiring.specs.Wires.{leaving}
use Rattle.wiring.specs.declared.wire.Wire.{Wire}
use Rattle.job.specs.Admitted.{admitted, no_record}
use Rattle.job.specs.Plain.{Job}
use Rattle.procedure.specs.Paired.{paired_rule}
use Rattle.procedure.specs.Proposals.{Proposed, Rule, unchanged, spoilt}
use Rattle.procedure.specs.Spread.{spread_rule}
use Rattle.procedure.specs.Tally.{tally_rule}

-- ## The edges
abbrev tally_by : ℕ → Job
tally_by n = record { letter = 84; argument = n; urgency = 0; points = 7 ∷ [] }

abbrev spread_by : ℕ → Job
spread_by n = record { letter = 83; argument = n; urgency = 5; points = 7 ∷ 8 ∷ [] }

abbrev onward : List Wire
onward = record { from = 8; to = 9; delay = 3 } ∷ []

abbrev sent : Job
sent = record { letter = 83; argument = 3; urgency = 5; points = 8 ∷ 9 ∷ [] }

abbrev handed_in : ℕ → Proposed
handed_in n = record { words = []; followups = replicate n no_record }

-- a tally stops at the highest word; a spread writes the highest word and none above it, and none that equals the word there; four follow-ups are good and five are not
abbrev pub Edges : Type 0
Edges =
    (tally_rule (tally_by 10) (4294967290 ∷ []) ≡ unchanged (4294967295 ∷ []))
    × (spread_rule onward (spread_by 5) (4294967290 ∷ 0 ∷ []) ≡ record { words = 4294967290 ∷ 4294967295 ∷ []; followups = sent ∷ [] })
    × (spread_rule onward (spread_by 6) (4294967290 ∷ 0 ∷ []) ≡ unchanged (4294967290 ∷ 0 ∷ []))
    × (spread_rule onward (spread_by 5) (2 ∷ 8 ∷ []) ≡ record { words = 2 ∷ 7 ∷ []; followups = sent ∷ [] })
    × (spread_rule onward (spread_by 5) (2 ∷ 7 ∷ []) ≡ unchanged (2 ∷ 7 ∷ []))
    × (spoilt 1 (handed_in 4) ≡ false)
    × (spoilt 1 (handed_in 5) ≡ true)

-- ## A tally
-- whatever the letter, no word gets lower or passes the highest word, and there are no follow-ups
abbrev pub TallyNeverLowers : Type 0
TallyNeverLowers = (j : Job) (ws : List ℕ) → AllByRecursion (λ w. w ≤ 4294967295) ws →
    ((k : ℕ) → slice_index ws k ≤ slice_index (tally_rule j ws).words k)
    × AllByRecursion (λ w. w ≤ 4294967295) (tally_rule j ws).words
    × ((tally_rule j ws).followups ≡ [])

-- ## A spread
abbrev pub SpreadKeepsOthers : Type 0
SpreadKeepsOthers = (wires : List Wire) (j : Job) (ws : List ℕ) →
    (length (spread_rule wires j ws).words ≡ length ws)
    × ((k : ℕ) → (k ≢ 1) → slice_index (spread_rule wires j ws).words k ≡ slice_index ws k)

-- a second word that changes becomes the first word plus the argument; it is a word and not 0, and lower than before unless it was 0
abbrev pub SpreadStartsOrLowers : Type 0
SpreadStartsOrLowers = (wires : List Wire) (j : Job) (ws : List ℕ) (new : ℕ) → new ≡ slice_index (spread_rule wires j ws).words 1 → (new ≢ slice_index ws 1) →
    (new ≡ slice_index ws 0 + j.argument) × (0 < new) × (new ≤ 4294967295) × ((slice_index ws 1 ≢ 0) → new < slice_index ws 1)

-- what a spread asks before it writes
pub record Spreads (j : Job) (ws : List ℕ) : Type 0 where
  pub letter : j.letter ≡ 83
  pub points : length j.points ≡ 2
  pub words : length ws ≡ 2
  pub first : 0 < slice_index ws 0
  pub sum : slice_index_or ws 0 0 + j.argument ≤ 4294967295
  pub second : (slice_index ws 1 ≡ 0) ⊎ (slice_index ws 0 + j.argument < slice_index ws 1)

abbrev pub SpreadWritesExactly : Type 0
SpreadWritesExactly = (wires : List Wire) (j : Job) (ws : List ℕ) → ((spread_rule wires j ws).words ≢ ws) ↔ Spreads j ws

-- a job of letter S from b to some point, with that urgency
pub record LeadsFrom (b urgency : ℕ) (j : Job) : Type 0 where
  pub letter : j.letter ≡ 83
  pub urgent : j.urgency ≡ urgency
  pub end : ℕ
  pub points : j.points ≡ b ∷ end ∷ []

-- a spread that writes hands in a job for each wire from the second point
abbrev pub SpreadSendsOn : Type 0
SpreadSendsOn = (wires : List Wire) (j : Job) (ws : List ℕ) → ((spread_rule wires j ws).words ≢ ws) →
    (length (spread_rule wires j ws).followups ≡ leaving (slice_index j.points 1) wires)
    × AllByRecursion (LeadsFrom (slice_index j.points 1) j.urgency) (spread_rule wires j ws).followups

-- and one that does not write hands in nothing
abbrev pub SpreadIsSilent : Type 0
SpreadIsSilent = (wires : List Wire) (j : Job) (ws : List ℕ) → (spread_rule wires j ws).words ≡ ws → (spread_rule wires j ws).followups ≡ []

-- ## A pair
abbrev pub PairedIsOne : Type 0
PairedIsOne = (cut : ℕ) (first second : Rule) (j : Job) (ws : List ℕ) →
    (j.letter < cut → paired_rule cut first second j ws ≡ first j ws)
    × (cut ≤ j.letter → paired_rule cut first second j ws ≡ second j ws)

-- ## A good proposal
-- a job record whose points are below the board's size
abbrev pub OnBoard : ℕ → Job → Type 0
OnBoard size j = (admitted j ≡ Ok j) × AllByRecursion (λ p. p < size) j.points

abbrev pub GoodExactly : Type 0
GoodExactly = (size : ℕ) (p : Proposed) → (spoilt size p ≡ false) ↔ ((length p.followups ≤ 4) × AllByRecursion (OnBoard size) p.followups)
