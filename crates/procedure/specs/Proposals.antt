-- What a procedure hands in, as plain values, and what spoils it.
use Rattle.std.specs.Prelude.{◌≡◌, ℕ, min, Bool, not, ◌||◌, List, [], map, length, vec_items, nat_lt}
use Rattle.std.specs.List.{list_any}
use Rattle.fixed.specs.Lists.{distinct}
use Rattle.board.specs.Points.{on_board}
use Rattle.job.specs.Plain.{Job}
use Rattle.job.specs.Records.{draft_of}
use Rattle.procedure.specs.declared.proposal.Proposal.{Proposal}

-- the new words at a job's points, and the jobs that are to follow
pub record Proposed : Type 0 where
  pub words : List ℕ
  pub followups : List Job

-- what a procedure means: from a job and the words at its points, what it hands in
abbrev pub Rule : Type 0
Rule = Job → List ℕ → Proposed

-- at a job with a word for each of its points a rule gives as many new words
abbrev pub AsMany : Rule → Type 0
AsMany rule = (j : Job) (ws : List ℕ) → length ws ≡ length j.points → length (rule j ws).words ≡ length ws

-- the words as they are, and no follow-ups
abbrev pub unchanged : List ℕ → Proposed
unchanged ws = record { words = ws; followups = [] }

abbrev pub proposal_of : Proposal → Proposed
proposal_of p = record { words = vec_items p.words; followups = map draft_of (vec_items p.follow_ups) }

-- whether a follow-up spoils the proposal that it stands in; no board has more than 256 points
abbrev pub spoils : ℕ → Job → Bool
spoils size j =
    nat_lt j.letter 65 || (nat_lt 90 j.letter || (nat_lt 9 j.urgency
    || (nat_lt 8 (length j.points) || (not (distinct j.points) || not (on_board (min size 256) j.points)))))

-- whether a proposal is spoilt
abbrev pub spoilt : ℕ → Proposed → Bool
spoilt size p = nat_lt 4 (length p.followups) || list_any (spoils size) p.followups
