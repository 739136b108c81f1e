-- Standings: the key of a job, and its number.
use Rattle.std.specs.Prelude.{ℕ, ◌+◌, Bool, List, [], ◌∷◌, nat_eq, nat_lt}
use Rattle.job.specs.Plain.{Job}
use Rattle.ranking.specs.declared.standing.Standing.{Standing}
use Rattle.ranking.specs.Orders.{pair_below, pair_same}

-- compared by key, then by number
abbrev pub standing_below : {K : Type 0} → (K → K → Bool) → (K → K → Bool) → Standing K → Standing K → Bool
standing_below below same s t = pair_below below same nat_lt (s.key, s.number) (t.key, t.number)

abbrev pub standing_same : {K : Type 0} → (K → K → Bool) → Standing K → Standing K → Bool
standing_same same s t = pair_same same nat_eq (s.key, s.number) (t.key, t.number)

-- the standing of a job, whose key is given by the job and its number
abbrev pub standing_of : {K : Type 0} → (Job → ℕ → K) → Job → ℕ → Standing K
standing_of keyed job n = record { key = keyed job n; number = n }

-- the standings of jobs that are numbered from n on
abbrev pub standings_from : {K : Type 0} → (Job → ℕ → K) → ℕ → List Job → List (Standing K)
standings_from keyed n [] = []
standings_from keyed n (job ∷ jobs) = standing_of keyed job n ∷ standings_from keyed (n + 1) jobs

-- the standings of a generation, whose jobs are numbered from 1
abbrev pub standings_of : {K : Type 0} → (Job → ℕ → K) → List Job → List (Standing K)
standings_of keyed jobs = standings_from keyed 1 jobs
