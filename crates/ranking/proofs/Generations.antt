-- The standings of a generation are all different, by their numbers.
use Rattle.std.proofs.Common.{◌≡◌, ℕ, zero, suc, ◌+◌, ◌<◌, Bool, eqb, ltb, List, [], ◌∷◌, length, get_or, refl, ap, arith, rules}
use Rattle.job.specs.Plain.{Job}
use Rattle.ranking.specs.declared.standing.Standing.{Standing}
use Rattle.ranking.specs.Standings.{standing_below, standing_same, standings_from, standings_of}
use Rattle.ranking.specs.Laws.{NumberTellsApart, AllDifferent, GenerationEachOnce}
use Rattle.ranking.proofs.Counts.{different_each_once}
use Rattle.ranking.proofs.Lawful.{Lawful, number_lawful, pair_lawful}

pub length_standings : {K : Type 0} (keyed : Job → ℕ → K) (n : ℕ) (jobs : List Job) → length (standings_from keyed n jobs) ≡ length jobs
length_standings keyed n [] = refl
length_standings keyed n (job ∷ jobs) = ap suc (length_standings keyed (n + 1) jobs)

pub number_at : {K : Type 0} (keyed : Job → ℕ → K) (n : ℕ) (jobs : List Job) (i : ℕ) (d : Standing K) → i < length (standings_from keyed n jobs) →
    (get_or (standings_from keyed n jobs) i d).number ≡ n + i
number_at keyed n [] i d l = absurd (omega arith)
number_at keyed n (job ∷ jobs) zero d l = omega arith
number_at keyed n (job ∷ jobs) (suc i) d l = omega (arith, number_at keyed (n + 1) jobs i d (omega arith))

pub number_tells_apart : {K : Type 0} (same : K → K → Bool) → NumberTellsApart same
number_tells_apart same s t h = search rules

pub all_different : {K : Type 0} (same : K → K → Bool) (keyed : Job → ℕ → K) (jobs : List Job) → AllDifferent (standing_same same) (standings_of keyed jobs)
all_different same keyed jobs i j d l k h =
    omega (arith, number_tells_apart same _ _ h, number_at keyed 1 jobs i d l, number_at keyed 1 jobs j d k)

pub standing_lawful : {K : Type 0} (below same : K → K → Bool) → Lawful below same → Lawful (standing_below below same) (standing_same same)
standing_lawful below same l =
    let p = pair_lawful below same ltb eqb l number_lawful in
    record { one = λ s t. p.one _ _; carries = λ s t u. p.carries _ _ _; alike = λ s t u. p.alike _ _ _ }

pub generation_each_once : {K : Type 0} (below same : K → K → Bool) (keyed : Job → ℕ → K) → Lawful below same → GenerationEachOnce below same keyed
generation_each_once below same keyed l jobs = (
  length_standings keyed 1 jobs,
  different_each_once (standing_below below same) (standing_same same) (standing_lawful below same l) (standings_of keyed jobs) (all_different same keyed jobs),
)
