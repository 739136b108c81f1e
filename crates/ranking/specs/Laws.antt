-- What the count of those below says of a value, for every order; and what the orders of this crate say.
use Rattle.std.specs.Prelude.{◌≡◌, ℕ, ◌<◌, Bool, true, false, ◌⊎◌, ◌↔◌, List, length, ◌≢◌, nat_eq, nat_lt, slice_index_or}
use Rattle.job.specs.Plain.{Job}
use Rattle.ranking.specs.declared.pedigree.Pedigree.{Pedigree}
use Rattle.ranking.specs.declared.standing.Standing.{Standing}
use Rattle.ranking.specs.Orders.{pair_below, pair_same, count_below}
use Rattle.ranking.specs.Standings.{standing_below, standing_same, standing_of, standings_of}
use Rattle.ranking.specs.Pedigrees.{pedigree_below, pedigree_same}
use Rattle.ranking.specs.Keys.{sheet_key, urgency_key}

-- ## Counts, for every order
-- values that are the same have equal counts
abbrev pub SameEqualCounts : {X : Type 0} → (X → X → Bool) → (X → X → Bool) → Type 0
SameEqualCounts {X} below same = (xs : List X) (x y : X) → same x y ≡ true → count_below below xs x ≡ count_below below xs y

-- elements that are not the same have different counts
abbrev pub DifferentCounts : {X : Type 0} → (X → X → Bool) → (X → X → Bool) → Type 0
DifferentCounts {X} below same =
    (xs : List X) (i j : ℕ) (d : X) → i < length xs → j < length xs → same (slice_index_or xs i d) (slice_index_or xs j d) ≡ false →
    count_below below xs (slice_index_or xs i d) ≢ count_below below xs (slice_index_or xs j d)

-- an element has a smaller count than another value exactly if it is below that value
abbrev pub LargerCountLarger : {X : Type 0} → (X → X → Bool) → Type 0
LargerCountLarger {X} below =
    (xs : List X) (i : ℕ) (d y : X) → i < length xs →
    (count_below below xs (slice_index_or xs i d) < count_below below xs y) ↔ (below (slice_index_or xs i d) y ≡ true)

-- the counts of a list's elements are the numbers below its length, each once
pub record CountsEachOnce {X : Type 0} (below : X → X → Bool) (xs : List X) : Type 0 where
  pub within : (i : ℕ) (d : X) → i < length xs → count_below below xs (slice_index_or xs i d) < length xs
  pub once : (i j : ℕ) (d : X) → i < length xs → j < length xs → count_below below xs (slice_index_or xs i d) ≡ count_below below xs (slice_index_or xs j d) → i ≡ j
  pub each : (n : ℕ) (d : X) → n < length xs → (i : ℕ) × (i < length xs) × (count_below below xs (slice_index_or xs i d) ≡ n)

-- no two elements are the same
abbrev pub AllDifferent : {X : Type 0} → (X → X → Bool) → List X → Type 0
AllDifferent {X} same xs = (i j : ℕ) (d : X) → i < length xs → j < length xs → same (slice_index_or xs i d) (slice_index_or xs j d) ≡ true → i ≡ j

abbrev pub DifferentEachOnce : {X : Type 0} → (X → X → Bool) → (X → X → Bool) → Type 0
DifferentEachOnce {X} below same = (xs : List X) → AllDifferent same xs → CountsEachOnce below xs

-- ## Standings
-- standings that are the same have the same number
abbrev pub NumberTellsApart : {K : Type 0} → (K → K → Bool) → Type 0
NumberTellsApart {K} same = (s t : Standing K) → standing_same same s t ≡ true → s.number ≡ t.number

-- the counts of a generation's standings are the numbers below the count of its jobs, each once
abbrev pub GenerationEachOnce : {K : Type 0} → (K → K → Bool) → (K → K → Bool) → (Job → ℕ → K) → Type 0
GenerationEachOnce below same keyed =
    (jobs : List Job) → (length (standings_of keyed jobs) ≡ length jobs) × CountsEachOnce (standing_below below same) (standings_of keyed jobs)

-- under sheet order the smaller number is below
abbrev pub SheetByNumber : Type 0
SheetByNumber = (j k : Job) (m n : ℕ) → (standing_below nat_lt nat_eq (standing_of sheet_key j m) (standing_of sheet_key k n) ≡ true) ↔ (m < n)

-- below another: by lower urgency, at equal urgencies by fewer points, at equal both by the smaller number
abbrev pub BelowByUrgency : Job → ℕ → Job → ℕ → Type 0
BelowByUrgency j m k n =
    (j.urgency < k.urgency) ⊎
    ((j.urgency ≡ k.urgency) × ((length j.points < length k.points) ⊎
    ((length j.points ≡ length k.points) × (m < n))))

abbrev pub UrgencyThenPoints : Type 0
UrgencyThenPoints =
    (j k : Job) (m n : ℕ) →
    (standing_below (pair_below nat_lt nat_eq nat_lt) (pair_same nat_eq nat_eq) (standing_of urgency_key j m) (standing_of urgency_key k n) ≡ true) ↔ BelowByUrgency j m k n

-- ## Pedigrees
-- below another: by the smaller parent, at equal parents by the smaller place
abbrev pub BelowByParent : Pedigree → Pedigree → Type 0
BelowByParent p q = (p.parent < q.parent) ⊎ ((p.parent ≡ q.parent) × (p.place < q.place))

abbrev pub ParentThenPlace : Type 0
ParentThenPlace = (p q : Pedigree) → (pedigree_below p q ≡ true) ↔ BelowByParent p q

-- pedigrees are the same exactly if they are equal
abbrev pub SameIfEqual : Type 0
SameIfEqual = (p q : Pedigree) → (pedigree_same p q ≡ true) ↔ (p ≡ q)
