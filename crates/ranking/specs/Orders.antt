-- Orders, as tests of two values.
use Rattle.std.specs.Prelude.{◌≡◌, ℕ, Bool, true, false, ◌&&◌, ◌||◌, List, count_by}
use Rattle.std.specs.declared.cmp.Ordering.{Ordering}
use Rattle.std.specs.Ordering.{is_lt}

-- whether the first value is below the second, by what a comparison answers; that they are the same is std's `eq_by_cmp`
abbrev pub below_by : {X : Type 0} → (X → X → Ordering) → X → X → Bool
below_by cmp x y = is_lt (cmp x y)

-- two tests answer alike of all values
abbrev pub AnswerAlike : {X : Type 0} → (X → X → Bool) → (X → X → Bool) → Type 0
AnswerAlike {X} test other = (x y : X) → test x y ≡ other x y

-- exactly one of three tests holds
abbrev pub ExactlyOne : Bool → Bool → Bool → Type 0
ExactlyOne true b c = (b ≡ false) × (c ≡ false)
ExactlyOne false true c = c ≡ false
ExactlyOne false false c = c ≡ true

-- of two values exactly one holds: the first is below the second, they are the same, or the second is below the first
abbrev pub OneOfThree : {X : Type 0} → (X → X → Bool) → (X → X → Bool) → Type 0
OneOfThree {X} below same = (x y : X) → ExactlyOne (below x y) (same x y) (below y x)

-- below carries over from pair to pair
abbrev pub CarriesOver : {X : Type 0} → (X → X → Bool) → Type 0
CarriesOver {X} below = (x y z : X) → below x y ≡ true → below y z ≡ true → below x z ≡ true

-- values that are the same compare alike with every third
abbrev pub CompareAlike : {X : Type 0} → (X → X → Bool) → (X → X → Bool) → Type 0
CompareAlike {X} below same = (x y z : X) → same x y ≡ true → (below x z ≡ below y z) × (below z x ≡ below z y) × (same x z ≡ same y z)

-- pairs are compared by the first parts, and by the second where the first are the same
abbrev pub pair_below : {A B : Type 0} → (A → A → Bool) → (A → A → Bool) → (B → B → Bool) → A × B → A × B → Bool
pair_below below same below' p q = below p.0 q.0 || (same p.0 q.0 && below' p.1 q.1)

abbrev pub pair_same : {A B : Type 0} → (A → A → Bool) → (B → B → Bool) → A × B → A × B → Bool
pair_same same same' p q = same p.0 q.0 && same' p.1 q.1

-- how many elements of a list are below a value
abbrev pub count_below : {X : Type 0} → (X → X → Bool) → List X → X → ℕ
count_below below xs y = count_by (λ x. below x y) xs
