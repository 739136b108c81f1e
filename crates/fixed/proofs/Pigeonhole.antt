-- Numbers below n at n places, no two the same: each number below n is among them.
use Rattle.std.proofs.Common.{◌≡◌, ℕ, ◌<◌, ◌≤◌, ◌≢◌, true, eqb, List, ◌∷◌, length, get_or, sym, ◌∙◌, ⊎_elim, arith}
use Rattle.std.specs.List.{All, AllPairs, position_or_len, list_any}
use Rattle.std.proofs.lemmas.Bool.{cases_lt, or_cases, eqb-true, eqb-false}
use Rattle.std.proofs.lemmas.Bool.Decides.{Decides-eqb}
use Rattle.std.proofs.lemmas.List.{get_or_default}
use Rattle.std.proofs.lemmas.List.Elements.{at_from_Contains}
use Rattle.std.proofs.lemmas.List.Kept.{AllPairs-cons}
use Rattle.std.proofs.lemmas.List.Sums.{fails_before_first, passes_at_first}
use Rattle.std.proofs.lemmas.Map.Made.{IsDistinct-from_AllPairs}
use Rattle.std.proofs.lemmas.Map.Steps.{length-le_from_distinct_below}
use Rattle.std.proofs.lemmas.Map.Views.{Contains-from_any}

-- where no two places of n have the same number, and each number is below n, each number below n has a place
pub onto_placed : (xs : List ℕ) →
    ((i : ℕ) → i < length xs → get_or xs i 0 < length xs) →
    ((i j : ℕ) → i < length xs → j < length xs → get_or xs i 0 ≡ get_or xs j 0 → i ≡ j) →
    (v : ℕ) → v < length xs → (i : ℕ) × (i < length xs) × (get_or xs i 0 ≡ v)
onto_placed xs low once v l = ⊎_elim
    (λ h. (position_or_len (eqb v) xs, h, sym (eqb-true v _ (passes_at_first (eqb v) xs 0 h))))
    (λ h. let more : length (v ∷ xs) ≤ length xs = length-le_from_distinct_below (v ∷ xs) (length xs) (IsDistinct-from_AllPairs Decides-eqb (v ∷ xs) (AllPairs-cons (λ x y. x ≢ y) v xs (apart h) pairs)) below in absurd (omega arith))
    (cases_lt (position_or_len (eqb v) xs) (length xs))
  where
    apart : length xs ≤ position_or_len (eqb v) xs → All (λ x. v ≢ x) xs
    apart h k d m e = eqb-false v (get_or xs k d) (fails_before_first (eqb v) xs k d (omega arith)) e

    pairs : AllPairs (λ x y. x ≢ y) xs
    pairs i j d h k e = let z : i ≡ j = once i j (omega arith) k (get_or_default xs i 0 d (omega arith) ∙ (e ∙ get_or_default xs j d 0 k)) in omega arith

    below : (q : ℕ) → list_any (eqb q) (v ∷ xs) ≡ true → q < length xs
    below q h = ⊎_elim
        (λ e. let z = eqb-true q v e in omega arith)
        (λ e. let (k, m, a) = at_from_Contains xs q (Contains-from_any eqb-true q xs e) in let b = a 0 in omega (arith, low k m))
        (or_cases (eqb q v) (list_any (eqb q) xs) h)
