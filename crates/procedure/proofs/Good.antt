-- Good proposals, from tests to facts of each follow-up.
use Rattle.std.proofs.Common.{◌≡◌, ℕ, ◌<◌, Bool, true, false, not, ◌&&◌, ◌↔◌, List, [], ◌∷◌, is_ok, Ok, Err, Result, refl, ap, ◌∙◌, arith}
use Rattle.std.proofs.lemmas.Bool.Decides.{nat_tests}
use Rattle.std.proofs.lemmas.Grind.{common_steps}
use Rattle.std.specs.List.{AllByRecursion, list_any}
use Rattle.board.specs.Points.{on_board}
use Rattle.job.proofs.Admitting.{admitted_same}
use Rattle.job.specs.Admitted.{admitted}
use Rattle.job.specs.Plain.{Job}
use Rattle.job.specs.declared.fault.JobFault.{JobFault}
use Rattle.procedure.specs.Laws.{OnBoard, GoodExactly}
use Rattle.procedure.specs.Proposals.{spoils}
use Rattle.procedure.proofs.Spoiling.{spoils_test}

below : (size : ℕ) (ps : List ℕ) → (on_board size ps ≡ true) ↔ AllByRecursion (λ (p : ℕ). p < size) ps
below size [] = (λ h. tt, λ h. refl)
below size (p ∷ ps) = let b = below size ps in (λ h. grind (arith, nat_tests, common_steps, b.0), λ h. grind (arith, nat_tests, common_steps, b.1))

-- a test that fails exactly where P holds
none_all : {A : Type 0} (f : A → Bool) (P : A → Type 0) → ((x : A) → (f x ≡ false) ↔ P x) → (xs : List A) → (list_any f xs ≡ false) ↔ AllByRecursion P xs
none_all f P e [] = (λ h. tt, λ h. refl)
none_all f P e (x ∷ xs) = let b = none_all f P e xs in let a = e x in (λ h. grind (arith, common_steps, a.0, b.0), λ h. grind (arith, common_steps, a.1, b.1))

admitted_whole : (j : Job) (r : Result Job JobFault) → admitted j ≡ r → is_ok r ≡ true → admitted j ≡ Ok j
admitted_whole j (Ok k) e h = e ∙ ap Ok (admitted_same j k e)
admitted_whole j (Err f) e h = cc

good_one : (size : ℕ) (j : Job) → (spoils size j ≡ false) ↔ OnBoard size j
good_one size j = combine (spoils size j) (admitted j) (spoils_test size j) (admitted_whole j _ refl) (below size j.points)
  where
    combine : (b : Bool) (r : Result Job JobFault) → b ≡ not (is_ok r && on_board size j.points) → (is_ok r ≡ true → r ≡ Ok j) → ((on_board size j.points ≡ true) ↔ AllByRecursion (λ (p : ℕ). p < size) j.points) → (b ≡ false) ↔ ((r ≡ Ok j) × AllByRecursion (λ (p : ℕ). p < size) j.points)
    combine b r t w k = (λ h. grind (arith, common_steps, w, k.0), λ h. grind (arith, common_steps, k.1))

pub good_exactly : GoodExactly
good_exactly size p = let k = none_all (spoils size) (OnBoard size) (good_one size) p.followups in (λ h. grind (arith, nat_tests, common_steps, k.0), λ h. grind (arith, nat_tests, common_steps, k.1))
