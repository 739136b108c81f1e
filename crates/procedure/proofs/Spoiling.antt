-- A follow-up spoils its proposal exactly if it is no job record, or has a point that is not below the size.
use Rattle.std.proofs.Common.{◌≡◌, ℕ, min, true, false, cond, not, ◌&&◌, leb, List, [], ◌∷◌, is_ok, MatchOption, Some, None, Option, Ok, Err, Result, sym, refl, ap, ◌∙◌, arith}
use Rattle.std.specs.List.{list_all}
use Rattle.std.specs.Result.{result_ok}
use Rattle.std.proofs.lemmas.Bool.Decides.{nat_tests}
use Rattle.std.proofs.lemmas.Grind.{common_steps}
use Rattle.fixed.proofs.Pushing.{by_bool}
use Rattle.fixed.specs.Results.{Means}
use Rattle.job.proofs.Admitting.{admitted_same}
use Rattle.job.specs.Admitted.{admitted}
use Rattle.job.specs.Plain.{Job}
use Rattle.job.specs.Records.{job_of}
use Rattle.job.specs.declared.fault.JobFault.{JobFault}
use Rattle.job.specs.declared.record.JobRecord.{JobRecord}
use Rattle.board.specs.Points.{on_board}
use Rattle.procedure.specs.Proposals.{spoils}

-- a board has at most 256 points
on_both : (size : ℕ) (ps : List ℕ) → on_board (min size 256) ps ≡ (on_board size ps && list_all (λ (p : ℕ). leb p 255) ps)
on_both size [] = refl
on_both size (p ∷ ps) = grind (arith, nat_tests, common_steps, on_both size ps)

pub spoils_test : (size : ℕ) (j : Job) → spoils size j ≡ not (is_ok (admitted j) && on_board size j.points)
spoils_test size j = grind (arith, nat_tests, common_steps, on_both size j.points)

tested : (size : ℕ) (j : Job) (r : Result Job JobFault) → admitted j ≡ r → spoils size j ≡ not (is_ok r && on_board size j.points)
tested size j r e = rw (← e) (spoils_test size j)

-- what is kept of a draft's record if its points are on the board
pub kept : (size : ℕ) (d : Job) (r : Result JobRecord JobFault) (o : Option JobRecord) → Means job_of (admitted d) r
    → MatchOption (result_ok r) (o ≡ None) (λ j. o ≡ cond (on_board size (job_of j).points) (Some j) None)
    → MatchOption o (spoils size d ≡ true) (λ j. (spoils size d ≡ false) × (job_of j ≡ d))
kept size d (Err e) o m k = rw k (tested size d _ m)
kept size d (Ok j) o m k =
    let s = admitted_same d (job_of j) m in
    let t = tested size d _ m ∙ ap (λ (i : Job). not (on_board size i.points)) (sym s) in
    by_bool (on_board size (job_of j).points) (λ e. rw (k, e) (t ∙ ap not e, s)) (λ e. rw (k, e) (t ∙ ap not e))
