use Rattle.std.proofs.Common.{ℕ, map, length, sym, ap, ◌∙◌, arith}
use lib.ListN.{length-replicate, length-map}
use Rattle.std.proofs.lemmas.List.{length-take}
use Rattle.fixed.specs.Fixed.{list_of}
use Rattle.job.specs.Records.{job_of, draft_of, jobs_of}
use Rattle.fixed.proofs.Pushing.{pushed_room}
use Rattle.job.proofs.Highest.{job_read}
use Rattle.listing.proofs.Rows.{rows_more, earlier_more, clash_here}
use Rattle.listing.proofs.check.clashes.Goals as goal

pub loop-job-preserved : goal.loop-job-preserved
loop-job-preserved c =
    let items = c.records-job-items.result.now in
    let js = map job_of items in
    let i = c.loop-job.job-index in
    let (long, before, rows) = c.loop-job.invariant in
    let few = c.records-job-items.ensures.bound in
    let many = length-map items job_of in
    let so_far = ap length before ∙ length-take i js in
    let here = job_read items i c.job-item.result c.loop-job-test.true c.job-item.is in
    let answer = (c.in-Ok.ensures.answer.0 long).1 in
    let row = pushed_room 64 (λ y. y) (list_of c.loop-job.rows) c.in-Ok.clash c.push.result (list_of c.push.new.self) (omega (arith, rows.0)) c.push.ensures in
    let next = pushed_room 64 job_of (jobs_of c.loop-job.earlier) c.job-item.result c.push-in-loop-job.result (jobs_of c.push-in-loop-job.new.self) (omega arith) c.push-in-loop-job.ensures in (
      ap length (c.in-Ok.ensures.blanked.0 long) ∙ length-replicate {A = ℕ} 256 0,
      earlier_more js (jobs_of c.loop-job.earlier) (jobs_of c.push-in-loop-job.new.self) i (job_of c.job-item.result) (omega arith) before next here,
      rows_more js i (list_of c.loop-job.rows) (list_of c.push.new.self) c.in-Ok.clash rows row
          (clash_here js (jobs_of c.loop-job.earlier) i (draft_of c.in_ok-draft.draft) c.in-Ok.clash before (c.in_ok-draft.ensures.same ∙ sym here) answer),
    )
