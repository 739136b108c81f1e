use Rattle.std.proofs.Common.{◌≤◌, length, ◌∙◌, arith}
use Rattle.fixed.specs.Fixed.{list_of}
use Rattle.fixed.proofs.Pushing.{pushed_room}
use Rattle.job.specs.Records.{job_of, draft_of}
use Rattle.procedure.specs.Proposals.{spoils}
use Rattle.procedure.proofs.Judging.{room, turned_more, passes}
use Rattle.procedure.proofs.proposal.Proposal.judged.Goals as goal

pub loop-draft-preserved : goal.loop-draft-preserved
loop-draft-preserved c =
    let items = c.deref-draft-items.result.now in
    let i = c.loop-draft.draft-index in
    let x = c.draft-item.result in
    let t = c.loop-draft-test.true in
    let e = c.in_ok-job.ensures in
    let few : length items ≤ 4 = omega (arith, c.if-len-gt4.false, c.len.ensures, c.deref-draft-items.ensures.len) in
    let p = pushed_room 4 (λ y. y) (list_of c.loop-draft.jobs) c.in_ok-job.job c.push.result (list_of c.push.new.self)
    (room job_of draft_of items i 4 (list_of c.loop-draft.jobs) c.loop-draft.invariant.0 t few) c.push.ensures in (
      turned_more job_of draft_of items i (list_of c.loop-draft.jobs) (list_of c.push.new.self) c.in_ok-job.job x t c.draft-item.is c.loop-draft.invariant.0 p e.1,
      c.loop-draft.invariant.1 ∙ passes draft_of (spoils c.args.size) items i x t c.draft-item.is e.0,
    )
