use Rattle.std.proofs.Common.{◌∙◌}
use Rattle.job.proofs.Highest.{answered, unmarked_blank}
use Rattle.job.proofs.preview.highest_clash.Goals as goal

pub returns-clause-answer : goal.returns-clause-answer
returns-clause-answer c = answered _ _ _ _ _ _ _ c.in_ok-candidate.ensures c.points.ensures.value (λ p. c.mark.ensures.marked p ∙ rw (c.new-guard.ensures.blank, unmarked_blank p)) c.records.ensures.value c.highest_marked.ensures
