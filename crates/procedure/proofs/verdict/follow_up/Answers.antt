use Rattle.std.proofs.Common.{rules}
use Rattle.job.specs.Records.{draft_of}
use Rattle.procedure.proofs.Spoiling.{kept}
use Rattle.procedure.proofs.verdict.follow_up.Goals as goal

pub returns : goal.returns
returns c = kept c.args.size (draft_of c.args.draft.now) c.try_from.result c.filter.result c.try_from.ensures (search rules)
