use Rattle.std.proofs.Common.{rules}
use Rattle.job.proofs.Highest.{highest}
use Rattle.job.proofs.marks.MarkGuard.highest_marked.Goals as goal

pub returns : goal.returns
returns c = highest c.args.self.now.marks.now c.args.jobs.now c.rposition.result c.map.result (search rules) (search rules)
