use Rattle.procedure.proofs.Rules.{spread_sends_on}
use Rattle.procedure.proofs.laws.spread_sends_on.Goals as goal

pub returns-clause-sends : goal.returns-clause-sends
returns-clause-sends c = spread_sends_on
