use Rattle.std.proofs.Common.{arith}
use Rattle.std.proofs.lemmas.Grind.{common_steps}
use Rattle.procedure.proofs.Rules.{raised, capped}
use Rattle.procedure.proofs.laws.tally_never_lowers.Goals as goal

pub returns : goal.returns
returns c j ws h = let r = raised j.argument ws h in let t = capped j.argument ws in grind (arith, common_steps)
