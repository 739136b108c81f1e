use Rattle.sheet.proofs.Promised.{accepted, refused}
use Rattle.sheet.proofs.read.read.Goals as goal

pub returns-in-Err-clause-spelled : goal.returns-in-Err-clause-spelled
returns-in-Err-clause-spelled c = (refused c.args.sheet.now c.in-Err.fault c.in-Err.ensures).0

pub returns-in-Err-clause-first : goal.returns-in-Err-clause-first
returns-in-Err-clause-first c = (refused c.args.sheet.now c.in-Err.fault c.in-Err.ensures).1

pub returns-clause-spelled : goal.returns-clause-spelled
returns-clause-spelled c = accepted c.args.sheet.now _ c.in_default.ensures
