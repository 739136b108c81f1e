use Rattle.procedure.proofs.Good.{good_exactly}
use Rattle.procedure.proofs.laws.good_exactly.Goals as goal

pub returns : goal.returns
returns c = good_exactly
