use Rattle.std.proofs.Common.{arith}
use Rattle.std.proofs.Math.Seq.{take-set-lt}
use Rattle.std.proofs.lemmas.Grind.{common_steps}
use Rattle.std.proofs.lemmas.List.{drop-set-add}
use Rattle.board.proofs.shift.calls.ShiftBoard.put.Goals as goal

pub returns-clause-here : goal.returns-clause-here
returns-clause-here g c = grind (arith, common_steps, take-set-lt, drop-set-add)
