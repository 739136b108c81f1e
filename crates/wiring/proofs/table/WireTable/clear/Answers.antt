use Rattle.wiring.proofs.Counts.{none_tallied}
use Rattle.wiring.proofs.table.WireTable.clear.Goals as goal

pub invariant_of-self : goal.invariant_of-self
invariant_of-self c = let t = none_tallied _ c.clear.ensures in record { counted = t.counted; onward = t.onward; four = t.four }
