use Rattle.wiring.proofs.Counts.{none_tallied}
use Rattle.wiring.proofs.table.WireTable.new.Goals as goal

pub invariant_of-result : goal.invariant_of-result
invariant_of-result c = let t = none_tallied _ c.new.ensures in record { counted = t.counted; onward = t.onward; four = t.four }
