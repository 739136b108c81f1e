use Rattle.ranking.proofs.Counts.{different_each_once}
use Rattle.ranking.proofs.laws.counts_each_once.Goals as goal

pub returns : goal.returns
returns g c =
    let m = g.met.E.Order in
    different_each_once _ _ (record { one = m.one; carries = m.carries; alike = m.alike })
