use Rattle.ranking.proofs.Generations.{generation_each_once}
use Rattle.ranking.proofs.laws.standings_each_once.Goals as goal

pub returns-clause-once : goal.returns-clause-once
returns-clause-once g c =
    let m = g.met.P.Key.Order in
    generation_each_once _ _ _ (record { one = m.one; carries = m.carries; alike = m.alike })
