use Rattle.ranking.proofs.Counts.{different_counts, larger_count_larger}
use Rattle.ranking.proofs.laws.larger_count_larger.Goals as goal

pub returns-clause-different : goal.returns-clause-different
returns-clause-different g c =
    let m = g.met.E.Order in
    different_counts _ _ (record { one = m.one; carries = m.carries; alike = m.alike })

pub returns-clause-larger : goal.returns-clause-larger
returns-clause-larger g c =
    let m = g.met.E.Order in
    larger_count_larger _ _ (record { one = m.one; carries = m.carries; alike = m.alike })
