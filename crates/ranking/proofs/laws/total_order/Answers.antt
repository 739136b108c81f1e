use Rattle.ranking.proofs.Counts.{different_counts, larger_count_larger, different_each_once}
use Rattle.ranking.proofs.Generations.{generation_each_once}
use Rattle.ranking.proofs.Lawful.{cmp_lawful}
use Rattle.ranking.proofs.laws.total_order.Goals as goal

pub returns-clause-different : goal.returns-clause-different
returns-clause-different g c = different_counts _ _ (cmp_lawful g.met.E.Ord.total)

pub returns-clause-larger : goal.returns-clause-larger
returns-clause-larger g c = larger_count_larger _ _ (cmp_lawful g.met.E.Ord.total)

pub returns-clause-each_once : goal.returns-clause-each_once
returns-clause-each_once g c = different_each_once _ _ (cmp_lawful g.met.E.Ord.total)

pub returns-clause-generation : goal.returns-clause-generation
returns-clause-generation g c keyed = generation_each_once _ _ keyed (cmp_lawful g.met.E.Ord.total)
