-- Pedigrees: the number of a parent, and a place among its follow-ups.
use Rattle.std.specs.Prelude.{Bool, nat_eq, nat_lt}
use Rattle.ranking.specs.declared.pedigree.Pedigree.{Pedigree}
use Rattle.ranking.specs.Orders.{pair_below, pair_same}

-- compared by parent, then by place
abbrev pub pedigree_below : Pedigree → Pedigree → Bool
pedigree_below p q = pair_below nat_lt nat_eq nat_lt (p.parent, p.place) (q.parent, q.place)

abbrev pub pedigree_same : Pedigree → Pedigree → Bool
pedigree_same p q = pair_same nat_eq nat_eq (p.parent, p.place) (q.parent, q.place)
