-- The laws of an order, that pairs keep them if their parts do, and that every total comparison does.
use Rattle.std.proofs.Common.{Bool, eqb, ltb, rules}
use Rattle.std.specs.Cmp.{IsTotalOrder}
use Rattle.std.specs.Ordering.{eq_by_cmp}
use Rattle.std.specs.declared.cmp.Ordering.{Ordering}
use Rattle.ranking.specs.Orders.{OneOfThree, CarriesOver, CompareAlike, below_by, pair_below, pair_same}

pub record Lawful {X : Type 0} (below same : X → X → Bool) : Type 0 where
  pub one : OneOfThree below same
  pub carries : CarriesOver below
  pub alike : CompareAlike below same

pub number_lawful : Lawful ltb eqb
number_lawful = record { one = λ x y. search rules; carries = λ x y z h k. search rules; alike = λ x y z h. search rules }

pub pair_lawful : {A B : Type 0} (below same : A → A → Bool) (below' same' : B → B → Bool) → Lawful below same → Lawful below' same' →
    Lawful (pair_below below same below') (pair_same same same')
pair_lawful below same below' same' l m = record { one = λ p q. search rules; carries = λ p q r h k. search rules; alike = λ p q r h. search rules }

-- a total comparison is an order
module _ {X : Type 0} {R : X → X → Ordering} (o : IsTotalOrder R) where
  cmp_one : OneOfThree (below_by R) (eq_by_cmp R)
  cmp_one x y = search rules

  cmp_carries : CarriesOver (below_by R)
  cmp_carries x y z h k = search rules

  cmp_alike : CompareAlike (below_by R) (eq_by_cmp R)
  cmp_alike x y z h = search rules

  pub cmp_lawful : Lawful (below_by R) (eq_by_cmp R)
  cmp_lawful = record { one = cmp_one; carries = cmp_carries; alike = cmp_alike }
