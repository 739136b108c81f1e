-- A job as a plain value.
use Rattle.std.specs.Prelude.{ℕ, Bool, List}
use Rattle.std.specs.List.{list_any}
use Rattle.fixed.specs.Lists.{has}

-- a letter by its code, an argument, an urgency, and the points in their order
pub record Job : Type 0 where
  pub letter : ℕ
  pub argument : ℕ
  pub urgency : ℕ
  pub points : List ℕ

-- two jobs clash when they share a point
abbrev pub clashes : Job → Job → Bool
clashes j k = list_any (has j.points) k.points
