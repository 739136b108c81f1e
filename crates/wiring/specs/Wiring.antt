-- What a wire table holds and what is true of it, and what a push leaves in it.
use Rattle.std.specs.Prelude.{◌≡◌, ℕ, true, List, [], ◌∷◌, ◌++◌, Ok, Err, Result, MatchResult, nat_le}
use Rattle.std.specs.List.{list_all}
use Rattle.wiring.specs.declared.fault.WireFault.{WireFault}
use Rattle.wiring.specs.declared.wire.Wire.{Wire}
use Rattle.wiring.specs.declared.table.WireTable.{WireTable}
use Rattle.fixed.specs.Fixed.{list_of}
use Rattle.wiring.specs.Wires.{leads_on, tally, wired}

abbrev pub wires_of : WireTable → List Wire
wires_of t = list_of t.wires

-- wires and the counts of those that lead from each point
pub record Tallied (ws : List Wire) (counts : List ℕ) : Type 0 where
  pub counted : tally ws ≡ counts
  pub onward : list_all leads_on ws ≡ true
  pub four : list_all (λ n. nat_le n 4) counts ≡ true

-- a wire more, behind those that were there, or why not
abbrev pub Strung : List Wire → Wire → Result (Unit {0}) WireFault → List Wire → Type 0
Strung was w r is = MatchResult r (λ _. (wired was w ≡ Ok w) × (is ≡ was ++ w ∷ [])) (λ e. (wired was w ≡ Err e) × (is ≡ was))
