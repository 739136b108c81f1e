-- Wires: which may stand together in a table.
use Rattle.std.specs.Prelude.{ℕ, Bool, not, List, map, length, Ok, count_by, Result, ◌==◌, nat_eq, nat_lt}
use Rattle.std.specs.List.{range_with_len}
use Rattle.wiring.specs.declared.fault.WireFault.{WireFault}
use Rattle.wiring.specs.declared.fault.WireFault.TheVariants.{TableFull, ToItself, FifthFromPoint}
use Rattle.wiring.specs.declared.wire.Wire.{Wire}
use Rattle.fixed.specs.Results.{given}

-- whether a wire leads to another point
abbrev pub leads_on : Wire → Bool
leads_on w = not (w.from == w.to)

-- how many wires lead from a point
abbrev pub leaving : ℕ → List Wire → ℕ
leaving p ws = count_by (λ w. nat_eq w.from p) ws

-- the same of each of the 256 points
unfoldable pub tally : List Wire → List ℕ
tally ws = map (λ p. leaving p ws) (range_with_len 0 256)

-- a wire as it is, or why it may not stand behind those before it
abbrev pub wired : List Wire → Wire → Result Wire WireFault
wired before w =
    given (nat_lt (length before) 256) TableFull
    (given (leads_on w) ToItself (given (nat_lt (leaving w.from before) 4) FifthFromPoint (Ok w)))
