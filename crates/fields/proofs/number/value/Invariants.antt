use Rattle.std.proofs.Common.{◌≡◌, true, take}
use Rattle.std.specs.Str.{all_ascii_digits}
use Rattle.std.specs.Str.Parse.{digits_value}
use Rattle.fields.proofs.Numbers.{Alike}
use Rattle.fields.proofs.number.value.Given as goal

abbrev pub invariant-loop-b : goal.invariant-loop-b
invariant-loop-b l = (all_ascii_digits (take l.b-index l.text) ≡ true) × Alike l.n (digits_value 10 (take l.b-index l.text))
