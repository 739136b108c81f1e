use Rattle.std.proofs.Common.{get_or, inl, inr, arith, rules}
use Rattle.std.specs.Int.{IsInRange}
use Rattle.std.proofs.lemmas.Bool.Decides.{nat_tests}
use Rattle.fields.proofs.Numbers.{no_digit, digits_next, value_next}
use Rattle.fields.proofs.number.value.Goals as goal
use Rattle.fields.proofs.number.value.Goals.{then-n-from, else-n-from}

pub returns-then-not-is_ascii_digit : goal.returns-then-not-is_ascii_digit
returns-then-not-is_ascii_digit c = no_digit c.args.text.now c.loop-b.b-index c.loop-b-test.true (λ d. let e = c.if-not-is_ascii_digit.ensures.value in grind (arith, nat_tests))

pub loop-b-preserved : goal.loop-b-preserved
loop-b-preserved c =
    let e = c.if-not-is_ascii_digit.ensures.value in
    let d : IsInRange 48 57 (get_or c.args.text.now c.loop-b.b-index 0) = grind (arith, nat_tests) in (
      digits_next c.args.text.now c.loop-b.b-index c.loop-b-test.true c.loop-b.invariant.0 d,
      value_next c.loop-b.n c.args.text.now c.loop-b.b-index c.loop-b-test.true d c.loop-b.invariant.1 c.if-n-from.n
          (elim c.if-n-from.branch [ then-n-from w ↦ inl (omega (arith, w.if-n-from.true), search rules) | else-n-from w ↦ inr (omega (arith, w.if-n-from.false), search rules) ]),
    )
