use Rattle.std.proofs.Common.{refl}
use Rattle.std.proofs.lemmas.Result.{err_from_is_err_and}
use Rattle.wiring.specs.Wiring.{wires_of}
use Rattle.sheet.proofs.Putting.{wire_refused, wire_faulty, wire_taken}
use Rattle.sheet.proofs.wires.take_wire.Goals as goal

pub returns-in_err-wire : goal.returns-in_err-wire
returns-in_err-wire c =
    let p = err_from_is_err_and c.from_residual-in_err-wire.result c.from_residual-in_err-wire.ensures.1 in
    rw (p.1, p.2) (
      wire_refused (wires_of c.args.wires.now) c.args.line.now c.if-is_full.ensures c.in_ok-expect_fields.ensures c.in_err-wire.field-0.0 c.in_err-wire.ensures,
      refl,
    )

pub returns-in_err-push : goal.returns-in_err-push
returns-in_err-push c =
    let p = err_from_is_err_and c.from_residual-in_err-push.result c.from_residual-in_err-push.ensures.1 in
    let e = c.in_err-push.ensures in
    rw (p.1, p.2) (
      wire_faulty (wires_of c.args.wires.now) c.args.line.now c.if-is_full.ensures c.in_ok-expect_fields.ensures c.in_ok-wire.wire c.in_err-push.field-0.0 c.in_ok-wire.ensures e.0,
      e.1,
    )

pub returns : goal.returns
returns c =
    let e = c.in_ok-push.ensures in
    wire_taken (wires_of c.args.wires.now) c.args.line.now c.if-is_full.ensures c.in_ok-expect_fields.ensures c.in_ok-wire.wire (wires_of c.push.new.self) c.in_ok-wire.ensures e.0 e.1
