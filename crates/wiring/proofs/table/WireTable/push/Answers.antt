use Rattle.std.proofs.Common.{◌<◌, length, sym, refl, rules}
use Rattle.std.proofs.lemmas.Bool.{leb-false}
use Rattle.fixed.specs.Fixed.{list_of}
use Rattle.fixed.proofs.Pushing.{pushed_room}
use Rattle.wiring.specs.Wiring.{Tallied}
use Rattle.wiring.proofs.Counts.{wired_fifth, wired_well, tallied_push}
use Rattle.wiring.proofs.table.WireTable.push.Goals as goal

pub returns-then-self-from-ge4 : goal.returns-then-self-from-ge4
returns-then-self-from-ge4 c =
    let t : Tallied (list_of c.args.self.now.wires) c.args.self.now.leaving = record { counted = c.args.self.now.counted; onward = c.args.self.now.onward; four = c.args.self.now.four } in
    (wired_fifth _ c.args.wire _ _ t c.from-from.ensures (search rules) (leb-false _ _ (sym c.if-is_full.ensures)) c.if-wire.false c.if-self-from-ge4.true, refl)

pub invariant_of-self : goal.invariant_of-self
invariant_of-self c =
    let t : Tallied (list_of c.args.self.now.wires) c.args.self.now.leaving = record { counted = c.args.self.now.counted; onward = c.args.self.now.onward; four = c.args.self.now.four } in
    let room : length (list_of c.args.self.now.wires) < 256 = leb-false _ _ (sym c.if-is_full.ensures) in
    let u = tallied_push _ c.args.wire _ _ t c.from-from.ensures (search rules) c.if-wire.false c.if-self-from-ge4.false _ (pushed_room 256 (λ y. y) _ c.args.wire _ _ room c.push.ensures) in
    record { counted = u.counted; onward = u.onward; four = u.four }

pub returns : goal.returns
returns c =
    let t : Tallied (list_of c.args.self.now.wires) c.args.self.now.leaving = record { counted = c.args.self.now.counted; onward = c.args.self.now.onward; four = c.args.self.now.four } in
    let room : length (list_of c.args.self.now.wires) < 256 = leb-false _ _ (sym c.if-is_full.ensures) in (
      wired_well _ c.args.wire _ _ t c.from-from.ensures (search rules) room c.if-wire.false c.if-self-from-ge4.false,
      pushed_room 256 (λ y. y) _ c.args.wire _ _ room c.push.ensures,
    )
