use Rattle.std.proofs.Common.{◌+◌, ◌<◌, ◌≤◌, length, sym, ap, ◌∙◌, arith, rules, tests}
use Rattle.std.proofs.lemmas.Iterator.Consumers.{YieldsList-turn, YieldsList-end}
use Rattle.std.proofs.lemmas.List.{take_all, length_push}
use Rattle.std.proofs.lemmas.Result.{err_from_is_err_and}
use Rattle.fixed.specs.Fixed.{list_of}
use Rattle.fixed.proofs.Pushing.{pushed_room}
use Rattle.spelling.specs.Fields.{number}
use Rattle.spelling.specs.Texts.{all_of, cut}
use Rattle.fields.proofs.Gathered.{each_more, each_stops}
use Rattle.fields.proofs.Steps.{yields_pieces}
use Rattle.fields.proofs.points.listed.Goals as goal

pub returns-in_err-byte : goal.returns-in_err-byte
returns-in_err-byte c =
    let y = yields_pieces _ 44 c.args.text.now (cc) (cc) (cc) (λ x b q k. search (rules, tests)) in
    let t = YieldsList-turn y c.loop-piece.yielded _ c.loop-piece.yielded_by _ _ c.in-Some.piece c.in-Some.is c.next.ensures.steps in
    let p = err_from_is_err_and c.from_residual.result c.from_residual.ensures.1 in
    rw p.1
    (each_stops (number 255) (all_of (cut 44 c.args.text.now)) (list_of c.loop-piece.list) (length c.loop-piece.yielded) c.in-Some.piece.now _ t.0 t.1 c.loop-piece.invariant.3 (rw p.2 c.in_err-byte.ensures))

pub loop-piece-preserved : goal.loop-piece-preserved
loop-piece-preserved c =
    let y = yields_pieces _ 44 c.args.text.now (cc) (cc) (cc) (λ x b q k. search (rules, tests)) in
    let t = YieldsList-turn y c.loop-piece.yielded _ c.loop-piece.yielded_by _ _ c.in-Some.piece c.in-Some.is c.next.ensures.steps in
    let n = c.loop-piece.invariant.2 in
    let k : length (list_of c.loop-piece.list) < 8 = omega arith in
    let s = pushed_room 8 (λ x. x) (list_of c.loop-piece.list) c.in_ok-byte.field-0 c.push.result (list_of c.push.new.self) k c.push.ensures in
    let z = length_push c.loop-piece.yielded c.in-Some.piece in (
      search rules,
      search rules,
      ap length s ∙ length_push (list_of c.loop-piece.list) c.in_ok-byte.field-0 ∙ ap (λ n. n + 1) n ∙ sym z,
      rw (z, s) (each_more (number 255) (all_of (cut 44 c.args.text.now)) (list_of c.loop-piece.list) (length c.loop-piece.yielded) c.in-Some.piece.now c.in_ok-byte.field-0 t.0 t.1 c.loop-piece.invariant.3 c.in_ok-byte.ensures),
    )

pub returns : goal.returns
returns c =
    let y = yields_pieces _ 44 c.args.text.now (cc) (cc) (cc) (λ x b q k. search (rules, tests)) in
    let t = YieldsList-end y c.loop-piece.yielded _ c.loop-piece.yielded_by _ _ c.in-None.is c.next.ensures.steps in
    let l : length (all_of (cut 44 c.args.text.now)) ≤ length c.loop-piece.yielded = omega (arith, t.1) in
    rw (take_all (length c.loop-piece.yielded) (all_of (cut 44 c.args.text.now)) l) at c.loop-piece.invariant.3
