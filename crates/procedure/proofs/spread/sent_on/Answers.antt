use Rattle.std.proofs.Common.{eqb, map, filter, IfOk, Result, ap, ◌∙◌, rules}
use Rattle.std.proofs.lemmas.Result.{IfOk-weaker}
use Rattle.wiring.specs.declared.wire.Wire.{Wire}
use Rattle.job.specs.Records.{draft_of}
use Rattle.procedure.specs.Spread.{along}
use Rattle.procedure.proofs.Trying.{gathered, read_filtered}
use Rattle.procedure.proofs.spread.sent_on.Goals as goal

weaker : {X Y : Type 0} {P : X → Type 0} (Q : X → Type 0) (r : Result X Y) → IfOk r P → ((x : X) → P x → Q x) → IfOk r Q
weaker {P = P} Q r h f = IfOk-weaker r P Q f h

pub returns : goal.returns
returns c =
    let test = λ (w : Wire). eqb w.from c.args.b in
    let draft = along c.args.b c.args.urgency in
    weaker _ c.try_collect.result c.try_collect.ensures.runs (λ v w.
    (let (p, from, whole, tried) = w in
    let (ys, all, many, held) = tried (λ xs v x w a b. search rules) in
    let (q, qfrom, mapped) = c.map.ensures.runs p p.seen from in
    let (u, ufrom, passed) = c.filter.ensures.runs q q.seen qfrom in
    let calls = mapped.2 (λ a r f k. search rules) in
    let e = gathered _ p q draft_of (λ x. draft x.now) ys mapped.1 calls.1 (λ x y h. search rules) many held in
    let kept = passed.4 (λ x. test x.now) (λ x r f k. search rules) in
    let read = (c.iter.ensures.runs u u.seen).4 (passed.0 ∙ (mapped.0 ∙ whole)) in
    ap (map draft_of) all.0 ∙ (e ∙ (ap (map (λ x. draft x.now)) kept ∙ (read_filtered (λ x. x.now) test draft u.items ∙ ap (λ ws. map draft (filter test ws)) (read ∙ cc))))))
