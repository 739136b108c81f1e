use Rattle.std.proofs.Common.{ℕ, leb, refl, arith}
use Rattle.std.specs.List.{list_all}
use Rattle.std.proofs.lemmas.Bool.{le-leb}
use Rattle.std.proofs.lemmas.List.Recursion.{and_from_places}
use Rattle.job.proofs.record.calls.widened.Goals as goal

pub returns-clause-small : goal.returns-clause-small
returns-clause-small c =
    let small = λ (p : ℕ). leb p 255 in
    and_from_places (list_all small) small refl (λ _ _. refl) c.args.points.now 0 (λ k l. let t = c.type_inv.points k in le-leb _ _ (omega arith))
