use Rattle.std.proofs.Common.{refl, rules, tests}
use Rattle.std.proofs.lemmas.Iterator.Consumers.{nth_from_yields_List}
use Rattle.spelling.specs.Texts.{all_of, cut}
use Rattle.fields.proofs.Steps.{none_behind, yields_pieces}
use Rattle.fields.proofs.shape.at_most.Goals as goal

pub returns : goal.returns
returns c =
    none_behind (λ x. x.now) c.nth.result c.args.most (all_of (cut c.args.separator c.args.text.now)) c.is_none.result c.is_none.ensures
    (nth_from_yields_List c.nth.result _ c.args.most c.nth.ensures.ran (yields_pieces _ c.args.separator c.args.text.now (cc) (cc) refl (λ x b q k. search (rules, tests))))
