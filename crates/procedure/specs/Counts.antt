-- Each rule gives as many words as it takes.
use Rattle.std.specs.Prelude.{◌≡◌, ℕ, ◌+◌, min, List, [], length, ◌==◌, slice_index, refl}
use Rattle.std.proofs.lemmas.List.{length-map, length-set}
use Rattle.std.proofs.lemmas.Bool.{cond_both}
use Rattle.wiring.specs.declared.wire.Wire.{Wire}
use Rattle.procedure.specs.Proposals.{Proposed, Rule, AsMany, unchanged}
use Rattle.procedure.specs.Spread.{spread_rule}
use Rattle.procedure.specs.Tally.{tallied, tally_rule}
use Rattle.procedure.specs.Paired.{paired_rule}

pub tally_as_many : AsMany tally_rule
tally_as_many j ws h = cond_both (j.letter == 84) (record { words = tallied j.argument ws; followups = [] }) (unchanged ws) (λ (p : Proposed). length p.words ≡ length ws)
    (λ e. length-map ws (λ (w : ℕ). min (w + j.argument) 4294967295)) (λ e. refl)

pub spread_as_many : (wires : List Wire) → AsMany (spread_rule wires)
spread_as_many wires j ws h = cond_both _ _ (unchanged ws) (λ (p : Proposed). length p.words ≡ length ws)
    (λ e. length-set ws 1 (slice_index ws 0 + j.argument)) (λ e. refl)

pub paired_as_many : (cut : ℕ) (first second : Rule) → AsMany first → AsMany second → AsMany (paired_rule cut first second)
paired_as_many cut first second f s j ws h = cond_both _ (first j ws) (second j ws) (λ (p : Proposed). length p.words ≡ length ws)
    (λ e. f j ws h) (λ e. s j ws h)
