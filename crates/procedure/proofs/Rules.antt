-- What the rule of letter T does to words, and what that of letter S hands in.
use Rattle.std.proofs.Common.{◌≡◌, ℕ, zero, suc, ◌≤◌, eqb, List, [], ◌∷◌, map, length, get_or, set, filter, refl, ◌∙◌, arith}
use Rattle.std.proofs.lemmas.List.{length-map}
use Rattle.std.proofs.lemmas.List.Sums.{length-filter}
use Rattle.std.proofs.lemmas.Bool.{cond_both}
use Rattle.std.specs.List.{AllByRecursion}
use Rattle.wiring.specs.Wires.{leaving}
use Rattle.wiring.specs.declared.wire.Wire.{Wire}
use Rattle.procedure.specs.Laws.{LeadsFrom, SpreadSendsOn}
use Rattle.procedure.specs.Proposals.{Proposed, unchanged}
use Rattle.procedure.specs.Spread.{along, sent_on, carried, writes}
use Rattle.procedure.specs.Tally.{tallied}

pub raised : (a : ℕ) (ws : List ℕ) → AllByRecursion (λ w. w ≤ 4294967295) ws → (k : ℕ) → get_or ws k 0 ≤ get_or (tallied a ws) k 0
raised a [] h k = omega arith
raised a (w ∷ ws) (h, hs) zero = omega arith
raised a (w ∷ ws) (h, hs) (suc k) = raised a ws hs k

pub capped : (a : ℕ) (ws : List ℕ) → AllByRecursion (λ w. w ≤ 4294967295) (tallied a ws)
capped a [] = tt
capped a (w ∷ ws) = (omega arith, capped a ws)

all_along : (b u : ℕ) (ws : List Wire) → AllByRecursion (LeadsFrom b u) (map (along b u) ws)
all_along b u [] = tt
all_along b u (w ∷ ws) = (record { letter = refl; urgent = refl; end = w.to; points = refl }, all_along b u ws)

pub spread_sends_on : SpreadSendsOn
spread_sends_on wires j ws =
    let b = get_or j.points 1 0 in
    let test = λ (w : Wire). eqb w.from b in
    cond_both (writes j ws) (record { words = set ws 1 (carried j ws); followups = sent_on b j.urgency wires }) (unchanged ws)
    (λ (p : Proposed). (p.words ≡ ws → ⊥) → (length p.followups ≡ leaving b wires) × AllByRecursion (LeadsFrom b j.urgency) p.followups)
    (λ e n. (length-map (filter test wires) (along b j.urgency) ∙ length-filter test wires, all_along b j.urgency (filter test wires)))
    (λ e n. absurd (n refl))
