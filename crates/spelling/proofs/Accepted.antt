-- A sheet is accepted exactly if it spells tables within the limits.
use Rattle.std.proofs.Common.{◌≡◌, ℕ, List, [], ◌∷◌, ◌++◌, Ok, sym, ap, ◌∙◌}
use Rattle.spelling.specs.Laws.{AcceptedExactlySpelled, SpelledOnce}
use Rattle.spelling.specs.Sheet.{Tables, read}
use Rattle.spelling.specs.Spelling.{job_lines, part, Within, Spelled}
use Rattle.spelling.specs.Texts.{cut}
use Rattle.spelling.proofs.Basics.{glue, glue_cut, glue_lines}
use Rattle.spelling.proofs.First.{Outcome, spelled, faulty, outcome, says, read_says}
use Rattle.spelling.proofs.Reached.{spelled_read}

read_back : (bytes : List ℕ) (t : Tables) → read bytes ≡ Ok t → Within t × Spelled bytes t
read_back [] t h = absurd cc
read_back (b ∷ bs) t h = go (outcome (cut 10 (b ∷ bs))) (sym (read_says (outcome (cut 10 (b ∷ bs)))) ∙ h)
  where
    go : (w : Outcome (cut 10 (b ∷ bs))) → says w ≡ Ok t → Within t × Spelled (b ∷ bs) t
    go (spelled cs c u o W e) r = let z : u ≡ t = cc in rw (← z)
        (W, record { order = cs; four = o; with_part = c; is = sym (glue_cut 10 (b ∷ bs)) ∙ (ap (glue 10) e ∙ glue_lines (job_lines cs u.jobs ++ part c u.wires)) })
    go (faulty a l q f s e k) r = absurd cc

spelled_back : (bytes : List ℕ) (t : Tables) → Within t → Spelled bytes t → read bytes ≡ Ok t
spelled_back bytes t W s = rw s.is (spelled_read s.order s.with_part t s.four W)

pub accepted_exactly_spelled : AcceptedExactlySpelled
accepted_exactly_spelled bytes t = (read_back bytes t, λ s. spelled_back bytes t s.0 s.1)

pub spelled_once : SpelledOnce
spelled_once bytes t u Wt St Wu Su = cc (spelled_back bytes t Wt St, spelled_back bytes u Wu Su)
