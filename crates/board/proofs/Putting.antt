-- Words put at a list of points: where they stand then, and what stays.
use Rattle.std.proofs.Common.{◌≡◌, ℕ, false, List, [], ◌∷◌, length, get_or, set, refl, ◌∙◌, arith, length-set}
use Rattle.std.proofs.lemmas.Bool.Decides.{nat_tests}
use Rattle.std.proofs.lemmas.Grind.{common_steps}
use Rattle.fixed.specs.Lists.{has}
use Rattle.board.specs.Points.{put_at}
use Rattle.board.specs.Laws.{ReadAsPut, OthersKept}

size_kept : (ws ps vs : List ℕ) → length (put_at ws ps vs) ≡ length ws
size_kept ws [] vs = refl
size_kept ws (p ∷ ps) [] = refl
size_kept ws (p ∷ ps) (v ∷ vs) = size_kept (set ws p v) ps vs ∙ length-set ws p v

other_kept : (ws ps vs : List ℕ) (q : ℕ) → has ps q ≡ false → get_or (put_at ws ps vs) q 0 ≡ get_or ws q 0
other_kept ws [] vs q h = refl
other_kept ws (p ∷ ps) [] q h = refl
other_kept ws (p ∷ ps) (v ∷ vs) q h = grind (arith, nat_tests, common_steps, other_kept (set ws p v) ps vs q)

pub others_kept : OthersKept
others_kept ws ps vs = (size_kept ws ps vs, other_kept ws ps vs)

pub read_as_put : ReadAsPut
read_as_put ws [] [] on once even = refl
read_as_put ws [] (v ∷ vs) on once even = absurd (omega arith)
read_as_put ws (p ∷ ps) [] on once even = absurd (omega arith)
read_as_put ws (p ∷ ps) (v ∷ vs) on once even = grind (arith, nat_tests, common_steps, read_as_put (set ws p v) ps vs, other_kept (set ws p v) ps vs p)
