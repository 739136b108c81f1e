use Rattle.std.proofs.Common.{◌≡◌, length, take, Ok}
use Rattle.fixed.specs.Fixed.{list_of}
use Rattle.spelling.specs.Fields.{number}
use Rattle.spelling.specs.Texts.{all_of, cut, each}
use Rattle.fields.proofs.points.listed.Given as goal

abbrev pub invariant-loop-piece : goal.invariant-loop-piece
invariant-loop-piece l =
    (goal.iterator-loop-piece).can_next l.piece-iterator
    × (goal.iterator-loop-piece).is_finite l.piece-iterator
    × (length (list_of l.list) ≡ length l.yielded)
    × (each (number 255) (take (length l.yielded) (all_of (cut 44 l.text))) ≡ Ok (list_of l.list))
