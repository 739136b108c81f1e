use Rattle.std.proofs.Common.{◌≡◌, ℕ, ◌+◌, ◌≤◌, not, List, length}
use Rattle.std.specs.List.{list_all}
use Rattle.spelling.specs.Texts.{all_of, cut, empty}
use Rattle.fields.specs.Reading.{pieces_of}
use Rattle.fields.proofs.shape.expect_fields.Given as goal

abbrev pub invariant-loop-field : goal.invariant-loop-field
invariant-loop-field l =
    (l.count ≤ l.wanted)
    × (l.count + length (pieces_of 32 l.reader) ≡ length (all_of (cut 32 l.line)))
    × (list_all (λ (t : List ℕ). not (empty t)) (pieces_of 32 l.reader) ≡ list_all (λ (t : List ℕ). not (empty t)) (all_of (cut 32 l.line)))

abbrev pub decreases-loop-field : goal.decreases-loop-field
decreases-loop-field l = length (pieces_of 32 l.reader)
