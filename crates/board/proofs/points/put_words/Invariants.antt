use Rattle.std.proofs.Common.{◌≡◌, true, length}
use Rattle.std.specs.Iterator.Adapters.{zip_first, zip_second}
use Rattle.std.specs.Slice.Iter.{iter_rest}
use Rattle.board.specs.Points.{on_board, put_at}
use Rattle.board.proofs.points.put_words.Given as goal

abbrev pub invariant-loop-point : goal.invariant-loop-point
invariant-loop-point g l =
    let ws = g.B.Board.words l.board in
    let ps = iter_rest (zip_first l.point-iterator) in
    let vs = iter_rest (zip_second l.point-iterator) in
    (length vs ≡ length ps) × (on_board (length ws) ps ≡ true) × (put_at ws ps vs ≡ put_at (g.B.Board.words l.initial.board) l.points l.new)
