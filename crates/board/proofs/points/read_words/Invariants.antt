use Rattle.std.proofs.Common.{◌≡◌, length, take, drop}
use Rattle.fixed.specs.Fixed.{list_of}
use Rattle.board.specs.Points.{on_board, words_at}
use Rattle.board.proofs.points.read_words.Given as goal

abbrev pub invariant-loop-point : goal.invariant-loop-point
invariant-loop-point g l =
    let ws = g.B.Board.words l.board in
    (list_of l.words ≡ words_at ws (take l.point-index l.points)) × (on_board (length ws) l.points ≡ on_board (length ws) (drop l.point-index l.points))
