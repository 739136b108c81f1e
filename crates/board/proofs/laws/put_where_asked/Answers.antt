use Rattle.board.proofs.Putting.{read_as_put, others_kept}
use Rattle.board.proofs.laws.put_where_asked.Goals as goal

pub returns : goal.returns
returns c = record { read = read_as_put; others = others_kept }
