use Rattle.spelling.proofs.Values.{number_exactly_written}
use Rattle.spelling.proofs.laws.number_exactly_written.Goals as goal

pub returns : goal.returns
returns c = number_exactly_written
