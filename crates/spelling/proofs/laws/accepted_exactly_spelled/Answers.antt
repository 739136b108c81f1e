use Rattle.spelling.proofs.Accepted.{accepted_exactly_spelled, spelled_once}
use Rattle.spelling.proofs.laws.accepted_exactly_spelled.Goals as goal

pub returns : goal.returns
returns c = record { accepted = accepted_exactly_spelled; once = spelled_once }
