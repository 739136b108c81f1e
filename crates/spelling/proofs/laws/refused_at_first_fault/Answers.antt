use Rattle.spelling.proofs.First.{refused_without_bytes, refused_at_first_fault, faultless_before, same_whatever_follows}
use Rattle.spelling.proofs.laws.refused_at_first_fault.Goals as goal

pub returns : goal.returns
returns c = record { none = refused_without_bytes; first = refused_at_first_fault; before = faultless_before; follows = same_whatever_follows }
