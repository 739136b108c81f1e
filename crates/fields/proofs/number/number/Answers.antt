use Rattle.std.proofs.Common.{rules}
use Rattle.fields.proofs.Numbers.{written_exactly}
use Rattle.fields.proofs.number.number.Goals as goal

pub returns : goal.returns
returns c = record { value = c.parse.ensures; written = written_exactly c.args.top c.args.text.now c.parse.result (search rules) c.parse.ensures }
