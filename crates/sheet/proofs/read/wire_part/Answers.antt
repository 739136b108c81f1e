use Rattle.std.proofs.Common.{sym}
use Rattle.std.proofs.lemmas.Bool.{not-true}
use Rattle.job.specs.Records.{jobs_of}
use Rattle.fields.specs.Reading.{rest_of}
use Rattle.sheet.proofs.Lines.{part_refused}
use Rattle.sheet.proofs.read.wire_part.Goals as goal

pub returns-then-ne : goal.returns-then-ne
returns-then-ne c =
    part_refused (jobs_of c.args.jobs.now) (rest_of c.args.reader.now) (rest_of c.line.new.self) c.line.result c.as_slice.result _
    c.line.ensures.next c.as_slice.ensures (not-true _ (sym c.if-ne.ensures)) c.len.ensures.value
