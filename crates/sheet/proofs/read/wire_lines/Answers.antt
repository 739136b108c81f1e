use Rattle.job.specs.Records.{jobs_of}
use Rattle.wiring.specs.Wiring.{wires_of}
use Rattle.spelling.specs.Texts.{cut}
use Rattle.fields.specs.Reading.{rest_of}
use Rattle.sheet.proofs.Lines.{wires_step}
use Rattle.sheet.proofs.read.wire_lines.Goals as goal

pub loop-line-preserved : goal.loop-line-preserved
loop-line-preserved c =
    wires_step (jobs_of c.args.jobs.now) (wires_of c.loop-line.wires) (wires_of c.take_wire.new.wires) (cut 10 (rest_of c.loop-line.reader)) (cut 10 (rest_of c.line.new.self)) c.in-Some.line.now _ c.take_wire.result _
    c.in-Some.ensures.next.0 c.in_ok-at.ensures c.take_wire.ensures c.loop-line.invariant
