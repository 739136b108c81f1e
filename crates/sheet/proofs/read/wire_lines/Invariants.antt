use Rattle.std.proofs.Common.{◌≡◌, length}
use Rattle.job.specs.Records.{jobs_of}
use Rattle.wiring.specs.Wiring.{wires_of}
use Rattle.spelling.specs.Sheet.{wires_from}
use Rattle.spelling.specs.Texts.{cut}
use Rattle.fields.specs.Reading.{rest_of}
use Rattle.sheet.proofs.read.wire_lines.Given as goal

abbrev pub invariant-loop-line : goal.invariant-loop-line
invariant-loop-line l =
    wires_from (jobs_of l.jobs) (wires_of l.wires) (cut 10 (rest_of l.reader)) ≡ wires_from (jobs_of l.jobs) (wires_of l.initial.wires) (cut 10 (rest_of l.initial.reader))

abbrev pub decreases-loop-line : goal.decreases-loop-line
decreases-loop-line l = length (rest_of l.reader)
