use Rattle.std.proofs.Common.{◌≡◌, length}
use Rattle.job.specs.Records.{jobs_of}
use Rattle.spelling.specs.Sheet.{jobs_from}
use Rattle.spelling.specs.Texts.{cut}
use Rattle.fields.specs.Order.{columns_of}
use Rattle.fields.specs.Reading.{rest_of}
use Rattle.sheet.proofs.read.job_lines.Given as goal

abbrev pub invariant-loop-line : goal.invariant-loop-line
invariant-loop-line l = jobs_from (columns_of l.order) (jobs_of l.jobs) (cut 10 (rest_of l.reader)) ≡ jobs_from (columns_of l.order) (jobs_of l.initial.jobs) (cut 10 (rest_of l.initial.reader))

abbrev pub decreases-loop-line : goal.decreases-loop-line
decreases-loop-line l = length (rest_of l.reader)
