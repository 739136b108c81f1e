use Rattle.std.proofs.Common.{◌≡◌, ◌+◌, length, drop}
use Rattle.job.specs.Admitted.{no_record}
use Rattle.spelling.specs.Lines.{fields}
use Rattle.spelling.specs.Texts.{all_of, cut}
use Rattle.fields.specs.Order.{columns_of}
use Rattle.fields.specs.Reading.{pieces_of}
use Rattle.sheet.specs.Values.{values_of}
use Rattle.sheet.proofs.jobs.job_fields.Given as goal

abbrev pub invariant-loop-i : goal.invariant-loop-i
invariant-loop-i l =
    (length (pieces_of 32 l.reader) + l.i ≡ 4)
    × (fields (drop l.i l.column-items) (pieces_of 32 l.reader) (l.i + 1) (values_of l.values) ≡ fields (columns_of l.order) (all_of (cut 32 l.line)) 1 no_record)
