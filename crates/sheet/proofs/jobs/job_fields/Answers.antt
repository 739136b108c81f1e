use Rattle.std.proofs.Common.{◌+◌, get_or, arith}
use Rattle.std.proofs.lemmas.Result.{err_from_is_err_and}
use Rattle.job.specs.Admitted.{no_record}
use Rattle.spelling.specs.declared.column.Column.TheVariants.{Proc}
use Rattle.spelling.specs.Lines.{fields}
use Rattle.spelling.specs.Texts.{all_of, cut}
use Rattle.fields.specs.Order.{columns_of}
use Rattle.fields.specs.Reading.{pieces_of, head_of}
use Rattle.sheet.specs.Values.{values_of}
use Rattle.sheet.proofs.Putting.{put_ok, put_err, placed_ok, placed_err, fields_step, fields_refused, fields_all}
use Rattle.sheet.proofs.jobs.job_fields.Goals as goal

pub returns-in_err-at : goal.returns-in_err-at
returns-in_err-at c =
    let p = err_from_is_err_and c.from_residual.result c.from_residual.ensures.1 in
    let q = placed_err (c.loop-i.i + 1) c.put.result c.in_err-at.field-0.0 c.in_err-at.ensures in
    let ts = pieces_of 32 c.loop-i.reader in
    let h = put_err (get_or c.columns-column-items.result.now c.loop-i.i Proc) (head_of ts) (values_of c.loop-i.values) (values_of c.put.new.self) c.put.result c.in_err-at.field-0.0.1 q.0 c.put.ensures.puts in
    rw (p.1, p.2, q.1)
    (fields_refused c.columns-column-items.result.now c.loop-i.i (values_of c.loop-i.values) (fields (columns_of c.args.order.now) (all_of (cut 32 c.args.line.now)) 1 no_record) ts c.in_err-at.field-0.0.1
    (omega arith) c.columns-column-items.ensures.four c.loop-i.invariant h)

pub loop-i-preserved : goal.loop-i-preserved
loop-i-preserved c =
    let q = placed_ok (c.loop-i.i + 1) c.put.result (tt {0}) c.in_ok-at.ensures in
    let ts = pieces_of 32 c.loop-i.reader in
    let h = put_ok (get_or c.columns-column-items.result.now c.loop-i.i Proc) (head_of ts) (values_of c.loop-i.values) (values_of c.put.new.self) c.put.result (tt {0}) q c.put.ensures.puts in
    fields_step c.columns-column-items.result.now c.loop-i.i (values_of c.loop-i.values) (fields (columns_of c.args.order.now) (all_of (cut 32 c.args.line.now)) 1 no_record) ts (pieces_of 32 c.put.new.reader) (values_of c.put.new.self)
    (omega arith) c.columns-column-items.ensures.four c.loop-i.invariant c.put.ensures.left h

pub returns : goal.returns
returns c =
    fields_all c.columns-column-items.result.now c.loop-i.i (values_of c.loop-i.values) (fields (columns_of c.args.order.now) (all_of (cut 32 c.args.line.now)) 1 no_record) (pieces_of 32 c.loop-i.reader) (omega arith) c.loop-i.invariant.1
