use Rattle.std.proofs.Common.{refl}
use Rattle.std.proofs.lemmas.Result.{err_from_is_err_and}
use Rattle.fields.specs.Reading.{pieces_of, head_of}
use Rattle.sheet.specs.Values.{values_of}
use Rattle.sheet.proofs.Putting.{put_refused}
use Rattle.sheet.proofs.values.Values.put.Goals as goal

pub returns-in_err-letter : goal.returns-in_err-letter
returns-in_err-letter c =
    let p = err_from_is_err_and c.from_residual.result c.from_residual.ensures.1 in
    let f = c.in_err-letter.ensures in
    record {
      puts = rw (p.1, p.2) (put_refused c.args.column (head_of (pieces_of 32 c.args.reader.now)) c.args.reader.now.place (values_of c.args.self.now) c.in_err-letter.field-0.0 f.reads, refl);
      left = f.past.0;
    }
