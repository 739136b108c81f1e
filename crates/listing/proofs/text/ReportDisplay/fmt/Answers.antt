use Rattle.std.proofs.Common.{◌+◌, ◌++◌, None, get_or, refl, arith, rules}
use Rattle.std.proofs.Output.{has_written_append}
use Rattle.listing.specs.Texts.{row_text}
use Rattle.listing.proofs.Rows.{text_more}
use Rattle.listing.proofs.text.ReportDisplay.fmt.Goals as goal

pub loop-i-preserved : goal.loop-i-preserved
loop-i-preserved g c = λ plain.
    let rows = c.as_slice-clash-items.result.now in
    let i = c.loop-i.i in
    let line = row_text (i + 1) (get_or rows i None) in
    let (done, written, whole) = c.loop-i.invariant plain in
    (done ++ line, has_written_append _ _ _ _ _ _ written (search rules), text_more rows i done (done ++ line) line _ (omega arith) refl refl whole)
