use Rattle.std.proofs.lemmas.Result.{err_from_is_err_and}
use Rattle.spelling.specs.Texts.{all_of, cut}
use Rattle.fields.specs.Reading.{pieces_of}
use Rattle.fields.proofs.Steps.{fresh_pieces}
use Rattle.sheet.proofs.Putting.{third_refused, third_read}
use Rattle.sheet.proofs.wires.three_fields.Goals as goal

pub returns-in_err-delay : goal.returns-in_err-delay
returns-in_err-delay c =
    let p = err_from_is_err_and c.from_residual-in_err-delay.result c.from_residual-in_err-delay.ensures.1 in
    rw (p.1, p.2)
    (third_refused (all_of (cut 32 c.args.line.now)) (pieces_of 32 c.new-reader.result) (pieces_of 32 c.byte.new.self) (pieces_of 32 c.byte-2.new.self) c.byte.result c.byte-2.result c.number.result c.in_ok-from.from c.in_ok-to.to
    c.requires (fresh_pieces 32 c.new-reader.result c.args.line.now c.new-reader.ensures.rest c.new-reader.ensures.ready) c.byte.ensures.reads c.byte.ensures.past.0 c.byte-2.ensures.reads c.byte-2.ensures.past.0 c.number.ensures.reads
    c.in_ok-from.ensures c.in_ok-to.ensures c.in_err-delay.field-0.0 c.in_err-delay.ensures)

pub returns : goal.returns
returns c =
    third_read (all_of (cut 32 c.args.line.now)) (pieces_of 32 c.new-reader.result) (pieces_of 32 c.byte.new.self) (pieces_of 32 c.byte-2.new.self) c.byte.result c.byte-2.result c.number.result c.in_ok-from.from c.in_ok-to.to
    c.requires (fresh_pieces 32 c.new-reader.result c.args.line.now c.new-reader.ensures.rest c.new-reader.ensures.ready) c.byte.ensures.reads c.byte.ensures.past.0 c.byte-2.ensures.reads c.byte-2.ensures.past.0 c.number.ensures.reads
    c.in_ok-from.ensures c.in_ok-to.ensures c.in_ok-delay.delay c.in_ok-delay.ensures
