use Rattle.std.proofs.Common.{sym, arith}
use Rattle.std.proofs.lemmas.Bool.{eqb-true}
use Rattle.std.specs.Prelude.{length}
use Rattle.chunk_forms.proofs.Strings.{none_left}
use Rattle.file_reading.specs.Filed.{filed}
use Rattle.file_reading.proofs.TakenSources.{blank_taken}
use Rattle.file_reading.proofs.take.take_source.Goals as goal

pub returns-then-is_empty : goal.returns-then-is_empty
returns-then-is_empty c =
    blank_taken c.args.kernel (filed c.args.reading) c.args.source.now c.take_blank.result
    (none_left c.args.source.now (omega (arith, eqb-true (length c.args.source.now) 0 (sym c.if-is_empty.ensures)))) c.take_blank.ensures.sound c.take_blank.ensures.blank
