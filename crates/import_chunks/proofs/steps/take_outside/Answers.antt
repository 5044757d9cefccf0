use Rattle.std.proofs.Common.{sym, length, eqb-true}
use Rattle.chunk_format.specs.Chunks.{piece}
use Rattle.chunk_forms.proofs.Strings.{none_left}
use Rattle.import_chunks.proofs.Taking.{blank_outside}
use Rattle.import_chunks.proofs.steps.take_outside.Goals as goal

pub returns-then-is_empty : goal.returns-then-is_empty
returns-then-is_empty c =
    blank_outside (piece c.args.chunk.now) c.args.source.now c.args.names.now c.args.out.now c.keep.new.out c.keep.result (none_left c.args.source.now (eqb-true (length c.args.source.now) 0 (sym c.if-is_empty.ensures))) (c.keep.ensures c.args.names.now)
