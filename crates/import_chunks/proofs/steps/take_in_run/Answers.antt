use Rattle.std.proofs.Common.{sym, length, eqb-true}
use Rattle.chunk_format.specs.Chunks.{piece}
use Rattle.chunk_forms.proofs.Strings.{none_left}
use Rattle.import_chunks.proofs.Taking.{run_ends, in_methods, not_none}
use Rattle.import_chunks.proofs.steps.take_in_run.Goals as goal

pub returns-then-is_empty : goal.returns-then-is_empty
returns-then-is_empty c =
    λ names. run_ends (piece c.args.chunk.now) c.args.source.now names c.args.out.now c.keep.new.out c.keep.result (none_left c.args.source.now (eqb-true (length c.args.source.now) 0 (sym c.if-is_empty.ensures))) (c.keep.ensures names)

pub returns-else-is_empty : goal.returns-else-is_empty
returns-else-is_empty c =
    λ names. in_methods (piece c.args.chunk.now) c.args.source.now names c.args.out.now c.keep-else-is_empty.new.out c.keep-else-is_empty.result (not_none c.args.source.now (sym c.if-is_empty.ensures)) (c.keep-else-is_empty.ensures names)
