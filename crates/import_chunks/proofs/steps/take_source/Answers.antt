use Rattle.std.proofs.Common.{ap}
use Rattle.rb_base.specs.Names.{name_at}
use Rattle.chunk_format.specs.Chunks.{piece}
use Rattle.import_model.specs.Steps.{Outside, InRun}
use Rattle.import_chunks.specs.Told.{next_text}
use Rattle.import_chunks.proofs.Taking.{comment_answered, now_answered}
use Rattle.import_chunks.proofs.steps.take_source.Goals as goal

pub returns-in-AtComment : goal.returns-in-AtComment
returns-in-AtComment c =
    comment_answered (piece c.args.chunk.now) (next_text c.args.names.now c.args.now) (name_at c.args.names.now c.in-AtComment.class) c.args.source.now c.in-AtComment.chunk c.args.names.now c.args.out.now c.take_comment.new.out c.take_comment.result
    (ap (next_text c.args.names.now) c.in-AtComment.is) c.take_comment.ensures

pub returns-in-InRun : goal.returns-in-InRun
returns-in-InRun c =
    now_answered (piece c.args.chunk.now) (next_text c.args.names.now c.args.now) InRun c.args.source.now c.args.names.now c.args.out.now c.take_in_run.new.out c.take_in_run.result
    (ap (next_text c.args.names.now) c.in-InRun.is) (c.take_in_run.ensures c.args.names.now)

pub returns-in-Outside : goal.returns-in-Outside
returns-in-Outside c =
    now_answered (piece c.args.chunk.now) (next_text c.args.names.now c.args.now) Outside c.args.source.now c.take_outside.new.names c.args.out.now c.take_outside.new.out c.take_outside.result
    (ap (next_text c.args.names.now) c.in-Outside.is) c.take_outside.ensures
