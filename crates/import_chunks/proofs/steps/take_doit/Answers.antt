use Rattle.rb_base.specs.Names.{name_at}
use Rattle.tree_model.specs.Tree.{map_sequence}
use Rattle.st_tree.specs.View.{sequence_of}
use Rattle.chunk_format.specs.Chunks.{piece}
use Rattle.import_chunks.proofs.Taking.{doit_answered, fault_answered}
use Rattle.import_chunks.proofs.steps.take_doit.Goals as goal

pub returns-in-Ok : goal.returns-in-Ok
returns-in-Ok c =
    let names = c.parse_doit.new.names in
    doit_answered (piece c.args.chunk.now) c.args.source.now (map_sequence (name_at names) (sequence_of c.in-Ok.body)) names c.args.out.now c.take_spelled.new.out c.take_spelled.result c.requires c.in-Ok.ensures.tree c.take_spelled.ensures

pub returns-in-Err : goal.returns-in-Err
returns-in-Err c =
    fault_answered (piece c.args.chunk.now) c.args.source.now c.in-Err.fault c.stop_of.result c.parse_doit.new.names c.args.out.now c.args.out.now c.requires c.stop_of.ensures.told c.stop_of.ensures.memory c.in-Err.ensures.fault
