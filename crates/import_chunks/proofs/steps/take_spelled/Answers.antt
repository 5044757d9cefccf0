use Rattle.rb_base.specs.Names.{name_at}
use Rattle.tree_model.specs.Tree.{map_sequence}
use Rattle.st_tree.specs.View.{sequence_of}
use Rattle.chunk_format.specs.Chunks.{piece}
use Rattle.chunk_forms.specs.Told.{replacement_text}
use Rattle.import_model.specs.Steps.{Outside, kept, spelled}
use Rattle.import_chunks.proofs.Taking.{Answers-same}
use Rattle.import_chunks.proofs.Saying.{replaced}
use Rattle.import_chunks.proofs.steps.take_spelled.Goals as goal

pub returns-in-Some : goal.returns-in-Some
returns-in-Some c =
    let p = piece c.args.chunk.now in
    let b = map_sequence (name_at c.args.names.now) (sequence_of c.args.body.now) in
    Answers-same (kept p Outside) (spelled p b) (replaced p b (replacement_text c.in-Some.field-0) c.in-Some.ensures) c.args.names.now c.args.out.now c.keep.new.out c.keep.result (c.keep.ensures c.args.names.now)
