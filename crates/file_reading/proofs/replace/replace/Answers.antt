use Rattle.rb_base.specs.Names.{name_at}
use Rattle.tree_model.specs.Tree.{map_sequence}
use Rattle.st_tree.specs.View.{sequence_of}
use Rattle.chunk_forms.specs.Told.{replacement_text}
use Rattle.file_reading.specs.Filed.{filed}
use Rattle.file_reading.proofs.Growing.{filed-grown, IsSoundSoFar-grown}
use Rattle.file_reading.proofs.Taking.{with_draft}
use Rattle.file_reading.proofs.TakenSources.{replacement_made, replacement_fault}
use Rattle.file_reading.proofs.replace.replace.Goals as goal

pub put_replacement-requires-clause-sound : goal.put_replacement-requires-clause-sound
put_replacement-requires-clause-sound c = IsSoundSoFar-grown c.args.reading c.parse_doit.new.names c.in-Ok.ensures.grows c.requires

pub returns-in-Ok : goal.returns-in-Ok
returns-in-Ok c =
    let names = c.parse_doit.new.names in
    replacement_made c.args.kernel (filed c.args.reading) (filed (with_draft names c.args.reading.draft)) (replacement_text c.args.replacement.now) (map_sequence (name_at names) (sequence_of c.in-Ok.body)) c.put_replacement.result
    (filed-grown c.args.reading names c.in-Ok.ensures.grows c.requires) c.in-Ok.ensures.tree c.put_replacement.ensures

pub returns-in-Err : goal.returns-in-Err
returns-in-Err c =
    replacement_fault c.args.kernel (filed c.args.reading) (replacement_text c.args.replacement.now) c.in-Err.fault c.stop_of.result
    c.stop_of.ensures.told c.stop_of.ensures.memory c.in-Err.ensures.fault
