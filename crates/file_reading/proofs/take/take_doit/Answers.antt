use Rattle.std.proofs.Common.{ap, option_map}
use Rattle.rb_base.specs.Names.{name_at}
use Rattle.grammar_model.specs.Whole.{DoIt}
use Rattle.file_model.specs.Changes.{map_run}
use Rattle.file_reading.specs.Filed.{filed}
use Rattle.file_reading.proofs.Growing.{filed-grown, IsSoundSoFar-grown}
use Rattle.file_reading.proofs.Taking.{with_draft}
use Rattle.file_reading.proofs.TakenSources.{taken_same, fault_taken, doit_fault}
use Rattle.file_reading.proofs.take.take_doit.Goals as goal

pub take_spelled-requires-clause-sound : goal.take_spelled-requires-clause-sound
take_spelled-requires-clause-sound c = IsSoundSoFar-grown c.args.reading c.parse_doit.new.names c.in-Ok.ensures.grows c.requires.sound

pub returns-in-Ok : goal.returns-in-Ok
returns-in-Ok c =
    let names = c.parse_doit.new.names in
    taken_same c.args.kernel (filed c.args.reading) (filed (with_draft names c.args.reading.draft)) c.args.source.now c.take_spelled.result
    (filed-grown c.args.reading names c.in-Ok.ensures.grows c.requires.sound) c.take_spelled.ensures

pub returns-in-Err : goal.returns-in-Err
returns-in-Err c =
    fault_taken c.args.kernel (filed c.args.reading) c.args.source.now c.requires.some DoIt c.in-Err.fault c.stop_of.result
    (doit_fault c.args.kernel (filed c.args.reading) c.args.source.now c.requires.some (ap (option_map (map_run (name_at c.args.reading.names))) c.requires.outside))
    c.stop_of.ensures.told c.stop_of.ensures.memory c.in-Err.ensures.fault
