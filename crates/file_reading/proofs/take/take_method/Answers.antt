use Rattle.std.proofs.Common.{refl, ap, option_map}
use Rattle.rb_base.specs.Names.{name_at}
use Rattle.tree_model.specs.Tree.{map_method}
use Rattle.st_tree.specs.View.{method_of}
use Rattle.grammar_model.specs.Whole.{Method}
use Rattle.file_model.specs.Changes.{map_run}
use Rattle.file_model.specs.Places.{places_behind}
use Rattle.file_reading.specs.Filed.{filed, places_so_far, run_in}
use Rattle.file_reading.proofs.Growing.{filed-grown, IsSoundSoFar-grown}
use Rattle.file_reading.proofs.Taking.{with_draft}
use Rattle.file_reading.proofs.TakenSources.{some_of, method_taken, fault_taken, method_fault}
use Rattle.file_reading.proofs.take.take_method.Goals as goal

pub put_method-requires-clause-sound : goal.put_method-requires-clause-sound
put_method-requires-clause-sound c = IsSoundSoFar-grown c.args.reading c.parse_method.new.names c.in-Ok.ensures.grows c.requires.sound

pub returns-in-Ok : goal.returns-in-Ok
returns-in-Ok c =
    let names = c.parse_method.new.names in
    let run = some_of (run_in c.args.reading.draft.value) c.requires.inside in
    method_taken c.args.kernel (filed c.args.reading) c.args.source.now c.requires.some (map_run (name_at names) run.0) (map_method (name_at names) (method_of c.in-Ok.tree)) (filed (with_draft names c.args.reading.draft)) (places_behind (name_at names run.0.class) run.0.meta (name_at names (method_of c.in-Ok.tree).selector) (places_so_far (with_draft names c.args.reading.draft))) c.put_method.result
    (ap (option_map (map_run (name_at names))) run.1) c.in-Ok.ensures.tree (filed-grown c.args.reading names c.in-Ok.ensures.grows c.requires.sound) refl (c.put_method.ensures run.0 run.1)

pub returns-in-Err : goal.returns-in-Err
returns-in-Err c =
    let run = some_of (run_in c.args.reading.draft.value) c.requires.inside in
    fault_taken c.args.kernel (filed c.args.reading) c.args.source.now c.requires.some (Method c.args.kernel) c.in-Err.fault c.stop_of.result
    (method_fault c.args.kernel (filed c.args.reading) c.args.source.now c.requires.some (map_run (name_at c.args.reading.names) run.0) (ap (option_map (map_run (name_at c.args.reading.names))) run.1))
    c.stop_of.ensures.told c.stop_of.ensures.memory c.in-Err.ensures.fault
