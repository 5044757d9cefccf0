use Rattle.std.proofs.Common.{◌≡◌, drop}
use Rattle.class_table.specs.View.{image_of}
use Rattle.run_model.specs.Values.{nil_value}
use Rattle.run_model.specs.Acts.{acts}
use Rattle.run_model.specs.Eval.{evaluates}
use Rattle.run_model.specs.Runs.{does_doits}
use Rattle.st_meaning.specs.StoreView.{store_of}
use Rattle.st_interp.proofs.state.Machine.run_doits.Given as goal

abbrev pub invariant-loop-number : goal.invariant-loop-number
invariant-loop-number l =
    does_doits acts (image_of l.program) (evaluates (image_of l.program)) l.value (drop l.number (image_of l.program).doits) (store_of l.program.names l.self.store)
    ≡ does_doits acts (image_of l.program) (evaluates (image_of l.program)) nil_value (image_of l.program).doits (store_of l.program.names l.initial.self.store)
