use Rattle.std.proofs.Common.{◌≡◌, ◌++◌, drop, None, option_map}
use Rattle.file_model.specs.Written.{methods_text}
use Rattle.image_file.specs.Runs.{run_text, user_entries}
use Rattle.image_file.proofs.method_texts.write_methods.Given as goal

abbrev pub invariant-loop-slot : goal.invariant-loop-slot
invariant-loop-slot l =
    l.out ++ methods_text (option_map run_text l.before) (user_entries l.image (drop l.slot-index l.slot-items))
    ≡ l.initial.out ++ methods_text None (user_entries l.image l.slot-items)
