use Rattle.std.proofs.Common.{◌≡◌, drop}
use Rattle.std.specs.List.{list_any}
use Rattle.scope_model.specs.NameTests.{form_in}
use Rattle.st_tree.specs.View.{method_of}
use Rattle.command_model.specs.InlineConditions.{makes_control}
use Rattle.let_questions.proofs.control.makes_any_control.Given as goal

abbrev pub invariant-loop-read : goal.invariant-loop-read
invariant-loop-read l =
    list_any (λ r. makes_control (form_in l.names) (method_of l.method) r l.node) (drop l.read-index l.reads)
    ≡ list_any (λ r. makes_control (form_in l.names) (method_of l.method) r l.node) l.reads
