use Rattle.std.proofs.Common.{◌≡◌, ℕ, Bool, drop}
use Rattle.std.specs.Prelude.{nat_eq}
use Rattle.std.specs.List.{list_any}
use Rattle.scope_model.specs.NameTests.{is_pseudo_in}
use Rattle.scope_model.specs.Scope.{local_in}
use Rattle.st_tree.specs.View.{method_of}
use Rattle.command_model.specs.Places.{is_of_block}
use Rattle.inline_questions.proofs.capture.is_any_of_block.Given as goal

abbrev pub invariant-loop-name : goal.invariant-loop-name
invariant-loop-name l =
    let test : ℕ → Bool = λ x. is_of_block (local_in nat_eq (is_pseudo_in l.names) (method_of l.method) l.path x) in
    list_any test (drop l.name-index l.found) ≡ list_any test l.found
