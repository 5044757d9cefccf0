use Rattle.std.proofs.Common.{◌≡◌, ℕ, Bool, false, not, List, Option, Some, slice_get, sym, ap, ◌∙◌}
use Rattle.std.specs.Prelude.{nat_eq}
use Rattle.std.specs.List.{list_any}
use Rattle.std.specs.Option.{option_map_or}
use Rattle.std.proofs.lemmas.Option.{slice_get-get_or}
use Rattle.tree_model.specs.Nodes.{Placed}
use Rattle.scope_model.specs.Control.{is_empty}
use Rattle.scope_model.specs.NameTests.{is_pseudo_in}
use Rattle.scope_model.specs.Scope.{local_in}
use Rattle.st_tree.specs.View.{method_of}
use Rattle.command_model.specs.Places.{is_formal}
use Rattle.command_model.specs.ParameterConditions.{formal_reads}
use Rattle.commands.specs.Views.{asked_by}
use Rattle.placed_nodes.specs.declared.placed.PlacedNode.{PlacedNode}
use Rattle.placed_nodes.specs.Placing.{placed}
use Rattle.parameter_questions.proofs.Reading.{formal-read}
use Rattle.parameter_questions.proofs.faults.reads_argument.Goals as goal

pub returns : goal.returns
returns c =
    let names = c.args.names.now in
    let m = method_of c.args.tree.now in
    let k = c.args.number in
    let x = c.in-Some.name.now in
    let test : Placed ℕ → Bool = λ e. is_formal (local_in nat_eq (is_pseudo_in names) m e.0 x) in
    let xs = c.as_slice.result.now in
    let there : slice_get m.arguments k ≡ Some x =
    ap (λ (ys : List ℕ). slice_get ys k) (sym c.as_slice.ensures) ∙ slice_get-get_or xs k x c.in-Some.ensures.lookup.3.0 ∙ ap Some (sym c.in-Some.ensures.lookup.1) in
    c.is_any_formal.ensures
    ∙ ap (λ (fs : List PlacedNode). list_any test (placed fs)) c.as_slice-2.ensures.value
    ∙ ap (list_any test) c.in_ok-found.ensures
    ∙ formal-read names m x
    ∙ ap (λ (o : Option ℕ). not (option_map_or (λ y. is_empty (formal_reads (asked_by names) m y)) o false)) (sym there)
