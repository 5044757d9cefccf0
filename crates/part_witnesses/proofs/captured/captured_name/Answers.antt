use Rattle.std.proofs.Common.{◌≡◌, ℕ, List, ◌++◌, Some, None, ap, ◌∙◌}
use Rattle.std.specs.Prelude.{nat_eq}
use Rattle.std.specs.List.{flat_map}
use Rattle.std.proofs.lemmas.Result.{on_ok_weaker}
use Rattle.tree_model.specs.Tree.{trees_of}
use Rattle.scope_model.specs.FreeNames.{free_names}
use Rattle.scope_model.specs.NameTests.{is_pseudo_in}
use Rattle.st_tree.specs.View.{method_of}
use Rattle.command_model.specs.Inlined.{passed_for}
use Rattle.commands.specs.Views.{asked_by}
use Rattle.refusal_witnesses.specs.Witnesses.{WitnessOf}
use Rattle.witness_lists.specs.Views.{shown}
use Rattle.part_witnesses.specs.Sending.{captured_free}
use Rattle.part_witnesses.proofs.PassedNames.{name-passed, name-unpassed}
use Rattle.part_witnesses.proofs.captured.captured_name.Goals as goal

pub returns-in_ok-free-in-Some : goal.returns-in_ok-free-in-Some
returns-in_ok-free-in-Some c =
    let s = c.args.image.now in
    let it = c.args.sending.now in
    let path = c.args.path.now in
    let n = c.args.name in
    let old = shown s c.args.found.now.items in
    let t = c.in-Some.node.now in
    let free : c.as_slice.result.now ≡ free_names nat_eq (is_pseudo_in s.names) t =
    c.as_slice.ensures ∙ c.in_ok-free-in-Some.ensures ∙ ap (λ (ns : List (List ℕ)). free_names nat_eq (is_pseudo_in ns) t) c.names-names.ensures in
    let one : Some t ≡ passed_for (asked_by s.names) (method_of it.target.now.tree.now) (trees_of it.call.sent.arguments.now) path n =
    c.in-Some.ensures ∙ ap (λ (ns : List (List ℕ)). passed_for (asked_by ns) (method_of it.target.now.tree.now) (trees_of it.call.sent.arguments.now) path n) c.names-names.ensures in
    on_ok_weaker c.captured_free.result
    (λ e. e ∙ ap (λ (ns : List ℕ). old ++ flat_map (captured_free s it path) ns) free ∙ ap (λ (ws : List (WitnessOf ℕ)). old ++ ws) (name-passed s it path n t one))
    c.captured_free.ensures

pub returns-in-None : goal.returns-in-None
returns-in-None c =
    let s = c.args.image.now in
    let it = c.args.sending.now in
    let path = c.args.path.now in
    let n = c.args.name in
    let none : None ≡ passed_for (asked_by s.names) (method_of it.target.now.tree.now) (trees_of it.call.sent.arguments.now) path n =
    c.in-None.ensures ∙ ap (λ (ns : List (List ℕ)). passed_for (asked_by ns) (method_of it.target.now.tree.now) (trees_of it.call.sent.arguments.now) path n) c.names-names.ensures in
    on_ok_weaker c.other_name.result
    (λ e. e ∙ ap (λ (ws : List (WitnessOf ℕ)). shown s c.args.found.now.items ++ ws) (name-unpassed s it path n none))
    c.other_name.ensures
