use Rattle.std.proofs.Common.{◌≡◌, List, ℕ, [], ap, ◌∙◌}
use Rattle.std.specs.Prelude.{nat_eq}
use Rattle.std.specs.List.{flat_map}
use Rattle.scope_model.specs.NameTests.{is_pseudo_in}
use Rattle.scope_model.specs.FreeNames.{free_names_of_run}
use Rattle.st_tree.specs.View.{sequence_of, statements_of}
use Rattle.class_table.specs.View.{class_name}
use Rattle.strip_model.specs.Reach.{class_meant}
use Rattle.image_strip.specs.Code.{method_at}
use Rattle.image_strip.proofs.Alls.{all-put}
use Rattle.image_strip.proofs.Meant.{are-meant}
use Rattle.image_strip.proofs.code.method_classes.Goals as goal

pub returns : goal.returns
returns c =
    let s = c.args.image.now in
    let tree = c.args.tree.now in
    let one : ℕ → List ℕ = λ n. class_meant ((method_at s c.args.class c.args.meta tree).0 [] n) in
    let items = c.as_slice-name-items.result.now in
    let are : items ≡ free_names_of_run nat_eq (is_pseudo_in s.names) (statements_of tree.body.statements) =
    c.as_slice-name-items.ensures ∙ c.in_ok-free.ensures ∙ ap (λ (names : List (List ℕ)). free_names_of_run nat_eq (is_pseudo_in names) (statements_of tree.body.statements)) c.names.ensures in
    are-meant s tree.arguments (sequence_of tree.body) (class_name s.classes c.args.class) c.args.meta c.loop-name.classes
    (all-put one c.loop-name.classes items c.loop-name.name-index c.loop-name.invariant c.loop-name-test.false ∙ ap (flat_map one) are)
