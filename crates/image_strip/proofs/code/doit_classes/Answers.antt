use Rattle.std.proofs.Common.{◌≡◌, false, List, ℕ, [], option_map, find, ap, ◌∙◌}
use Rattle.std.specs.Prelude.{nat_eq}
use Rattle.std.specs.List.{flat_map}
use Rattle.scope_model.specs.NameTests.{is_pseudo_in}
use Rattle.scope_model.specs.FreeNames.{free_names_of_run}
use Rattle.st_tree.specs.View.{sequence_of, statements_of}
use Rattle.image_model.specs.Image.{ClassOf}
use Rattle.image_model.specs.Words.{number_words}
use Rattle.class_table.specs.View.{number_image}
use Rattle.strip_model.specs.Reach.{class_meant}
use Rattle.image_strip.specs.Code.{doit_at}
use Rattle.image_strip.proofs.Alls.{all-put}
use Rattle.image_strip.proofs.Meant.{are-meant}
use Rattle.image_strip.proofs.code.doit_classes.Goals as goal

pub returns : goal.returns
returns c =
    let s = c.args.image.now in
    let body = c.args.body.now in
    let one : ℕ → List ℕ = λ n. class_meant ((doit_at s body).0 [] n) in
    let items = c.as_slice-name-items.result.now in
    let are : items ≡ free_names_of_run nat_eq (is_pseudo_in s.names) (statements_of body.statements) =
    c.as_slice-name-items.ensures ∙ c.in_ok-free.ensures ∙ ap (λ (names : List (List ℕ)). free_names_of_run nat_eq (is_pseudo_in names) (statements_of body.statements)) c.names.ensures in
    are-meant s [] (sequence_of body) (option_map (λ (d : ClassOf ℕ). d.name) (find (λ (d : ClassOf ℕ). (number_words s.names).is_undefined_object d.name) (number_image s).classes)) false c.loop-name.classes
    (all-put one c.loop-name.classes items c.loop-name.name-index c.loop-name.invariant c.loop-name-test.false ∙ ap (flat_map one) are)
