use Rattle.std.proofs.Common.{◌≡◌, ◌++◌, ◌||◌, Bool, false, not, List, [], Some, Option, option_copied, option_map, option_and_then, unwrap_or, ap, sym, ◌∙◌}
use Rattle.std.specs.Prelude.{ℕ, nat_eq}
use Rattle.std.specs.Option.{option_map_or}
use Rattle.image_model.specs.Image.{ClassOf}
use Rattle.image_model.specs.Chain.{class_named}
use Rattle.command_model.specs.Hierarchy.{is_child}
use Rattle.class_table.specs.View.{class_of, number_image}
use Rattle.refusal_witnesses.specs.Witnesses.{WitnessOf, AClass, where_true}
use Rattle.refusal_witnesses.specs.ClassWitnesses.{other_parent}
use Rattle.witness_lists.specs.Views.{shown}
use Rattle.class_witnesses.proofs.classes.other_parent.Goals as goal

pub returns-in_ok-push_if-in-Some-superclass_of : goal.returns-in_ok-push_if-in-Some-superclass_of
returns-in_ok-push_if-in-Some-superclass_of c =
    let s = c.args.image.now in
    let rec = c.in-Some.rec.now in
    let parent = c.in-Some-superclass_of.parent in
    let named : class_named nat_eq (number_image s).classes c.args.class ≡ Some (class_of s.classes rec) =
    sym c.class_of_name.ensures ∙ ap (λ o. option_map (class_of s.classes) (option_copied o)) c.in-Some.is in
    let above : (class_of s.classes rec).superclass ≡ Some parent =
    sym (ap (option_and_then (λ (x : ClassOf ℕ). x.superclass)) named) ∙ sym c.superclass_of.ensures ∙ c.in-Some-superclass_of.is in
    let e : where_true c.is_kept_from-is_other.result (AClass parent) ≡ other_parent nat_eq (number_image s) c.args.class c.args.superclass =
    ap (λ (b : Bool). where_true b (AClass parent)) c.is_kept_from-is_other.ensures
    ∙ sym (ap (λ (o : Option (ClassOf ℕ)). option_map_or (λ (x : ClassOf ℕ). where_true (x.kernel || not (is_child nat_eq c.args.superclass x)) (AClass (unwrap_or x.superclass x.name))) o []) named
    ∙ ap (λ (o : Option ℕ). where_true (rec.kernel || not (option_map_or (nat_eq c.args.superclass) o false)) (AClass (unwrap_or o rec.name))) above) in
    c.in_ok-push_if-in-Some-superclass_of.ensures s ∙ ap (λ (ws : List (WitnessOf ℕ)). shown s c.args.found.now.items ++ ws) e
