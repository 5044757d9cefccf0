use Rattle.std.proofs.Common.{◌≡◌, ◌++◌, Bool, List, [], Some, Option, OnOk, option_copied, option_map, ap, sym, subst, ◌∙◌}
use Rattle.std.specs.Prelude.{ℕ, nat_eq}
use Rattle.std.specs.Option.{option_map_or}
use Rattle.image_model.specs.Image.{ClassOf}
use Rattle.image_model.specs.Chain.{class_named}
use Rattle.rename_model.specs.Conditions.{defines}
use Rattle.class_table.specs.View.{class_of, number_image}
use Rattle.refusal_witnesses.specs.Witnesses.{WitnessOf, a_class_of, where_true}
use Rattle.refusal_witnesses.specs.ClassWitnesses.{own_definer}
use Rattle.witness_lists.specs.Views.{shown}
use Rattle.class_witnesses.proofs.classes.own_definer.Goals as goal

pub returns-in-Some : goal.returns-in-Some
returns-in-Some c =
    let s = c.args.image.now in
    let named : class_named nat_eq (number_image s).classes c.args.class ≡ Some (class_of s.classes c.in-Some.rec.now) =
    sym c.class_of_name.ensures ∙ ap (λ o. option_map (class_of s.classes) (option_copied o)) c.in-Some.is in
    let e : where_true c.defines_any.result (a_class_of (class_of s.classes c.in-Some.rec.now)) ≡ own_definer nat_eq (number_image s) c.args.class c.args.variable =
    ap (λ (b : Bool). where_true b (a_class_of (class_of s.classes c.in-Some.rec.now))) c.defines_any.ensures
    ∙ sym (ap (λ (o : Option (ClassOf ℕ)). option_map_or (λ (x : ClassOf ℕ). where_true (defines nat_eq c.args.variable x) (a_class_of x)) o []) named) in
    subst (λ (ws : List (WitnessOf ℕ)). OnOk c.push_if.result (shown s c.push_if.new.found.items ≡ shown s c.args.found.now.items ++ ws)) e (c.push_if.ensures s)
