-- Commands that give the user's method another tree, or none.
use Rattle.std.proofs.Common.{◌≡◌, ℕ, List, [], Option, None, Some, option_map, refl, sym, ap, subst, ◌∙◌}
use Rattle.std.specs.Prelude.{nat_eq, unwrap_or}
use Rattle.std.specs.Option.{option_and_then}
use Rattle.tree_model.specs.Tree.{MethodOf}
use Rattle.tree_model.specs.Normal.{normal}
use Rattle.st_tree.specs.View.{method_of}
use Rattle.st_tree.specs.declared.tree.Method.{Method}
use Rattle.image_model.specs.Image.{EntryOf, ImageOf}
use Rattle.class_table.specs.declared.record.Place.{Place}
use Rattle.class_table.specs.Slots.{Slots}
use Rattle.class_table.specs.Valid.{IsOrderly}
use Rattle.class_table.specs.View.{number_image}
use Rattle.change_set.specs.declared.change.Change.{Change}
use Rattle.command_model.specs.Commands.{CommandOf}
use Rattle.command_model.specs.Effects.{effect}
use Rattle.command_model.specs.Numbers.{number_writing}
use Rattle.command_model.specs.Places.{users_method}
use Rattle.command_model.specs.Sequences.{with_tree}
use Rattle.commands.specs.Views.{asked_by}
use Rattle.commands.specs.declared.command.MethodName.{MethodName}
use Rattle.plans.specs.Plan.{IsPlan}
use Rattle.method_plans.proofs.Leads.{Leads, leads-nowhere, leads-plan}
use Rattle.temporary_plans.specs.Retold.{Retells}

module _ (s : Slots) (o : IsOrderly s) (method : MethodName) (command : CommandOf ℕ) (change : EntryOf ℕ → Option (MethodOf ℕ)) where
  -- the image with a tree
  abbrev told : MethodOf ℕ → ImageOf ℕ
  told t = with_tree nat_eq (number_writing s.names) method.class method.meta method.selector t (number_image s)

  -- the image, by the tree that there may be
  abbrev given : Option (MethodOf ℕ) → ImageOf ℕ
  given q = unwrap_or (option_map told q) (number_image s)

  module _ (is : effect (asked_by s.names) (number_writing s.names) command (number_image s) ≡ given (option_and_then change (users_method nat_eq (number_image s) method.class method.meta method.selector))) where
    -- there is none
    pub plan-nothing : (cs : List Change) (ps : List Place) → cs ≡ [] → ps ≡ [] → option_and_then change (users_method nat_eq (number_image s) method.class method.meta method.selector) ≡ None → IsPlan s command cs ps
    plan-nothing cs ps a b none =
        let leads : Leads s [] [] s = leads-nowhere s o in
        subst (λ (xs : List Change). IsPlan s command xs ps) (sym a)
        (subst (λ (xs : List Place). IsPlan s command [] xs) (sym b) (leads-plan s command [] [] s leads refl (sym (is ∙ ap given none))))

    -- there is one
    pub retells : (made : Method) (t : MethodOf ℕ) → option_and_then change (users_method nat_eq (number_image s) method.class method.meta method.selector) ≡ Some t → method_of made ≡ normal t → Retells s method made command
    retells made t some makes = record { anew = t; is_normal = makes; effect = is ∙ ap given some }
