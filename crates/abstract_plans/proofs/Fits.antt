-- The class of the variable, and the getter and the setter as methods of it.
use Rattle.std.proofs.Common.{◌≡◌, ℕ, ◌<◌, Bool, true, false, not, List, [], ◌∷◌, length, Option, None, Some, refl, sym, ap, subst, ◌∙◌, true≢false}
use Rattle.std.specs.Option.{option_map_or, option_and_then}
use Rattle.tree_model.specs.AllNames.{MethodNames}
use Rattle.tree_model.specs.Tree.{MethodOf}
use Rattle.st_tree.specs.View.{method_of}
use Rattle.st_tree.specs.declared.tree.Method.{Method}
use Rattle.image_model.specs.Image.{ClassOf}
use Rattle.class_table.specs.declared.record.MethodRec.{MethodRec}
use Rattle.class_table.specs.Slots.{Slots}
use Rattle.class_table.specs.Valid.{IsLive, IsOrderly}
use Rattle.class_table.specs.View.{class_at, number_image}
use Rattle.class_table.specs.Kept.{FitsMethod}
use Rattle.class_table.specs.Finding.{named_in}
use Rattle.class_table.proofs.Found.{class_named-named_in}
use Rattle.class_questions.proofs.ChainLaws.{named-slot}
use Rattle.command_model.specs.AllHold.{AllHold}
use Rattle.command_model.specs.Accessors.{getter, setter_of}
use Rattle.command_model.specs.Judged.{first_false}
use Rattle.command_model.proofs.Held.{all-hold}
use Rattle.command_numbers.specs.CommandNames.{CommandNames}
use Rattle.commands.specs.Views.{asked_by}
use Rattle.abstracted_code.specs.declared.abstraction.Abstraction.{Abstraction}
use Rattle.abstract_plans.specs.Abstracted.{abstraction_command, accessor_rec}

module _ (s : Slots) (a : Abstraction) where
  -- the class is found, since it is one of the user
  pub class-found : first_false (asked_by s.names) (number_image s) (abstraction_command a) ≡ None → named_in s.classes s.class_order a.class ≡ None → ⊥
  class-found none e =
      let held : AllHold (asked_by s.names) (number_image s) (abstraction_command a) = all-hold (asked_by s.names) (number_image s) (abstraction_command a) none in
      let no : false ≡ true = sym (ap (λ (q : Option (ClassOf ℕ)). option_map_or (λ (c : ClassOf ℕ). not c.kernel) q false) (class_named-named_in s a.class ∙ ap (option_and_then (class_at s)) e)) ∙ held.user_class in
      true≢false (sym no)

  -- the names of the getter and the setter have texts
  module _ (known : CommandNames (λ n. n < length s.names) (abstraction_command a)) where
    pub getter-known : (tree : Method) → method_of tree ≡ getter a.variable → MethodNames (λ n. n < length s.names) (method_of tree)
    getter-known tree e = subst (λ (t : MethodOf ℕ). MethodNames (λ n. n < length s.names) t) (sym e) (record { selector = known.1; arguments = tt; body = record { temporaries = tt; statements = (known.1, tt) } })

    pub setter-known : (tree : Method) → method_of tree ≡ setter_of a.variable a.setter a.parameter → MethodNames (λ n. n < length s.names) (method_of tree)
    setter-known tree e =
        subst (λ (t : MethodOf ℕ). MethodNames (λ n. n < length s.names) t) (sym e)
        (record { selector = known.2; arguments = (known.3, tt); body = record { temporaries = tt; statements = ((known.1, known.3), tt) } })

  -- they fit
  pub accessor-fits : (class : ℕ) (tree : Method) → named_in s.classes s.class_order a.class ≡ Some class → MethodNames (λ n. n < length s.names) (method_of tree) → FitsMethod s (accessor_rec s.names class tree)
  accessor-fits class tree found known = record { names_known = known; class_live = (named-slot s.classes s.class_order a.class class found).0 }
