-- The command by which what is assigned to a temporary comes in its place.
use Rattle.std.proofs.Common.{◌≡◌, ℕ, ◌<◌, List, [], length, Option, None, Some, option_map, refl, sym, ap, subst, ◌∙◌}
use Rattle.std.specs.Prelude.{nat_eq}
use Rattle.std.specs.Option.{option_and_then}
use Rattle.tree_model.specs.Tree.{MethodOf}
use Rattle.tree_model.specs.AllNames.{MethodNames}
use Rattle.tree_model.specs.Normal.{normal}
use Rattle.st_tree.specs.View.{method_of}
use Rattle.st_tree.specs.declared.tree.Method.{Method}
use Rattle.image_model.specs.Image.{EntryOf}
use Rattle.class_table.specs.declared.record.Place.{Place}
use Rattle.class_table.specs.Slots.{Slots}
use Rattle.class_table.specs.Valid.{IsOrderly}
use Rattle.class_table.specs.View.{number_image}
use Rattle.change_set.specs.declared.change.Change.{Change}
use Rattle.command_model.specs.Asked.{no_parts}
use Rattle.command_model.specs.Commands.{CommandOf, InlineTemp}
use Rattle.command_model.specs.Numbers.{number_asked}
use Rattle.command_model.specs.Places.{users_method}
use Rattle.command_model.specs.Temporaries.{LetOf, let_of, temporary_inlined}
use Rattle.commands.specs.Views.{asked_by}
use Rattle.commands.specs.declared.command.MethodName.{MethodName}
use Rattle.plans.specs.Plan.{IsPlan}
use Rattle.temporary_plans.specs.Retold.{Retells}
use Rattle.users_methods.proofs.UsersKnown.{users-known}
use Rattle.code_plans.proofs.Users.{with-tree, no-tree}
use Rattle.code_plans.proofs.Given.{plan-nothing, retells}

module _ (s : Slots) (o : IsOrderly s) (method : MethodName) (x : ℕ) where
  abbrev command : CommandOf ℕ
  command = InlineTemp method.class method.meta method.selector x

  -- the user's method, and the tree that the command gives it
  abbrev own : Option (EntryOf ℕ)
  own = users_method nat_eq (number_image s) method.class method.meta method.selector

  abbrev by_tree : MethodOf ℕ → Option (MethodOf ℕ)
  by_tree t = option_map (temporary_inlined (asked_by s.names) t x) (let_of (asked_by s.names) t x)

  abbrev change : EntryOf ℕ → Option (MethodOf ℕ)
  change m = by_tree m.tree

  -- the user has none
  pub inlined-nobody : (cs : List Change) (ps : List Place) → cs ≡ [] → ps ≡ [] → None ≡ option_map (λ (m : EntryOf ℕ). m.tree) own → IsPlan s command cs ps
  inlined-nobody cs ps a b e = plan-nothing s o method command change refl cs ps a b (ap (option_and_then change) (no-tree own e))

  module _ (t : MethodOf ℕ) (there : Some t ≡ option_map (λ (m : EntryOf ℕ). m.tree) own) where
    pub own-known : MethodNames (λ n. n < length s.names) t
    own-known =
        let m = with-tree own t there in
        subst (λ (n : MethodOf ℕ). MethodNames (λ k. k < length s.names) n) m.2 (users-known s o method.class method.meta method.selector m.0 m.1)

    by-own : option_and_then change own ≡ by_tree t
    by-own = let m = with-tree own t there in ap (option_and_then change) m.1 ∙ ap by_tree m.2

    module _ (names : List (List ℕ)) (table : names ≡ s.names) where
      -- there is no such assignment
      pub inlined-nowhere : (cs : List Change) (ps : List Place) → cs ≡ [] → ps ≡ [] → None ≡ let_of (number_asked names 0 no_parts) t x → IsPlan s command cs ps
      inlined-nowhere cs ps a b e =
          plan-nothing s o method command change refl cs ps a b
          (by-own ∙ ap (option_map (temporary_inlined (asked_by s.names) t x)) (sym (e ∙ ap (λ (ns : List (List ℕ)). let_of (number_asked ns 0 no_parts) t x) table)))

      -- there is one
      pub inlined-told : (f : LetOf ℕ) (made : Method) → Some f ≡ let_of (number_asked names 0 no_parts) t x → method_of made ≡ normal (temporary_inlined (number_asked names 0 no_parts) t x f) → Retells s method made command
      inlined-told f made e is =
          retells s o method command change refl made (temporary_inlined (asked_by s.names) t x f)
          (by-own ∙ ap (option_map (temporary_inlined (asked_by s.names) t x)) (sym (e ∙ ap (λ (ns : List (List ℕ)). let_of (number_asked ns 0 no_parts) t x) table)))
          (is ∙ ap (λ (ns : List (List ℕ)). normal (temporary_inlined (number_asked ns 0 no_parts) t x f)) table)
