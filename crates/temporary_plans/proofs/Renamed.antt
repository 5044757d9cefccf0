-- The command by which a temporary gets another name gives the user's method the tree in which it has that name.
use Rattle.std.proofs.Common.{◌≡◌, ℕ, ◌<◌, List, length, Option, Some, option_map, refl, sym, ap, subst, ◌∙◌}
use Rattle.std.specs.Prelude.{nat_eq, unwrap_or}
use Rattle.std.specs.Option.{option_and_then}
use Rattle.tree_model.specs.Tree.{MethodOf}
use Rattle.tree_model.specs.AllNames.{MethodNames}
use Rattle.tree_model.specs.Normal.{normal}
use Rattle.st_tree.specs.View.{method_of}
use Rattle.st_tree.specs.declared.tree.Method.{Method}
use Rattle.image_model.specs.Image.{EntryOf, ImageOf}
use Rattle.class_table.specs.Slots.{Slots}
use Rattle.class_table.specs.View.{number_image}
use Rattle.command_model.specs.Asked.{no_parts}
use Rattle.command_model.specs.Commands.{RenameTemp}
use Rattle.command_model.specs.Numbers.{number_asked, number_writing}
use Rattle.command_model.specs.Sequences.{with_tree}
use Rattle.command_model.specs.Temporaries.{temporary_renamed}
use Rattle.commands.specs.Views.{asked_by}
use Rattle.commands.specs.declared.command.MethodName.{MethodName}
use Rattle.temporary_plans.specs.Retold.{Retells}
use Rattle.temporary_plans.proofs.First.{IsUsers}

module _ (s : Slots) (method : MethodName) (x y : ℕ) (names : List (List ℕ)) (table : names ≡ s.names) (old made : Method) (users : IsUsers s method old) where
  -- the tree
  abbrev anew : MethodOf ℕ → MethodOf ℕ
  anew m = temporary_renamed (asked_by s.names) m x y

  -- the image with a tree, and what the command makes of it by the user's method
  abbrev told : MethodOf ℕ → ImageOf ℕ
  told t = with_tree nat_eq (number_writing s.names) method.class method.meta method.selector t (number_image s)

  abbrev given : Option (EntryOf ℕ) → ImageOf ℕ
  given q = unwrap_or (option_map told (option_and_then (λ (m : EntryOf ℕ). Some (anew m.tree)) q)) (number_image s)

  pub renames : method_of made ≡ normal (temporary_renamed (number_asked names 0 no_parts) (method_of old) x y) → Retells s method made (RenameTemp method.class method.meta method.selector x y)
  renames makes = record {
    anew = anew (method_of old);
    is_normal = makes ∙ ap (λ (ns : List (List ℕ)). normal (temporary_renamed (number_asked ns 0 no_parts) (method_of old) x y)) table;
    effect = ap given users.found ∙ ap (λ (m : MethodOf ℕ). told (anew m)) users.is;
  }

  -- its names are in the table
  pub renamed-known : y < length s.names → (y < length names → MethodNames (λ n. n < length names) (method_of old) → MethodNames (λ n. n < length names) (method_of made)) → MethodNames (λ n. n < length s.names) (method_of made)
  renamed-known new known = subst (λ (ns : List (List ℕ)). y < length ns → MethodNames (λ n. n < length ns) (method_of old) → MethodNames (λ n. n < length ns) (method_of made)) table known new users.known
