-- The free names of a part.
use Rattle.std.proofs.Common.{◌≡◌, ℕ, List, [], Option, None, Some, option_map, refl}
use Rattle.std.specs.Prelude.{nat_eq, unwrap_or}
use Rattle.std.specs.Option.{option_map_or}
use Rattle.tree_model.specs.Tree.{TreeOf, MethodOf}
use Rattle.tree_model.specs.Path.{part_in}
use Rattle.scope_model.specs.FreeNames.{free_names}
use Rattle.scope_model.specs.NameTests.{is_pseudo_in}
use Rattle.st_scope.specs.Parts.{free_names_of_part}
use Rattle.st_tree.specs.declared.path.Part.{Part}
use Rattle.st_tree.specs.declared.path.Part.TheVariants as part
use Rattle.command_model.specs.Asked.{no_parts}
use Rattle.command_model.specs.Numbers.{number_asked}
use Rattle.command_model.specs.Extracted.{names_in}
use Rattle.part_questions.specs.Parts.{part_of}

pub names_found : (names : List (List ℕ)) (m : MethodOf ℕ) (p : Part) → free_names_of_part nat_eq (is_pseudo_in names) m.body p ≡ names_in (number_asked names 0 no_parts) m (part_of p)
names_found names m (part.Expression path) = by (part_in m.body path)
  where
    by : (o : Option (TreeOf ℕ)) → unwrap_or (option_map (free_names nat_eq (is_pseudo_in names)) o) [] ≡ option_map_or (free_names nat_eq (is_pseudo_in names)) o []
    by None = refl
    by (Some t) = refl
names_found names m (part.Run path first count) = refl
