-- The trees of methods that commands change are those of the model.
use Rattle.std.proofs.Common.{◌≡◌, ℕ, List, Option, refl, ◌∙◌}
use Rattle.std.specs.Option.{option_and_then}
use Rattle.tree_model.specs.Tree.{MethodOf}
use Rattle.image_model.specs.Image.{EntryOf}
use Rattle.class_table.specs.Slots.{Slots}
use Rattle.class_table.specs.View.{number_image}
use Rattle.command_model.specs.CodeEffects.{method_at, path_of_expression, tree_inlining, tree_extracting, tree_without, tree_made}
use Rattle.command_model.specs.Parts.{Part}
use Rattle.command_model.specs.PartsOfText.{parts_of_text}
use Rattle.command_model.specs.Places.{SendOf, sent_by}
use Rattle.command_model.specs.Temporaries.{temporary_extracted}
use Rattle.commands.specs.declared.command.MethodName.{MethodName}
use Rattle.commands.specs.declared.command.MethodPart.{MethodPart}
use Rattle.code_conditions.specs.Trees.{asked, body_for, with_temporary, with_body, with_value}
use Rattle.code_conditions.proofs.Through.{through_part, through_found, through_both}

module _ (s : Slots) where
  -- the user's method of a name
  abbrev named : MethodName → Option (EntryOf ℕ)
  named n = method_at (asked s) (number_image s) n.class n.meta n.selector

  -- the part of a method
  abbrev part_in_source : MethodPart → EntryOf ℕ → Option Part
  part_in_source p m = parts_of_text m.source p.from p.to

  -- the tree in which the expression at the end of a path is a temporary
  abbrev extracted_at : ℕ → EntryOf ℕ → List ℕ → Option (MethodOf ℕ)
  extracted_at x m path = temporary_extracted (asked s) m.tree path x

  -- the three commands by which one method gets another tree
  pub temporary-extracted : (p : MethodPart) (x : ℕ) → with_temporary s p x ≡ tree_made (asked s) (number_image s) p.method.class p.method.meta p.method.selector (tree_extracting (asked s) (number_image s) p.from p.to x)
  temporary-extracted p x =
      through_part {X = EntryOf ℕ} {Y = Part} (part_in_source p) {Z = MethodOf ℕ} (λ (m : EntryOf ℕ) (part : Part). option_and_then {U = MethodOf ℕ} (extracted_at x m) (path_of_expression part)) (named p.method)
      ∙ (λ i. option_and_then {U = MethodOf ℕ} (λ (m : EntryOf ℕ). through_both {X = Part} {Y = List ℕ} {Z = MethodOf ℕ} path_of_expression (extracted_at x m) (part_in_source p m) i) (named p.method))

  pub message-inlined : (p : MethodPart)
      → with_body s p ≡ tree_made (asked s) (number_image s) p.method.class p.method.meta p.method.selector (tree_inlining (asked s) (number_image s) p.method.class p.method.meta p.method.selector p.from p.to)
  message-inlined p =
      through_found {X = EntryOf ℕ} {Y = Part} (part_in_source p) {W = SendOf ℕ} (λ (m : EntryOf ℕ) (part : Part). sent_by m.tree part) {Z = MethodOf ℕ} (body_for s p) (named p.method)

  pub temporary-inlined : (n : MethodName) (x : ℕ) → with_value s n x ≡ tree_made (asked s) (number_image s) n.class n.meta n.selector (tree_without (asked s) (number_image s) x)
  temporary-inlined n x = refl
