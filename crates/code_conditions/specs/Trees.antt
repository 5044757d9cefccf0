-- The trees that methods get by commands that move code.
use Rattle.std.specs.Prelude.{ℕ, Bool, false, Option, option_and_then, option_map}
use Rattle.std.specs.Option.{option_map_or}
use Rattle.tree_model.specs.Tree.{MethodOf}
use Rattle.image_model.specs.Image.{EntryOf}
use Rattle.class_table.specs.Slots.{Slots}
use Rattle.class_table.specs.View.{number_image}
use Rattle.command_model.specs.Asked.{AskedOf}
use Rattle.command_model.specs.CodeEffects.{method_at, part_at, target_of, path_of_expression}
use Rattle.command_model.specs.CodeHolds.{are_low_extracted}
use Rattle.command_model.specs.Inlined.{tree_inlined}
use Rattle.command_model.specs.Parts.{Part}
use Rattle.command_model.specs.Places.{SendOf, sent_by}
use Rattle.command_model.specs.Temporaries.{let_of, temporary_extracted, temporary_inlined}
use Rattle.commands.specs.Views.{asked_by}
use Rattle.commands.specs.declared.command.MethodName.{MethodName}
use Rattle.commands.specs.declared.command.MethodPart.{MethodPart}

module _ (s : Slots) where
  -- what commands ask of the names
  abbrev pub asked : AskedOf ℕ
  asked = asked_by s.names

  -- the user's method, and the part of it
  abbrev pub users_part : MethodPart → Option (EntryOf ℕ × Part)
  users_part p = part_at asked (number_image s) p.method.class p.method.meta p.method.selector p.from p.to

  -- the tree in which the part, an expression, is a temporary
  abbrev pub with_temporary : MethodPart → ℕ → Option (MethodOf ℕ)
  with_temporary p x =
      option_and_then (λ e. option_and_then (λ path. temporary_extracted asked e.0.tree path x) (path_of_expression e.1)) (users_part p)

  -- the tree in which the part, a message, is the body of the method that it finds
  abbrev pub body_for : MethodPart → EntryOf ℕ → SendOf ℕ → Option (MethodOf ℕ)
  body_for p m e =
      option_and_then (λ (target : EntryOf ℕ). tree_inlined asked m.tree e target.tree)
      (target_of asked (number_image s) p.method.class p.method.meta e)

  -- the same, where the message is found from a class on a side
  abbrev pub inlined_at : ℕ → Bool → MethodOf ℕ → Part → Option (MethodOf ℕ)
  inlined_at c meta m part =
      option_and_then (λ (e : SendOf ℕ). option_and_then (λ (target : EntryOf ℕ). tree_inlined asked m e target.tree) (target_of asked (number_image s) c meta e)) (sent_by m part)

  abbrev pub with_body : MethodPart → Option (MethodOf ℕ)
  with_body p = option_and_then (λ e. option_and_then (body_for p e.0) (sent_by e.0.tree e.1)) (users_part p)

  -- the tree in which a temporary is what is assigned to it
  abbrev pub with_value : MethodName → ℕ → Option (MethodOf ℕ)
  with_value n x =
      option_and_then (λ (m : EntryOf ℕ). option_map (temporary_inlined asked m.tree x) (let_of asked m.tree x))
      (method_at asked (number_image s) n.class n.meta n.selector)

  -- whether a part is there, and the methods that it makes are low
  abbrev pub is_shallow_extracted : MethodPart → ℕ → Bool
  is_shallow_extracted p t = option_map_or (λ e. are_low_extracted asked (number_image s) t e.0 e.1) (users_part p) false
