-- Messages in methods with the methods that they find.
use Rattle.std.specs.Prelude.{◌≡◌, ℕ, List, [], not, ◌||◌, nat_eq, if◌then◌else◌}
use Rattle.image_model.specs.Image.{EntryOf}
use Rattle.image_model.specs.Means.{MeaningOf, means}
use Rattle.image_model.specs.Words.{number_words}
use Rattle.scope_model.specs.NameTests.{is_pseudo_in}
use Rattle.scope_model.specs.Scope.{local_in}
use Rattle.class_table.specs.Slots.{Slots}
use Rattle.class_table.specs.View.{number_image}
use Rattle.command_model.specs.Hierarchy.{is_method_of}
use Rattle.command_model.specs.Places.{is_of_block}
use Rattle.command_model.specs.SameMethods.{is_super_node, same_meaning}
use Rattle.commands.specs.Views.{asked_by}
use Rattle.refusal_witnesses.specs.Witnesses.{InMethod, WitnessOf, TwoMeanings, nodes_that, where_true}
use Rattle.part_witnesses.specs.declared.sending.Sending.{Sending}
use Rattle.part_witnesses.specs.Held.{IsHeld, code_in, held_as}

-- the slots of both methods hold them, and the message is of these
pub record IsSending (s : Slots) (it : Sending) : Type 0 where
  pub method : IsHeld s it.method.now
  pub target : IsHeld s it.target.now
  pub same : it.call ≡ record { method = code_in it.method.now; sent = it.call.sent; target = record { code = code_in it.target.now; kernel = it.target.now.info.kernel } }

-- the nodes that are `super` in a method that is none of a class
abbrev pub supers_elsewhere : Slots → ℕ → EntryOf ℕ → List (WitnessOf ℕ)
supers_elsewhere s c m =
    if is_method_of nat_eq c m then [] else nodes_that (λ x. is_super_node (asked_by s.names).is_super x.1) (InMethod m) m.tree.body

module _ (s : Slots) (it : Sending) where
  -- what a name means where the message stands, and at a place of the target
  abbrev pub here : ℕ → MeaningOf ℕ
  here n = means (number_words s.names) (number_image s) (held_as s.classes it.method.now) it.call.sent.path.now n

  abbrev pub there : List ℕ → ℕ → MeaningOf ℕ
  there path n = means (number_words s.names) (number_image s) (held_as s.classes it.target.now) path n

  -- a name at a place of the target, if no block round it declares it and it means another thing where the message stands
  abbrev pub other_name : List ℕ → ℕ → List (WitnessOf ℕ)
  other_name path n =
      where_true (not (is_of_block (local_in nat_eq (is_pseudo_in s.names) (held_as s.classes it.target.now).tree path n) || same_meaning nat_eq (there path n) (here n)))
      (TwoMeanings (InMethod (held_as s.classes it.target.now)) path n (there path n) (here n))

  -- a name in what is passed for an argument that is read at a place of the target, if a block round that place declares it
  abbrev pub captured_free : List ℕ → ℕ → List (WitnessOf ℕ)
  captured_free path n =
      where_true (is_of_block (local_in nat_eq (is_pseudo_in s.names) (held_as s.classes it.target.now).tree path n))
      (TwoMeanings (InMethod (held_as s.classes it.target.now)) path n (here n) (there path n))
