-- Names of the method that a message finds that mean another thing where the message stands.
use Rattle.std.proofs.Common.{◌≡◌, ℕ, Bool, List, Option, None, Some, map, ap, ◌∙◌}
use Rattle.std.specs.Prelude.{filter, nat_eq}
use Rattle.std.specs.List.{flat_map}
use Rattle.std.specs.Option.{option_map_or}
use Rattle.tree_model.specs.Tree.{TreeOf}
use Rattle.scope_model.specs.FreeNames.{free_names}
use Rattle.scope_model.specs.NameTests.{is_pseudo_in}
use Rattle.scope_model.specs.Scope.{local_in}
use Rattle.image_model.specs.Image.{EntryOf}
use Rattle.class_table.specs.Slots.{Slots}
use Rattle.class_table.specs.View.{number_image}
use Rattle.command_model.specs.Inlined.{passed_for}
use Rattle.command_model.specs.Places.{SendOf, is_of_block}
use Rattle.commands.specs.Views.{asked_by}
use Rattle.inlined_code.specs.Sending.{send_of}
use Rattle.refusal_witnesses.specs.InlineWitnesses.{captured_name}
use Rattle.refusal_witnesses.specs.Witnesses.{InMethod, WitnessOf, TwoMeanings}
use Rattle.witness_lists.proofs.Lists.{where-filter}
use Rattle.part_witnesses.specs.declared.sending.Sending.{Sending}
use Rattle.part_witnesses.specs.Held.{held_as}
use Rattle.part_witnesses.specs.Sending.{captured_free, here, other_name, there}

module _ (s : Slots) (it : Sending) (path : List ℕ) (n : ℕ) where
  abbrev target : EntryOf ℕ
  target = held_as s.classes it.target.now

  abbrev message : SendOf ℕ
  message = send_of it.call.sent

  -- whether a block round the place declares a name
  abbrev is_declared : ℕ → Bool
  is_declared x = is_of_block (local_in nat_eq (is_pseudo_in s.names) target.tree path x)

  -- a name in what is passed
  abbrev a_free : ℕ → WitnessOf ℕ
  a_free x = TwoMeanings (InMethod target) path x (here s it x) (there s it path x)

  -- the names in what is passed for it, if it is an argument, and else the name itself
  abbrev of_passed : Option (TreeOf ℕ) → List (WitnessOf ℕ)
  of_passed o = option_map_or (λ (t : TreeOf ℕ). map a_free (filter is_declared (free_names nat_eq (is_pseudo_in s.names) t))) o (other_name s it path n)

  pub name-passed : (t : TreeOf ℕ) → Some t ≡ passed_for (asked_by s.names) target.tree message.arguments path n
      → flat_map (captured_free s it path) (free_names nat_eq (is_pseudo_in s.names) t) ≡ captured_name (asked_by s.names) (number_image s) (held_as s.classes it.method.now) message target path n
  name-passed t e = where-filter is_declared a_free (free_names nat_eq (is_pseudo_in s.names) t) ∙ ap of_passed e

  pub name-unpassed : None ≡ passed_for (asked_by s.names) target.tree message.arguments path n
      → other_name s it path n ≡ captured_name (asked_by s.names) (number_image s) (held_as s.classes it.method.now) message target path n
  name-unpassed e = ap of_passed e
