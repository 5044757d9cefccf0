-- `inlineTemp` keeps images valid, where its conditions hold.
use Rattle.std.proofs.Common.{◌≡◌, suc, ◌≤◌, Bool, true, false, Some, option_and_then, option_map, sym, ap, subst, ◌∙◌, arith}
use Rattle.std.specs.Prelude.{unwrap_or, nat_lt}
use Rattle.std.specs.Option.{option_map_or}
use Rattle.std.proofs.lemmas.Bool.{and_parts, ltb-true, leb-true}
use Rattle.rb_base.specs.Names.{text_eq}
use Rattle.tree_model.specs.Tree.{MethodOf}
use Rattle.tree_model.specs.Measure.{sequence_height}
use Rattle.tree_model.specs.Normal.{normal}
use Rattle.tree_model.specs.Path.{count, statement_trees}
use Rattle.scope_model.specs.FreeNames.{statements_at}
use Rattle.image_model.specs.Image.{EntryOf, ImageOf}
use Rattle.file_model.specs.Filing.{Text}
use Rattle.rename_model.specs.ClassRenamed.{canonical}
use Rattle.command_model.specs.Asked.{text_asked}
use Rattle.command_model.specs.Commands.{InlineTemp}
use Rattle.command_model.specs.CodeEffects.{tree_without, tree_made}
use Rattle.command_model.specs.CodeHolds.{is_low_made}
use Rattle.command_model.specs.LetConditions.{is_let_form, is_value_kept}
use Rattle.command_model.specs.Places.{users_method}
use Rattle.command_model.specs.Sequences.{with_tree}
use Rattle.command_model.specs.Temporaries.{LetOf, let_of, temporary_inlined}
use Rattle.command_model.specs.Effects.{effect}
use Rattle.command_model.specs.AllHold.{AllHold}
use Rattle.effect_laws.proofs.Sound.{IsSound}
use Rattle.effect_laws.proofs.Tests.{there_passes}
use Rattle.effect_laws.proofs.Filed.{IsFiled}
use Rattle.effect_laws.proofs.KernelInFront.{AreFronts, retreed_front}
use Rattle.code_effect_laws.proofs.Methods.{IsProperMethod}
use Rattle.code_effect_laws.proofs.MethodGiven.{given_sound, given_filed}
use Rattle.code_effect_laws.proofs.Parts.{IsNamed, is_named}
use Rattle.code_effect_laws.proofs.Lets.{HasSequence, has_sequence, is_let}
use Rattle.code_effect_laws.proofs.TemporaryInlined.{inlined_temporary_proper}

module _ (kernel i : ImageOf Text) (s : IsSound kernel i) (c : Text) (meta : Bool) (t x : Text) (h : AllHold text_asked i (InlineTemp c meta t x)) where
  -- the method, and the assignment in it
  found : (m : EntryOf Text) × (users_method text_eq i c meta t ≡ Some m) × (option_map_or (λ (e : LetOf Text). is_let_form text_asked i m x e) (let_of text_asked m.tree x) false ≡ true)
  found = there_passes (λ (m : EntryOf Text). option_map_or (λ (e : LetOf Text). is_let_form text_asked i m x e) (let_of text_asked m.tree x) false) (users_method text_eq i c meta t) h.let_form

  abbrev its : EntryOf Text
  its = found.0

  method : IsNamed kernel i c meta t its
  method = is_named kernel i s c meta t its found.1

  assignment : (e : LetOf Text) × (let_of text_asked its.tree x ≡ Some e) × (is_let_form text_asked i its x e ≡ true)
  assignment = there_passes (λ (e : LetOf Text). is_let_form text_asked i its x e) (let_of text_asked its.tree x) found.2

  abbrev bound : LetOf Text
  bound = assignment.0

  some_statement : 1 ≤ count (statement_trees (statements_at its.tree.body bound.sequence))
  some_statement =
      let a = and_parts (nat_lt (suc bound.number) (count (statement_trees (statements_at its.tree.body bound.sequence)))) _ assignment.2 in
      let b = ltb-true (suc bound.number) (count (statement_trees (statements_at its.tree.body bound.sequence))) a.0 in
      omega (arith, b)

  sequence : HasSequence its.tree bound.sequence
  sequence = has_sequence its.tree bound.sequence some_statement

  kept : is_value_kept text_asked i its x bound ≡ true
  kept =
      ap (λ o. option_map_or (λ (e : LetOf Text). is_value_kept text_asked i its x e) o false) (sym assignment.1)
      ∙ ap (λ o. option_map_or (λ (m : EntryOf Text). option_map_or (λ (e : LetOf Text). is_value_kept text_asked i m x e) (let_of text_asked m.tree x) false) o false) (sym found.1) ∙ h.no_capture

  abbrev after : MethodOf Text
  after = temporary_inlined text_asked its.tree x bound

  good : IsProperMethod after × (after.selector ≡ its.tree.selector)
  good = inlined_temporary_proper i its x bound method.proper (is_let its.tree x bound assignment.1) kept sequence.known sequence.parameters sequence.sequence sequence.there

  -- the effect gives it the new tree
  is_made : tree_made text_asked i c meta t (tree_without text_asked i x) ≡ Some after
  is_made = ap (option_and_then (tree_without text_asked i x)) found.1 ∙ ap (option_map (temporary_inlined text_asked its.tree x)) assignment.1

  low : sequence_height (normal after).body ≤ 200
  low = leb-true (sequence_height (normal after).body) 200 (ap (is_low_made text_asked i) (sym is_made) ∙ h.shallow)

  effect_is : effect text_asked canonical (InlineTemp c meta t x) i ≡ with_tree text_eq canonical c meta t after i
  effect_is = ap (λ o. unwrap_or (option_map (λ tree. with_tree text_eq canonical c meta t tree i) o) i) is_made

  pub inline_temp_sound : IsSound kernel (effect text_asked canonical (InlineTemp c meta t x) i)
  inline_temp_sound = subst (IsSound kernel) (sym effect_is) (given_sound kernel i s c meta t after good.0 (good.1 ∙ method.selected) low)

  pub inline_temp_filed : IsFiled i → IsFiled (effect text_asked canonical (InlineTemp c meta t x) i)
  inline_temp_filed f = subst IsFiled (sym effect_is) (given_filed kernel i s c meta t after good.0 (good.1 ∙ method.selected) low f)

  pub inline_temp_front : AreFronts i → AreFronts (effect text_asked canonical (InlineTemp c meta t x) i)
  inline_temp_front f = retreed_front i c meta t (tree_without text_asked i x) f (users_method text_eq i c meta t)
