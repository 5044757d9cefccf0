-- `extractTemp` keeps images valid, where its conditions hold.
use Rattle.std.proofs.Common.{◌≡◌, ℕ, ◌≤◌, Bool, true, false, not, List, Some, option_and_then, option_map, refl, sym, ap, subst, ◌∙◌, true≢false}
use Rattle.std.specs.Prelude.{unwrap_or}
use Rattle.std.specs.Option.{option_map_or}
use Rattle.std.proofs.lemmas.Bool.{and_parts, not-true, leb-true}
use Rattle.rb_base.specs.Names.{text_eq}
use Rattle.tree_model.specs.Tree.{MethodOf}
use Rattle.tree_model.specs.Measure.{sequence_height}
use Rattle.tree_model.specs.Normal.{normal}
use Rattle.image_model.specs.Image.{EntryOf, ImageOf}
use Rattle.file_model.specs.Filing.{Text}
use Rattle.rename_model.specs.CommandWords.{may_be_declared, begins_upper}
use Rattle.rename_model.specs.NamesThere.{is_named_in_method}
use Rattle.rename_model.specs.ClassRenamed.{canonical}
use Rattle.command_model.specs.Asked.{text_asked}
use Rattle.command_model.specs.Commands.{ExtractTemp}
use Rattle.command_model.specs.CodeHolds.{is_low_made}
use Rattle.command_model.specs.Parts.{Part, Expression, Run}
use Rattle.command_model.specs.PartConditions.{is_part, is_first_evaluated}
use Rattle.command_model.specs.Places.{users_method}
use Rattle.command_model.specs.Sequences.{with_tree}
use Rattle.command_model.specs.Temporaries.{temporary_extracted}
use Rattle.command_model.specs.CodeEffects.{path_of_expression, part_at, tree_extracting, tree_made}
use Rattle.command_model.specs.Effects.{effect}
use Rattle.command_model.specs.AllHold.{AllHold}
use Rattle.effect_laws.proofs.Sound.{IsSound}
use Rattle.effect_laws.proofs.Tests.{there_passes}
use Rattle.effect_laws.proofs.NewNames.{new_name, method_parts}
use Rattle.effect_laws.proofs.Filed.{IsFiled}
use Rattle.effect_laws.proofs.KernelInFront.{AreFronts, retreed_front}
use Rattle.code_effect_laws.proofs.Methods.{IsProperMethod}
use Rattle.code_effect_laws.proofs.MethodGiven.{given_sound, given_filed}
use Rattle.code_effect_laws.proofs.Parts.{IsNamed, is_named, HasPart, has_part, IsExpressionAt, expression_at}
use Rattle.code_effect_laws.proofs.TemporaryExtracted.{extracted_proper}

module _ (kernel i : ImageOf Text) (s : IsSound kernel i) (c : Text) (meta : Bool) (t : Text) (from to : ℕ) (x : Text) (h : AllHold text_asked i (ExtractTemp c meta t from to x)) where
  -- the part
  found : (e : EntryOf Text × Part) × (part_at text_asked i c meta t from to ≡ Some e) × (is_part text_asked e.0.tree e.1 ≡ true)
  found = there_passes (λ (e : EntryOf Text × Part). is_part text_asked e.0.tree e.1) (part_at text_asked i c meta t from to) h.part_is

  abbrev its : EntryOf Text
  its = found.0.0

  part : HasPart i c meta t from to found.0
  part = has_part i c meta t from to found.0 found.1

  method : IsNamed kernel i c meta t its
  method = is_named kernel i s c meta t its part.named

  -- it is an expression
  first : is_first_evaluated text_asked i its found.0.1 ≡ true
  first = ap (λ o. option_map_or (λ (e : EntryOf Text × Part). is_first_evaluated text_asked i e.0 e.1) o false) (sym found.1) ∙ h.first_evaluated

  expression : (path : List ℕ) × (found.0.1 ≡ Expression path)
  expression = by found.0.1 first refl
    where
      by : (p : Part) → is_first_evaluated text_asked i its p ≡ true → found.0.1 ≡ p → (path : List ℕ) × (found.0.1 ≡ Expression path)
      by (Expression path) e q = (path, q)
      by (Run path f n) e q = absurd (true≢false (sym e))

  node : IsExpressionAt its.tree expression.0
  node = expression_at its.tree expression.0 (ap (is_part text_asked its.tree) (sym expression.1) ∙ found.2)

  -- the name is new to the method
  unnamed : is_named_in_method text_eq x its ≡ false
  unnamed = not-true (is_named_in_method text_eq x its) (ap (λ o. option_map_or (λ (m : EntryOf Text). not (is_named_in_method text_eq x m)) o false) (sym part.named) ∙ h.new_name)

  made : (n : MethodOf Text) × (temporary_extracted text_asked its.tree expression.0 x ≡ Some n) × IsProperMethod n × (n.selector ≡ its.tree.selector)
  made =
      let p = method_parts x its unnamed in
      extracted_proper x (new_name x (and_parts (may_be_declared x) (not (begins_upper x)) h.good_name).0) its.tree p.0 p.1 expression.0 node.node node.value node.there method.proper

  -- the effect gives it the new tree
  is_made : tree_made text_asked i c meta t (tree_extracting text_asked i from to x) ≡ Some made.0
  is_made =
      ap (option_and_then (tree_extracting text_asked i from to x)) part.named
      ∙ ap (λ o. option_and_then (λ path. temporary_extracted text_asked its.tree path x) (option_and_then path_of_expression o)) part.located
      ∙ ap (λ p. option_and_then (λ path. temporary_extracted text_asked its.tree path x) (path_of_expression p)) expression.1
      ∙ made.1

  low : sequence_height (normal made.0).body ≤ 200
  low = leb-true (sequence_height (normal made.0).body) 200 (ap (is_low_made text_asked i) (sym is_made) ∙ h.shallow)

  effect_is : effect text_asked canonical (ExtractTemp c meta t from to x) i ≡ with_tree text_eq canonical c meta t made.0 i
  effect_is = ap (λ o. unwrap_or (option_map (λ tree. with_tree text_eq canonical c meta t tree i) o) i) is_made

  selected : made.0.selector ≡ t
  selected = made.3 ∙ method.selected

  pub extract_temp_sound : IsSound kernel (effect text_asked canonical (ExtractTemp c meta t from to x) i)
  extract_temp_sound = subst (IsSound kernel) (sym effect_is) (given_sound kernel i s c meta t made.0 made.2 selected low)

  pub extract_temp_filed : IsFiled i → IsFiled (effect text_asked canonical (ExtractTemp c meta t from to x) i)
  extract_temp_filed f = subst IsFiled (sym effect_is) (given_filed kernel i s c meta t made.0 made.2 selected low f)

  pub extract_temp_front : AreFronts i → AreFronts (effect text_asked canonical (ExtractTemp c meta t from to x) i)
  extract_temp_front f = retreed_front i c meta t (tree_extracting text_asked i from to x) f (users_method text_eq i c meta t)
