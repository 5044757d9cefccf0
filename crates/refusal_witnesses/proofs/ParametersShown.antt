-- The conditions of arguments and of heights hold just where what they speak of is there and nothing is in their way.
use Rattle.std.proofs.Common.{◌≡◌, ℕ, List, [], ◌∷◌, Option, Some, None, map, refl, ap, sym, ◌∙◌}
use Rattle.std.specs.Prelude.{Bool, true, false, cond, not, ◌&&◌, ◌||◌, ◌-◌, filter, is_some, slice_get, option_and_then}
use Rattle.std.specs.List.{list_any, list_all, enumerate_from}
use Rattle.std.specs.Option.{option_map_or}
use Rattle.tree_model.specs.Tree.{MethodOf}
use Rattle.tree_model.specs.Normal.{normal}
use Rattle.tree_model.specs.Nodes.{nodes}
use Rattle.scope_model.specs.Control.{is_empty}
use Rattle.image_model.specs.Image.{EntryOf, DoItOf, ImageOf}
use Rattle.image_model.specs.Means.{means, means_in_doit}
use Rattle.image_model.specs.Nodes.{in_doit, NodeOf, image_nodes}
use Rattle.image_model.specs.Uses.{is_sender, places}
use Rattle.rename_model.specs.Conditions.{speaks_of}
use Rattle.command_model.specs.Asked.{AskedOf}
use Rattle.command_model.specs.Parts.{Part}
use Rattle.command_model.specs.Commands.{CommandOf, AddParameter, AbstractInstVar, ExtractMethod, InlineMethod, ExtractTemp, InlineTemp}
use Rattle.command_model.specs.Conditions.{Shallow}
use Rattle.command_model.specs.MethodEffects.{new_method}
use Rattle.command_model.specs.Accessors.{is_meant, method_made, doit_made}
use Rattle.command_model.specs.Extracted.{part_replaced, call_of, method_of}
use Rattle.command_model.specs.CodeEffects.{method_at, part_at, tree_inlining, tree_extracting, tree_without, tree_made}
use Rattle.command_model.specs.CodeHolds.{no_writing, code_holds, is_low_made, are_low_extracted, are_low_abstracted}
use Rattle.command_model.specs.ParameterConditions.{is_low, is_shallow, is_parameter_unused, are_arguments_plain, formal_reads}
use Rattle.refusal_witnesses.specs.Witnesses.{AtPlace, InMethod, WitnessOf, AWhole, a_node, a_use, a_method, where_true}
use Rattle.refusal_witnesses.specs.ParameterWitnesses.{failing, too_high, counts, argument_reads_in, argument_reads, passes_plain, other_passings, too_high_abstracted, too_high_extracted, too_high_made, heights_after}
use Rattle.refusal_witnesses.specs.Refused.{is_changed_there}
use Rattle.refusal_witnesses.proofs.Lists.{empty-map, empty-failing, empty-unless, all-enumerated, flat-all, two-all, of-option}

shows-failing : {N : Type 0} (method_passes : EntryOf N → Bool) (doit_passes : DoItOf N → Bool) (i : ImageOf N) → (list_all method_passes i.methods && list_all doit_passes i.doits) ≡ is_empty (failing method_passes doit_passes i)
shows-failing {N} method_passes doit_passes i =
    let ms : List (EntryOf N) = filter (λ m. not (method_passes m)) i.methods in
    let ds : List (ℕ × DoItOf N) = filter (λ e. not (doit_passes e.1)) (enumerate_from 0 i.doits) in
    let shown : ℕ × DoItOf N → WitnessOf N = λ e. AWhole (AtPlace (in_doit e.0)) in
    sym (two-all (map a_method ms) (map shown ds) (list_all method_passes i.methods) (list_all doit_passes i.doits)
    (empty-map a_method ms ∙ empty-failing method_passes i.methods)
    (empty-map shown ds ∙ empty-failing (λ (e : ℕ × DoItOf N). doit_passes e.1) (enumerate_from 0 i.doits) ∙ all-enumerated doit_passes 0 i.doits))

pub shows-too-high : {N : Type 0} (i : ImageOf N) → is_shallow i ≡ is_empty (too_high i)
shows-too-high {N} i = shows-failing (λ (m : EntryOf N). m.kernel || is_low m.tree.body) (λ (d : DoItOf N). is_low d.body) i

module _ {N : Type 0} (a : AskedOf N) (i : ImageOf N) where
  in-method : (s : N) (k : ℕ) (m : EntryOf N) → is_empty (argument_reads_in a i s k m) ≡ (m.kernel || (not (a.words.tests.same s m.tree.selector) || option_map_or (λ x. is_empty (formal_reads a m.tree x)) (slice_get m.tree.arguments (k - 1)) false))
  in-method s k m = by m.kernel (not (a.words.tests.same s m.tree.selector)) (slice_get m.tree.arguments (k - 1))
    where
      by : (b c : Bool) (o : Option N) → is_empty (cond (b || c) [] (option_map_or (λ x. map (a_node (InMethod m)) (formal_reads a m.tree x)) o (a_method m ∷ []))) ≡ (b || (c || option_map_or (λ x. is_empty (formal_reads a m.tree x)) o false))
      by true c o = refl
      by false true o = refl
      by false false None = refl
      by false false (Some x) = empty-map (a_node (InMethod m)) (formal_reads a m.tree x)

  pub shows-argument-reads : (s : N) (k : ℕ) → is_parameter_unused a i s k ≡ (counts a i s k && is_empty (argument_reads a i s k))
  shows-argument-reads s k =
      let passes : EntryOf N → Bool = λ m. m.kernel || (not (a.words.tests.same s m.tree.selector) || option_map_or (λ x. is_empty (formal_reads a m.tree x)) (slice_get m.tree.arguments (k - 1)) false) in
      ap (λ b. counts a i s k && b) (sym (flat-all (argument_reads_in a i s k) passes (in-method s k) i.methods))

  pub shows-other-passings : (s : N) (k : ℕ) → are_arguments_plain a i s k ≡ (counts a i s k && is_empty (other_passings a i s k))
  shows-other-passings s k =
      let es : List (NodeOf N) = filter (λ (e : NodeOf N). not (passes_plain a i s k e)) (image_nodes i) in
      ap (λ b. counts a i s k && b)
      (sym (empty-map (a_use {N = N}) (places es) ∙ empty-map (λ (e : NodeOf N). e.use_of) es ∙ empty-failing (passes_plain a i s k) (image_nodes i)))

  shows-abstracted : (c x setter given : N) → are_low_abstracted a i c x setter given ≡ is_empty (too_high_abstracted a i c x setter given)
  shows-abstracted c x setter given =
      shows-failing
      (λ (m : EntryOf N). m.kernel || (not (is_meant a.words no_writing a.self_name c x setter given i (means a.words i m) m.tree.body) || is_low (method_made a.words no_writing a.self_name c x setter given i m).tree.body))
      (λ (d : DoItOf N). not (is_meant a.words no_writing a.self_name c x setter given i (means_in_doit a.words i d) d.body) || is_low (doit_made a.words no_writing a.self_name c x setter given i d).body) i

  shows-extracted : (c : N) (meta : Bool) (t : N) (m : EntryOf N) (part : Part) → are_low_extracted a i t m part ≡ is_empty (too_high_extracted a i c meta t m part)
  shows-extracted c meta t m part =
      let new : Bool = is_low (method_of a t m.tree part).body in
      let changed : Bool = is_low (normal (part_replaced m.tree part (call_of a t m.tree part))).body in
      let w : WitnessOf N = a_method (new_method c meta m.protocol [] (method_of a t m.tree part)) in
      sym (two-all (where_true (not new) w) (where_true (not changed) (a_method m)) new changed (empty-unless new w) (empty-unless changed (a_method m)))

  shows-made : (c : N) (meta : Bool) (s : N) (change : EntryOf N → Option (MethodOf N)) → is_low_made a i (tree_made a i c meta s change) ≡ (is_some (tree_made a i c meta s change) && is_empty (too_high_made a i c meta s change))
  shows-made c meta s change = by (method_at a i c meta s)
    where
      of : (m : EntryOf N) (o : Option (MethodOf N)) → is_low_made a i o ≡ (is_some o && is_empty (option_map_or (λ (tree : MethodOf N). where_true (not (is_low (normal tree).body)) (a_method m)) o []))
      of m o = of-option (λ (tree : MethodOf N). is_low (normal tree).body) (λ (tree : MethodOf N). where_true (not (is_low (normal tree).body)) (a_method m)) (λ (tree : MethodOf N). sym (empty-unless (is_low (normal tree).body) (a_method m))) o

      by : (o : Option (EntryOf N)) → is_low_made a i (option_and_then change o) ≡ (is_some (option_and_then change o) && is_empty (option_map_or (λ m. option_map_or (λ (tree : MethodOf N). where_true (not (is_low (normal tree).body)) (a_method m)) (change m) []) o []))
      by None = refl
      by (Some m) = of m (change m)

  pub shows-heights : (command : CommandOf N) → code_holds a i command Shallow ≡ (is_changed_there a i command && is_empty (heights_after a i command))
  shows-heights (AddParameter s t x passed) =
      shows-failing (λ (m : EntryOf N). m.kernel || (not (speaks_of a.words.tests.same s m) || is_low m.tree.body))
      (λ (d : DoItOf N). not (list_any (λ e. is_sender a.words.tests.same s e.1) (nodes d.body)) || is_low d.body) i
  shows-heights (AbstractInstVar c x setter given) = shows-abstracted c x setter given
  shows-heights (ExtractMethod c meta s from to t) =
      of-option (λ (e : EntryOf N × Part). are_low_extracted a i t e.0 e.1) (λ (e : EntryOf N × Part). too_high_extracted a i c meta t e.0 e.1) (λ e. shows-extracted c meta t e.0 e.1) (part_at a i c meta s from to)
  shows-heights (InlineMethod c meta s from to) = shows-made c meta s (tree_inlining a i c meta s from to)
  shows-heights (ExtractTemp c meta s from to x) = shows-made c meta s (tree_extracting a i from to x)
  shows-heights (InlineTemp c meta s x) = shows-made c meta s (tree_without a i x)
  shows-heights command = refl
