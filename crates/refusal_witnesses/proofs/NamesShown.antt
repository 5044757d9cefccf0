-- The conditions of names hold just where nothing is in their way.
use Rattle.std.proofs.Common.{◌≡◌, List, [], ◌∷◌, ◌++◌, map, refl, ap, sym, ◌∙◌}
use Rattle.std.specs.Prelude.{Bool, true, false, not, ◌&&◌, ◌||◌, cond, filter}
use Rattle.std.specs.List.{list_any, flat_map}
use Rattle.tree_model.specs.Tree.{SequenceOf}
use Rattle.tree_model.specs.Nodes.{nodes}
use Rattle.scope_model.specs.Control.{is_empty}
use Rattle.image_model.specs.Image.{EntryOf, DoItOf, ImageOf}
use Rattle.image_model.specs.Uses.{is_sender}
use Rattle.rename_model.specs.CommandWords.{CommandWordsOf}
use Rattle.rename_model.specs.NamesThere.{is_named_by, is_named_in, is_named_in_method, is_named_by_class}
use Rattle.rename_model.specs.Conditions.{is_reflective, reflects, method_reflects, has_no_reflection, is_name_unused, speaks_of, is_selector_fresh, is_no_kernel_selector}
use Rattle.command_model.specs.Commands.{CommandOf, AddMethod}
use Rattle.command_model.specs.MethodEffects.{new_method}
use Rattle.command_model.specs.NameConditions.{adds_no_reflection, is_without_reflection}
use Rattle.refusal_witnesses.specs.Witnesses.{OwnerOf, InMethod, AWhole, ASelector, WitnessOf, a_method, a_class_of, where_true, nodes_that, in_doits}
use Rattle.refusal_witnesses.specs.NameWitnesses.{reflections_in, added_by, reflections_there, reflections, namings_in, namings_in_method, namings, speakings_in, speakings, kernel_speakings}
use Rattle.refusal_witnesses.proofs.Lists.{or-or, empty-map, empty-filter, flat-none, two-none, two-all, empty-where, empty-if, empty-else, empty-head, empty-nodes, empty-doits}

module _ {N : Type 0} (v : CommandWordsOf N) where
  in-method : (m : EntryOf N) → is_empty (reflections_in v m) ≡ not (method_reflects v m)
  in-method m =
      let ws : List (WitnessOf N) = nodes_that (λ e. is_reflective v e.1) (InMethod m) m.tree.body in
      let names : Bool = v.is_not_understood m.tree.selector in
      empty-else m.kernel (where_true names (a_method m) ++ ws) (names || reflects v m.tree.body)
      (empty-head names (a_method m) ws (reflects v m.tree.body) (empty-nodes (λ e. is_reflective v e.1) (InMethod m) m.tree.body))

  in-added : (command : CommandOf N) → is_empty (flat_map (reflections_in v) (added_by command)) ≡ adds_no_reflection v command
  in-added (AddMethod c meta protocol text tree) =
      let m : EntryOf N = new_method c meta protocol text tree in
      flat-none (reflections_in v) (method_reflects v) in-method (m ∷ []) ∙ by (method_reflects v m)
    where
      by : (b : Bool) → not (b || false) ≡ not b
      by true = refl
      by false = refl
  in-added command = refl

  pub shows-reflections-there : (i : ImageOf N) → has_no_reflection v i ≡ is_empty (reflections_there v i)
  shows-reflections-there i =
      let ms : List (WitnessOf N) = flat_map (reflections_in v) i.methods in
      let ds : List (WitnessOf N) = in_doits (nodes_that (λ e. is_reflective v e.1)) i in
      sym (two-none ms ds (list_any (method_reflects v) i.methods) (list_any (λ (d : DoItOf N). reflects v d.body) i.doits)
      (flat-none (reflections_in v) (method_reflects v) in-method i.methods)
      (empty-doits (nodes_that (λ e. is_reflective v e.1)) (reflects v) (empty-nodes (λ e. is_reflective v e.1)) i))

  pub shows-reflections : (i : ImageOf N) (command : CommandOf N) → is_without_reflection v i command ≡ is_empty (reflections v i command)
  shows-reflections i command =
      sym (two-all (reflections_there v i) (flat_map (reflections_in v) (added_by command)) (has_no_reflection v i) (adds_no_reflection v command)
      (sym (shows-reflections-there i)) (in-added command))

module _ {N : Type 0} (same : N → N → Bool) where
  in-sequence : (n : N) (declared : List N) (owner : OwnerOf N) (b : SequenceOf N) → is_empty (namings_in same n declared owner b) ≡ not (list_any (same n) declared || is_named_in same n b)
  in-sequence n declared owner b =
      let here : Bool = list_any (λ e. is_named_by same n e.1) (nodes b) in
      empty-head (list_any (same n) declared || list_any (same n) b.temporaries) (AWhole owner) (nodes_that (λ e. is_named_by same n e.1) owner b) here
      (empty-nodes (λ e. is_named_by same n e.1) owner b)
      ∙ ap not (or-or (list_any (same n) declared) (list_any (same n) b.temporaries) here)

  pub shows-method-namings : (n : N) (m : EntryOf N) → is_empty (namings_in_method same n m) ≡ not (is_named_in_method same n m)
  shows-method-namings n m = in-sequence n m.tree.arguments (InMethod m) m.tree.body

  pub shows-namings : (i : ImageOf N) (n : N) → is_name_unused same i n ≡ is_empty (namings same i n)
  shows-namings i n =
      let cs : List (WitnessOf N) = map a_class_of (filter (is_named_by_class same n) i.classes) in
      let ms : List (WitnessOf N) = flat_map (namings_in_method same n) i.methods in
      let ds : List (WitnessOf N) = in_doits (namings_in same n []) i in
      let of_methods : Bool = list_any (is_named_in_method same n) i.methods in
      let of_doits : Bool = list_any (λ (d : DoItOf N). is_named_in same n d.body) i.doits in
      sym (two-none cs (ms ++ ds) (list_any (is_named_by_class same n) i.classes) (of_methods || of_doits)
      (empty-map a_class_of (filter (is_named_by_class same n) i.classes) ∙ empty-filter (is_named_by_class same n) i.classes)
      (two-none ms ds of_methods of_doits (flat-none (namings_in_method same n) (is_named_in_method same n) (shows-method-namings n) i.methods)
      (empty-doits (namings_in same n []) (is_named_in same n) (in-sequence n []) i)))

  in-speaking : (s : N) (m : EntryOf N) → is_empty (speakings_in same s m) ≡ not (speaks_of same s m)
  in-speaking s m =
      empty-head (same s m.tree.selector) (a_method m) (nodes_that (λ e. is_sender same s e.1) (InMethod m) m.tree.body) (list_any (λ e. is_sender same s e.1) (nodes m.tree.body))
      (empty-nodes (λ e. is_sender same s e.1) (InMethod m) m.tree.body)

  pub shows-speakings : (i : ImageOf N) (s : N) → is_selector_fresh same i s ≡ is_empty (speakings same i s)
  shows-speakings i s =
      sym (two-none (flat_map (speakings_in same s) i.methods) (in_doits (nodes_that (λ e. is_sender same s e.1)) i) (list_any (speaks_of same s) i.methods)
      (list_any (λ (d : DoItOf N). list_any (λ e. is_sender same s e.1) (nodes d.body)) i.doits)
      (flat-none (speakings_in same s) (speaks_of same s) (in-speaking s) i.methods)
      (empty-doits (nodes_that (λ e. is_sender same s e.1)) (λ b. list_any (λ e. is_sender same s e.1) (nodes b)) (empty-nodes (λ e. is_sender same s e.1)) i))

  pub shows-kernel-speakings : (v : CommandWordsOf N) (i : ImageOf N) (s : N) → is_no_kernel_selector same v i s ≡ is_empty (kernel_speakings same v i s)
  shows-kernel-speakings v i s =
      let of_kernel : EntryOf N → List (WitnessOf N) = λ m. cond m.kernel (speakings_in same s m) [] in
      let speaks : EntryOf N → Bool = λ m. m.kernel && speaks_of same s m in
      sym (two-none (flat_map of_kernel i.methods) (where_true (v.has_own_meaning s) (ASelector s)) (list_any speaks i.methods) (v.has_own_meaning s)
      (flat-none of_kernel speaks (λ m. empty-if m.kernel (speakings_in same s m) (speaks_of same s m) (in-speaking s m)) i.methods)
      (empty-where (v.has_own_meaning s) (ASelector s)))
