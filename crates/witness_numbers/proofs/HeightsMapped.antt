-- The witnesses of what is too high after a command are the same once names are changed one to one.
use Rattle.std.proofs.Common.{◌≡◌, ℕ, Bool, not, ◌||◌, List, [], map, filter, Option, option_map, refl, ap, ◌∙◌}
use Rattle.std.specs.List.{enumerate_from, list_any}
use Rattle.std.specs.Option.{option_map_or}
use Rattle.tree_model.specs.Tree.{MethodOf, map_method}
use Rattle.tree_model.specs.Nodes.{nodes}
use Rattle.tree_model.specs.Normal.{normal}
use Rattle.image_model.specs.Image.{EntryOf, DoItOf, ImageOf, map_entry, map_doit, map_image}
use Rattle.image_model.specs.Nodes.{in_doit}
use Rattle.image_model.specs.Uses.{is_sender}
use Rattle.rename_model.specs.Conditions.{speaks_of}
use Rattle.command_model.specs.Commands.{CommandOf, AddParameter, AbstractInstVar, ExtractMethod, InlineMethod, ExtractTemp, InlineTemp}
use Rattle.command_model.specs.Parts.{Part}
use Rattle.command_model.specs.Asked.{AskedOf}
use Rattle.command_model.specs.MethodEffects.{new_method}
use Rattle.command_model.specs.Extracted.{part_replaced, call_of, method_of}
use Rattle.command_model.specs.CodeEffects.{tree_inlining, tree_extracting, tree_without}
use Rattle.command_model.specs.ParameterConditions.{is_low}
use Rattle.command_numbers.specs.MappedCommands.{map_command}
use Rattle.command_numbers.proofs.Lists.{enumerate-map, filter-total, map-total}
use Rattle.command_numbers.proofs.Everywhere.{Every}
use Rattle.command_numbers.proofs.NamesAsked.{doit_sends-map, speaks_of-map}
use Rattle.code_command_numbers.specs.KeepsMoves.{KeepsMoves}
use Rattle.code_command_numbers.proofs.ExtractedMapped.{method_of-map}
use Rattle.code_command_numbers.proofs.MovedEffects.{tree_inlining-map, tree_extracting-map, tree_without-map}
use Rattle.code_command_numbers.proofs.MovedHeights.{is_low-map, normal_low, new_low, changed_low, method_low, method_low_there, doit_low, doit_low_there, method_low-map, doit_low-map}
use Rattle.refusal_witnesses.specs.Witnesses.{AtPlace, WitnessOf, AWhole, a_method, where_true}
use Rattle.refusal_witnesses.specs.ParameterWitnesses.{failing, too_high_speaking, too_high_abstracted, too_high_extracted, too_high_made, heights_after}
use Rattle.witness_numbers.specs.MappedWitnesses.{map_witness}
use Rattle.witness_numbers.proofs.Gathered.{mapped, joined, where-map, maybe-map, methods-map}
use Rattle.witness_numbers.proofs.Found.{of_method-map, of_part-map}

module _ {M N : Type 0} (f : M → N) where
  -- the methods and do-its that fail tests which agree
  failing-map : (p : EntryOf M → Bool) (q : EntryOf N → Bool) → ((m : EntryOf M) → q (map_entry f m) ≡ p m) → (r : DoItOf M → Bool) (t : DoItOf N → Bool) → ((d : DoItOf M) → t (map_doit f d) ≡ r d) → (i : ImageOf M)
      → failing q t (map_image f i) ≡ mapped f (failing p r i)
  failing-map p q e r t h i =
      joined f (map a_method (filter (λ (m : EntryOf M). not (p m)) i.methods)) (map at (filter (λ (x : ℕ × DoItOf M). not (r x.1)) (enumerate_from 0 i.doits))) _ _
      (methods-map f (λ m. not (p m)) (λ m. not (q m)) (λ m. ap not (e m)) i.methods)
      (ap (λ (xs : List (ℕ × DoItOf N)). map at_there (filter (λ (x : ℕ × DoItOf N). not (t x.1)) xs)) (enumerate-map (map_doit f) 0 i.doits)
      ∙ ap (map at_there) (filter-total numbered (λ (x : ℕ × DoItOf M). not (r x.1)) (λ (x : ℕ × DoItOf N). not (t x.1)) (λ x. ap not (h x.1)) (enumerate_from 0 i.doits))
      ∙ map-total numbered (map_witness f) at at_there (λ x. refl) (filter (λ (x : ℕ × DoItOf M). not (r x.1)) (enumerate_from 0 i.doits)))
    where
      numbered : ℕ × DoItOf M → ℕ × DoItOf N
      numbered x = (x.0, map_doit f x.1)

      at : ℕ × DoItOf M → WitnessOf M
      at x = AWhole (AtPlace (in_doit x.0))

      at_there : ℕ × DoItOf N → WitnessOf N
      at_there x = AWhole (AtPlace (in_doit x.0))

module _ {M N : Type 0} (f : M → N) (a : AskedOf M) (b : AskedOf N) (keeps : KeepsMoves Every f a b) (i : ImageOf M) where
  -- what has a selector or sends it
  too_high_speaking-map : (s : M) → too_high_speaking b.words.tests.same (f s) (map_image f i) ≡ mapped f (too_high_speaking a.words.tests.same s i)
  too_high_speaking-map s =
      failing-map f (λ (m : EntryOf M). m.kernel || (not (speaks_of a.words.tests.same s m) || is_low m.tree.body)) (λ (m : EntryOf N). m.kernel || (not (speaks_of b.words.tests.same (f s) m) || is_low m.tree.body))
      (λ m. λ j. m.kernel || (not (speaks_of-map f a.words b.words keeps.asked.words s m j) || is_low-map f m.tree.body j))
      (λ (d : DoItOf M). not (list_any (λ e. is_sender a.words.tests.same s e.1) (nodes d.body)) || is_low d.body) (λ (d : DoItOf N). not (list_any (λ e. is_sender b.words.tests.same (f s) e.1) (nodes d.body)) || is_low d.body)
      (λ d. λ j. not (doit_sends-map f a.words b.words keeps.asked.words s d j) || is_low-map f d.body j) i

  -- what reads or assigns a variable
  too_high_abstracted-map : (c x setter given : M) → too_high_abstracted b (map_image f i) (f c) (f x) (f setter) (f given) ≡ mapped f (too_high_abstracted a i c x setter given)
  too_high_abstracted-map c x setter given =
      ap (λ (n : N). failing (method_low_there f a b keeps i c x setter given n) (doit_low_there f a b keeps i c x setter given n) (map_image f i)) keeps.self_name
      ∙ failing-map f (method_low f a b keeps i c x setter given) (method_low_there f a b keeps i c x setter given (f a.self_name)) (method_low-map f a b keeps i c x setter given)
      (doit_low f a b keeps i c x setter given) (doit_low_there f a b keeps i c x setter given (f a.self_name)) (doit_low-map f a b keeps i c x setter given) i

  -- the method that a part becomes, and the one that sends its message
  too_high_extracted-map : (c : M) (meta : Bool) (t : M) (m : EntryOf M) (part : Part) → too_high_extracted b (map_image f i) (f c) meta (f t) (map_entry f m) part ≡ mapped f (too_high_extracted a i c meta t m part)
  too_high_extracted-map c meta t m part =
      joined f (where_true (not (is_low (method_of a t m.tree part).body)) new) (where_true (not (is_low (normal (part_replaced m.tree part (call_of a t m.tree part))).body)) (a_method m)) _ _
      (where-map f (not (is_low (method_of a t m.tree part).body)) (not (is_low (method_of b (f t) (map_method f m.tree) part).body)) new new_there (ap not (new_low f a b keeps i t m part))
      (λ j. a_method (new_method (f c) meta m.protocol [] (method_of-map f a b keeps.asked t m.tree part j))))
      (where-map f (not (is_low (normal (part_replaced m.tree part (call_of a t m.tree part))).body)) (not (is_low (normal (part_replaced (map_method f m.tree) part (call_of b (f t) (map_method f m.tree) part))).body))
      (a_method m) (a_method (map_entry f m)) (ap not (changed_low f a b keeps i t m part)) refl)
    where
      new : WitnessOf M
      new = a_method (new_method c meta m.protocol [] (method_of a t m.tree part))

      new_there : WitnessOf N
      new_there = a_method (new_method (f c) meta m.protocol [] (method_of b (f t) (map_method f m.tree) part))

  -- what is made of the tree of a method
  too_high_made-map : (c : M) (meta : Bool) (s : M) (change : EntryOf M → Option (MethodOf M)) (change_there : EntryOf N → Option (MethodOf N)) → ((m : EntryOf M) → change_there (map_entry f m) ≡ option_map (map_method f) (change m))
      → too_high_made b (map_image f i) (f c) meta (f s) change_there ≡ mapped f (too_high_made a i c meta s change)
  too_high_made-map c meta s change change_there e = of_method-map f a b keeps i c meta s here there each
    where
      high : EntryOf M → MethodOf M → List (WitnessOf M)
      high m tree = where_true (not (is_low (normal tree).body)) (a_method m)

      high_there : EntryOf N → MethodOf N → List (WitnessOf N)
      high_there m tree = where_true (not (is_low (normal tree).body)) (a_method m)

      here : EntryOf M → List (WitnessOf M)
      here m = option_map_or (high m) (change m) []

      there : EntryOf N → List (WitnessOf N)
      there m = option_map_or (high_there m) (change_there m) []

      each : (m : EntryOf M) → there (map_entry f m) ≡ mapped f (here m)
      each m =
          ap (λ (o : Option (MethodOf N)). option_map_or (high_there (map_entry f m)) o []) (e m)
          ∙ maybe-map f (map_method f) (high m) (high_there (map_entry f m))
          (λ tree. where-map f (not (is_low (normal tree).body)) (not (is_low (normal (map_method f tree)).body)) (a_method m) (a_method (map_entry f m)) (ap not (normal_low f a b keeps i tree)) refl) (change m)

  pub heights_after-map : (command : CommandOf M) → heights_after b (map_image f i) (map_command f command) ≡ mapped f (heights_after a i command)
  heights_after-map (AddParameter s t x passed) = too_high_speaking-map s
  heights_after-map (AbstractInstVar c x setter given) = too_high_abstracted-map c x setter given
  heights_after-map (ExtractMethod c meta s from to t) = of_part-map f a b keeps i c meta s from to (too_high_extracted a i c meta t) (too_high_extracted b (map_image f i) (f c) meta (f t)) (too_high_extracted-map c meta t)
  heights_after-map (InlineMethod c meta s from to) = too_high_made-map c meta s (tree_inlining a i c meta s from to) (tree_inlining b (map_image f i) (f c) meta (f s) from to) (tree_inlining-map f a b keeps i c meta s from to)
  heights_after-map (ExtractTemp c meta s from to x) = too_high_made-map c meta s (tree_extracting a i from to x) (tree_extracting b (map_image f i) from to (f x)) (tree_extracting-map f a b keeps i from to x)
  heights_after-map (InlineTemp c meta s x) = too_high_made-map c meta s (tree_without a i x) (tree_without b (map_image f i) (f x)) (tree_without-map f a b keeps i x)
  heights_after-map command = refl
