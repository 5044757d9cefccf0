-- The witnesses of the conditions of names are the same once names are changed one to one.
use Rattle.std.proofs.Common.{◌≡◌, false, ◌||◌, List, [], ◌++◌, map, filter, flat_map, refl, ap, ◌∙◌}
use Rattle.std.specs.List.{list_any}
use Rattle.std.specs.Prelude.{if◌then◌else◌}
use Rattle.tree_model.specs.Tree.{TreeOf, SequenceOf, map_names, map_sequence}
use Rattle.image_model.specs.Image.{EntryOf, ImageOf, map_entry, map_image}
use Rattle.image_model.specs.Words.{WordsOf, KeepsWords}
use Rattle.image_model.specs.Uses.{is_sender}
use Rattle.rename_model.specs.CommandWords.{CommandWordsOf}
use Rattle.rename_model.specs.NamesThere.{is_named_by, is_named_by_class}
use Rattle.rename_model.specs.Conditions.{is_reflective}
use Rattle.command_model.specs.Commands.{CommandOf, AddMethod}
use Rattle.command_numbers.specs.MappedCommands.{map_command}
use Rattle.command_numbers.specs.KeepsAsked.{KeepsCommandWords}
use Rattle.command_numbers.proofs.Lists.{flat-total}
use Rattle.command_numbers.proofs.Everywhere.{Every}
use Rattle.command_numbers.proofs.NodesAsked.{used-total, sends_one_that-map, is_sender-map, is_named_by-map}
use Rattle.command_numbers.proofs.Classes.{same-map, among-map, is_named_by_class-map}
use Rattle.code_command_numbers.proofs.MovedNamed.{kept}
use Rattle.refusal_witnesses.specs.Witnesses.{OwnerOf, InMethod, AWhole, ASelector, a_method, a_class_of, where_true, nodes_that, in_doits}
use Rattle.refusal_witnesses.specs.NameWitnesses.{reflections_in, added_by, reflections_there, reflections, namings_in, namings_in_method, namings, speakings_in, speakings, kernel_speakings}
use Rattle.witness_numbers.specs.MappedWitnesses.{map_owner, map_witness}
use Rattle.witness_numbers.proofs.Gathered.{mapped, joined, where-map, then-map, else-map, nodes_that-map, in_doits-map, classes-map}

-- what is reflective
module _ {M N : Type 0} (f : M → N) (w : CommandWordsOf M) (v : CommandWordsOf N) (keeps : KeepsCommandWords Every f w v) where
  is_reflective-map : (t : TreeOf M) → is_reflective v (map_names f t) ≡ is_reflective w t
  is_reflective-map t =
      λ i. sends_one_that-map f w.is_reflective_selector v.is_reflective_selector (λ n. keeps.is_reflective_selector n tt) t i
      || used-total f w.is_reflective_name v.is_reflective_name false (λ n. keeps.is_reflective_name n tt) t i

  reflective_nodes-map : (owner : OwnerOf M) (b : SequenceOf M) → nodes_that (λ e. is_reflective v e.1) (map_owner f owner) (map_sequence f b) ≡ mapped f (nodes_that (λ e. is_reflective w e.1) owner b)
  reflective_nodes-map = nodes_that-map f (λ e. is_reflective w e.1) (λ e. is_reflective v e.1) (λ e. is_reflective-map e.1)

  reflections_in-map : (m : EntryOf M) → reflections_in v (map_entry f m) ≡ mapped f (reflections_in w m)
  reflections_in-map m =
      else-map f m.kernel m.kernel (where_true (w.is_not_understood m.tree.selector) (a_method m) ++ nodes_that (λ e. is_reflective w e.1) (InMethod m) m.tree.body)
      (where_true (v.is_not_understood (f m.tree.selector)) (a_method (map_entry f m)) ++ nodes_that (λ e. is_reflective v e.1) (InMethod (map_entry f m)) (map_sequence f m.tree.body))
      refl (joined f (where_true (w.is_not_understood m.tree.selector) (a_method m)) (nodes_that (λ e. is_reflective w e.1) (InMethod m) m.tree.body) _ _
      (where-map f (w.is_not_understood m.tree.selector) (v.is_not_understood (f m.tree.selector)) (a_method m) (a_method (map_entry f m)) (keeps.is_not_understood m.tree.selector tt) refl)
      (reflective_nodes-map (InMethod m) m.tree.body))

  pub reflections_there-map : (i : ImageOf M) → reflections_there v (map_image f i) ≡ mapped f (reflections_there w i)
  reflections_there-map i =
      joined f (flat_map (reflections_in w) i.methods) (in_doits (nodes_that (λ e. is_reflective w e.1)) i) _ _
      (flat-total (map_entry f) (map_witness f) (reflections_in w) (reflections_in v) reflections_in-map i.methods)
      (in_doits-map f (nodes_that (λ e. is_reflective w e.1)) (nodes_that (λ e. is_reflective v e.1)) reflective_nodes-map i)

  added_by-map : (command : CommandOf M) → added_by (map_command f command) ≡ map (map_entry f) (added_by command)
  added_by-map (AddMethod c meta protocol text tree) = refl
  added_by-map command = refl

  pub reflections-map : (i : ImageOf M) (command : CommandOf M) → reflections v (map_image f i) (map_command f command) ≡ mapped f (reflections w i command)
  reflections-map i command =
      joined f (reflections_there w i) (flat_map (reflections_in w) (added_by command)) _ _ (reflections_there-map i)
      (ap (flat_map (reflections_in v)) (added_by-map command) ∙ flat-total (map_entry f) (map_witness f) (reflections_in w) (reflections_in v) reflections_in-map (added_by command))

module _ {M N : Type 0} (f : M → N) (w : WordsOf M) (v : WordsOf N) (keeps : KeepsWords Every f w v) where
  -- what names a name
  namings_in-map : (n : M) (declared : List M) (owner : OwnerOf M) (b : SequenceOf M) → namings_in v.tests.same (f n) (map f declared) (map_owner f owner) (map_sequence f b) ≡ mapped f (namings_in w.tests.same n declared owner b)
  namings_in-map n declared owner b =
      joined f (where_true (list_any (w.tests.same n) declared || list_any (w.tests.same n) b.temporaries) (AWhole owner)) (nodes_that (λ e. is_named_by w.tests.same n e.1) owner b) _ _
      (where-map f (list_any (w.tests.same n) declared || list_any (w.tests.same n) b.temporaries) (list_any (v.tests.same (f n)) (map f declared) || list_any (v.tests.same (f n)) (map f b.temporaries)) (AWhole owner) (AWhole (map_owner f owner))
      (λ i. among-map f w v keeps n declared i || among-map f w v keeps n b.temporaries i) refl)
      (nodes_that-map f (λ e. is_named_by w.tests.same n e.1) (λ e. is_named_by v.tests.same (f n) e.1) (λ e. is_named_by-map f w.tests.same v.tests.same (same-map f w v keeps) n e.1) owner b)

  pub namings_in_method-map : (n : M) (m : EntryOf M) → namings_in_method v.tests.same (f n) (map_entry f m) ≡ mapped f (namings_in_method w.tests.same n m)
  namings_in_method-map n m = namings_in-map n m.tree.arguments (InMethod m) m.tree.body

  pub namings-map : (i : ImageOf M) (n : M) → namings v.tests.same (map_image f i) (f n) ≡ mapped f (namings w.tests.same i n)
  namings-map i n =
      joined f (map a_class_of (filter (is_named_by_class w.tests.same n) i.classes)) (flat_map (namings_in_method w.tests.same n) i.methods ++ in_doits (namings_in w.tests.same n []) i) _ _
      (classes-map f (is_named_by_class w.tests.same n) (is_named_by_class v.tests.same (f n)) (is_named_by_class-map f w v keeps n) i.classes)
      (joined f (flat_map (namings_in_method w.tests.same n) i.methods) (in_doits (namings_in w.tests.same n []) i) _ _
      (flat-total (map_entry f) (map_witness f) (namings_in_method w.tests.same n) (namings_in_method v.tests.same (f n)) (namings_in_method-map n) i.methods)
      (in_doits-map f (namings_in w.tests.same n []) (namings_in v.tests.same (f n) []) (namings_in-map n []) i))

  -- what has a selector or sends it
  sendings-map : (s : M) (owner : OwnerOf M) (b : SequenceOf M) → nodes_that (λ e. is_sender v.tests.same (f s) e.1) (map_owner f owner) (map_sequence f b) ≡ mapped f (nodes_that (λ e. is_sender w.tests.same s e.1) owner b)
  sendings-map s =
      nodes_that-map f (λ e. is_sender w.tests.same s e.1) (λ e. is_sender v.tests.same (f s) e.1) (λ e. is_sender-map f w.tests.same v.tests.same (same-map f w v keeps) s e.1)

  speakings_in-map : (s : M) (m : EntryOf M) → speakings_in v.tests.same (f s) (map_entry f m) ≡ mapped f (speakings_in w.tests.same s m)
  speakings_in-map s m =
      joined f (where_true (w.tests.same s m.tree.selector) (a_method m)) (nodes_that (λ e. is_sender w.tests.same s e.1) (InMethod m) m.tree.body) _ _
      (where-map f (w.tests.same s m.tree.selector) (v.tests.same (f s) (f m.tree.selector)) (a_method m) (a_method (map_entry f m)) (same-map f w v keeps s m.tree.selector) refl)
      (sendings-map s (InMethod m) m.tree.body)

  pub speakings-map : (i : ImageOf M) (s : M) → speakings v.tests.same (map_image f i) (f s) ≡ mapped f (speakings w.tests.same i s)
  speakings-map i s =
      joined f (flat_map (speakings_in w.tests.same s) i.methods) (in_doits (nodes_that (λ e. is_sender w.tests.same s e.1)) i) _ _
      (flat-total (map_entry f) (map_witness f) (speakings_in w.tests.same s) (speakings_in v.tests.same (f s)) (speakings_in-map s) i.methods)
      (in_doits-map f (nodes_that (λ e. is_sender w.tests.same s e.1)) (nodes_that (λ e. is_sender v.tests.same (f s) e.1)) (sendings-map s) i)

  pub kernel_speakings-map : (a : CommandWordsOf M) (b : CommandWordsOf N) → KeepsCommandWords Every f a b → (i : ImageOf M) (s : M) → kernel_speakings v.tests.same b (map_image f i) (f s) ≡ mapped f (kernel_speakings w.tests.same a i s)
  kernel_speakings-map a b kept i s =
      joined f (flat_map (λ (m : EntryOf M). if m.kernel then speakings_in w.tests.same s m else []) i.methods) (where_true (a.has_own_meaning s) (ASelector s)) _ _
      (flat-total (map_entry f) (map_witness f) (λ (m : EntryOf M). if m.kernel then speakings_in w.tests.same s m else []) (λ (m : EntryOf N). if m.kernel then speakings_in v.tests.same (f s) m else [])
      (λ m. then-map f m.kernel m.kernel (speakings_in w.tests.same s m) (speakings_in v.tests.same (f s) (map_entry f m)) refl (speakings_in-map s m)) i.methods)
      (where-map f (a.has_own_meaning s) (b.has_own_meaning (f s)) (ASelector s) (ASelector (f s)) (kept.has_own_meaning s tt) refl)
