-- What `abstractInstVar` makes of an image is the same once names are changed one to one.
use Rattle.std.proofs.Common.{◌≡◌, ℕ, Bool, false, ◌&&◌, List, [], ◌∷◌, map, refl, sym, ap, ◌∙◌}
use Rattle.std.proofs.lemmas.List.{map-append}
use Rattle.tree_model.specs.Tree.{var, literal, send, cascade, assign, block, brace, return, no_trees, more_trees, SequenceOf, MethodOf, map_names, map_sequence, map_method}
use Rattle.image_model.specs.Image.{EntryOf, DoItOf, ImageOf, map_entry, map_doit, map_image}
use Rattle.image_model.specs.Words.{WordsOf, KeepsWords}
use Rattle.image_model.specs.Means.{of_instance, MeaningOf, map_meaning, means, means_in_doit}
use Rattle.rename_model.specs.ClassRenamed.{WritingOf}
use Rattle.rename_model.specs.VariableRenamed.{is_it}
use Rattle.command_model.specs.Walk.{rebuilt_sequence, rebuilt_method}
use Rattle.command_model.specs.MethodEffects.{new_method, method_added}
use Rattle.command_model.specs.Accessors.{getter, setter_of, accessing, made, is_meant, method_made, doit_made, variable_abstracted}
use Rattle.command_numbers.specs.KeepsAsked.{KeepsWriting}
use Rattle.command_numbers.proofs.Lists.{chosen, map-total}
use Rattle.command_numbers.proofs.Everywhere.{Every}
use Rattle.command_numbers.proofs.NodesAsked.{is_variable-map}
use Rattle.command_numbers.proofs.Classes.{same-map}
use Rattle.command_numbers.proofs.UsesAsked.{means-there, means_in_doit-there}
use Rattle.command_numbers.proofs.ChangedAtPlaces.{method_text, doit_text, some_use}
use Rattle.command_numbers.proofs.TreesRebuilt.{IsMadeAlike, rebuilt_sequence-map, rebuilt_method-map}

-- an image with one more method
method_added-map : {M N : Type 0} (f : M → N) (c : M) (meta : Bool) (protocol text : List ℕ) (tree : MethodOf M) (i : ImageOf M)
    → method_added (f c) meta protocol text (map_method f tree) (map_image f i) ≡ map_image f (method_added c meta protocol text tree i)
method_added-map f c meta protocol text tree i = λ j. record (map_image f i) { methods = sym (map-append (map_entry f) i.methods (new_method c meta protocol text tree ∷ [])) j }

module _ {M N : Type 0} (f : M → N) (w : WordsOf M) (v : WordsOf N) (keeps : KeepsWords Every f w v) (writing : WritingOf M) (writing_there : WritingOf N) (written : KeepsWriting Every f writing writing_there) (self_name c x setter given : M) (i : ImageOf M) where
  -- whether a name is that of the variable
  is_it-map : (m : MeaningOf M) (n : M) → is_it v writing_there (map_image f i) of_instance (f c) (f x) (f x) (map_meaning f m) (f n) ≡ is_it w writing i of_instance c x x m n
  is_it-map m n = λ j. same-map f w v keeps x n j && is_variable-map f w.tests.same v.tests.same (same-map f w v keeps) of_instance c m j

  module _ (at : List ℕ → M → MeaningOf M) (at_there : List ℕ → N → MeaningOf N) (u : (path : List ℕ) (n : M) → at_there path (f n) ≡ map_meaning f (at path n)) where
    it_there : (path : List ℕ) (n : M) → is_it v writing_there (map_image f i) of_instance (f c) (f x) (f x) (at_there path (f n)) (f n) ≡ is_it w writing i of_instance c x x (at path n) n
    it_there path n = ap (λ (m : MeaningOf N). is_it v writing_there (map_image f i) of_instance (f c) (f x) (f x) m (f n)) (u path n) ∙ is_it-map (at path n) n

    -- what becomes of a node
    made-map : IsMadeAlike f (made w writing self_name c x setter given i at) (made v writing_there (f self_name) (f c) (f x) (f setter) (f given) (map_image f i) at_there)
    made-map path (var n) =
        chosen (map_names f) (is_it w writing i of_instance c x x (at path n) n) (is_it v writing_there (map_image f i) of_instance (f c) (f x) (f x) (at_there path (f n)) (f n))
        (send (var self_name) x no_trees) (var n) (send (var (f self_name)) (f x) no_trees) (var (f n)) (it_there path n) refl refl
    made-map path (assign n t) =
        chosen (map_names f) (is_it w writing i of_instance c x x (at path n) n) (is_it v writing_there (map_image f i) of_instance (f c) (f x) (f x) (at_there path (f n)) (f n))
        (send (var self_name) setter (more_trees t no_trees)) (assign n t) (send (var (f self_name)) (f setter) (more_trees (map_names f t) no_trees)) (assign (f n) (map_names f t)) (it_there path n) refl refl
    made-map path (literal l) = refl
    made-map path (send r s args) = refl
    made-map path (cascade r ms) = refl
    made-map path (block ps ts ss d) = refl
    made-map path (brace ts) = refl
    made-map path (return t) = refl

    pub is_meant-map : (b : SequenceOf M) → is_meant v writing_there (f self_name) (f c) (f x) (f setter) (f given) (map_image f i) at_there (map_sequence f b) ≡ is_meant w writing self_name c x setter given i at b
    is_meant-map b = some_use f w v keeps writing writing_there written (is_it w writing i of_instance c x x) (is_it v writing_there (map_image f i) of_instance (f c) (f x) (f x)) is_it-map at at_there u b

  -- a method, and a do-it
  pub method_made-map : (m : EntryOf M) → method_made v writing_there (f self_name) (f c) (f x) (f setter) (f given) (map_image f i) (map_entry f m) ≡ map_entry f (method_made w writing self_name c x setter given i m)
  method_made-map m =
      chosen (map_entry f) (is_meant w writing self_name c x setter given i (means w i m) m.tree.body) (is_meant v writing_there (f self_name) (f c) (f x) (f setter) (f given) (map_image f i) (means v (map_image f i) (map_entry f m)) (map_sequence f m.tree.body))
      (record m { tree = tree; source = writing.method_text tree }) m (record (map_entry f m) { tree = tree_there; source = writing_there.method_text tree_there }) (map_entry f m)
      (is_meant-map (means w i m) (means v (map_image f i) (map_entry f m)) (means-there f w v keeps i m) m.tree.body)
      (λ j. record (map_entry f m) { tree = trees j; source = method_text f w v keeps writing writing_there written tree tree_there trees j }) refl
    where
      tree : MethodOf M
      tree = rebuilt_method (made w writing self_name c x setter given i (means w i m)) m.tree

      tree_there : MethodOf N
      tree_there = rebuilt_method (made v writing_there (f self_name) (f c) (f x) (f setter) (f given) (map_image f i) (means v (map_image f i) (map_entry f m))) (map_method f m.tree)

      trees : tree_there ≡ map_method f tree
      trees =
          rebuilt_method-map f (made w writing self_name c x setter given i (means w i m)) (made v writing_there (f self_name) (f c) (f x) (f setter) (f given) (map_image f i) (means v (map_image f i) (map_entry f m)))
          (made-map (means w i m) (means v (map_image f i) (map_entry f m)) (means-there f w v keeps i m)) m.tree

  pub doit_made-map : (d : DoItOf M) → doit_made v writing_there (f self_name) (f c) (f x) (f setter) (f given) (map_image f i) (map_doit f d) ≡ map_doit f (doit_made w writing self_name c x setter given i d)
  doit_made-map d =
      chosen (map_doit f) (is_meant w writing self_name c x setter given i (means_in_doit w i d) d.body) (is_meant v writing_there (f self_name) (f c) (f x) (f setter) (f given) (map_image f i) (means_in_doit v (map_image f i) (map_doit f d)) (map_sequence f d.body))
      (record { body = body; source = writing.doit_text body }) d (record { body = body_there; source = writing_there.doit_text body_there }) (map_doit f d)
      (is_meant-map (means_in_doit w i d) (means_in_doit v (map_image f i) (map_doit f d)) (means_in_doit-there f w v keeps i d) d.body)
      (λ j. record { body = bodies j; source = doit_text f w v keeps writing writing_there written body body_there bodies j }) refl
    where
      body : SequenceOf M
      body = rebuilt_sequence (made w writing self_name c x setter given i (means_in_doit w i d)) d.body

      body_there : SequenceOf N
      body_there = rebuilt_sequence (made v writing_there (f self_name) (f c) (f x) (f setter) (f given) (map_image f i) (means_in_doit v (map_image f i) (map_doit f d))) (map_sequence f d.body)

      bodies : body_there ≡ map_sequence f body
      bodies =
          rebuilt_sequence-map f (made w writing self_name c x setter given i (means_in_doit w i d)) (made v writing_there (f self_name) (f c) (f x) (f setter) (f given) (map_image f i) (means_in_doit v (map_image f i) (map_doit f d)))
          (made-map (means_in_doit w i d) (means_in_doit v (map_image f i) (map_doit f d)) (means_in_doit-there f w v keeps i d)) d.body

  -- an image with a getter and a setter
  pub variable_abstracted-map : variable_abstracted v writing_there (f self_name) (f c) (f x) (f setter) (f given) (map_image f i) ≡ map_image f (variable_abstracted w writing self_name c x setter given i)
  variable_abstracted-map =
      (λ j. method_added (f c) false accessing (method_text f w v keeps writing writing_there written (setter_of x setter given) (setter_of (f x) (f setter) (f given)) refl j) (setter_of (f x) (f setter) (f given))
      (method_added (f c) false accessing (method_text f w v keeps writing writing_there written (getter x) (getter (f x)) refl j) (getter (f x)) (changes j)))
      ∙ ap (method_added (f c) false accessing (writing.method_text (setter_of x setter given)) (setter_of (f x) (f setter) (f given)))
      (method_added-map f c false accessing (writing.method_text (getter x)) (getter x) changed)
      ∙ method_added-map f c false accessing (writing.method_text (setter_of x setter given)) (setter_of x setter given) (method_added c false accessing (writing.method_text (getter x)) (getter x) changed)
    where
      changed : ImageOf M
      changed = record i { methods = map (method_made w writing self_name c x setter given i) i.methods; doits = map (doit_made w writing self_name c x setter given i) i.doits }

      changes : record (map_image f i) { methods = map (method_made v writing_there (f self_name) (f c) (f x) (f setter) (f given) (map_image f i)) (map (map_entry f) i.methods); doits = map (doit_made v writing_there (f self_name) (f c) (f x) (f setter) (f given) (map_image f i)) (map (map_doit f) i.doits) }
          ≡ map_image f changed
      changes = λ j. record (map_image f i) {
        methods = map-total (map_entry f) (map_entry f) (method_made w writing self_name c x setter given i) (method_made v writing_there (f self_name) (f c) (f x) (f setter) (f given) (map_image f i)) method_made-map i.methods j;
        doits = map-total (map_doit f) (map_doit f) (doit_made w writing self_name c x setter given i) (doit_made v writing_there (f self_name) (f c) (f x) (f setter) (f given) (map_image f i)) doit_made-map i.doits j;
      }
