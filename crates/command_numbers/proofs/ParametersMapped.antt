-- What `addParameter` and `removeParameter` make of an image is the same once names are changed one to one.
use Rattle.std.proofs.Common.{◌≡◌, ℕ, zero, suc, ◌-◌, List, [], ◌∷◌, ◌++◌, map, remove, take, drop, refl, sym, ap, ◌∙◌}
use Rattle.std.specs.List.{list_any}
use Rattle.std.proofs.lemmas.List.{map-append, take-map, drop-map}
use Rattle.tree_model.specs.Tree.{LiteralOf, word, TreeOf, var, literal, send, cascade, assign, block, brace, return, TreesOf, no_trees, more_trees, MessagesOf, no_messages, more_messages, SequenceOf, MethodOf, map_literal, map_names, map_trees, map_messages, map_sequence, map_method}
use Rattle.tree_model.specs.Path.{append}
use Rattle.tree_model.specs.Nodes.{nodes}
use Rattle.tree_model.proofs.Children.{append-map_trees}
use Rattle.image_model.specs.Image.{EntryOf, DoItOf, ImageOf, map_entry, map_doit, map_image}
use Rattle.image_model.specs.Words.{WordsOf, KeepsWords}
use Rattle.image_model.specs.Uses.{is_sender}
use Rattle.rename_model.specs.Conditions.{speaks_of}
use Rattle.rename_model.specs.ClassRenamed.{WritingOf}
use Rattle.command_model.specs.Plain.{literal_node}
use Rattle.command_model.specs.Parameters.{without_nth, messages_passed, node_passed, sequence_passed, tree_passed, method_passed, doit_passed, passing_changed, parameter_added, parameter_removed}
use Rattle.command_numbers.specs.KeepsAsked.{KeepsWriting}
use Rattle.command_numbers.proofs.Lists.{chosen, map-total}
use Rattle.command_numbers.proofs.Everywhere.{Every}
use Rattle.command_numbers.proofs.Classes.{same-map}
use Rattle.command_numbers.proofs.NamesAsked.{speaks_of-map, doit_sends-map}
use Rattle.command_numbers.proofs.ChangedAtPlaces.{method_text, doit_text}
use Rattle.command_numbers.proofs.TreesRebuilt.{rebuilt_sequence-map}

module _ {M N : Type 0} (f : M → N) where
  -- a literal as a node
  pub literal_node-map : (l : LiteralOf M) → literal_node (map_literal f l) ≡ map_names f (literal_node l)
  literal_node-map (word n) = refl
  literal_node-map l = refl

  -- one more tree, and one less
  more-map : (l : LiteralOf M) (ts : TreesOf M) → append (map_trees f ts) (more_trees (literal_node (map_literal f l)) no_trees) ≡ map_trees f (append ts (more_trees (literal_node l) no_trees))
  more-map l ts =
      ap (λ (t : TreeOf N). append (map_trees f ts) (more_trees t no_trees)) (literal_node-map l) ∙ append-map_trees f ts (more_trees (literal_node l) no_trees)

  without_nth-map : (k : ℕ) (ts : TreesOf M) → without_nth k (map_trees f ts) ≡ map_trees f (without_nth k ts)
  without_nth-map k no_trees = refl
  without_nth-map zero (more_trees t ts) = refl
  without_nth-map (suc k) (more_trees t ts) = ap (more_trees (map_names f t)) (without_nth-map k ts)

  -- one more name, and one less
  last-map : (x : M) (ns : List M) → map f ns ++ f x ∷ [] ≡ map f (ns ++ x ∷ [])
  last-map x ns = sym (map-append f ns (x ∷ []))

  remove-map : (k : ℕ) (ns : List M) → remove (map f ns) k ≡ map f (remove ns k)
  remove-map k ns = (λ j. take-map f k ns j ++ drop-map f (suc k) ns j) ∙ sym (map-append f (take k ns) (drop (suc k) ns))

module _ {M N : Type 0} (f : M → N) (w : WordsOf M) (v : WordsOf N) (keeps : KeepsWords Every f w v) (writing : WritingOf M) (writing_there : WritingOf N) (written : KeepsWriting Every f writing writing_there) where
  module _ (s t : M) (passed : TreesOf M → TreesOf M) (passed_there : TreesOf N → TreesOf N) (taken : List M → List M) (taken_there : List N → List N) (passes : (ts : TreesOf M) → passed_there (map_trees f ts) ≡ map_trees f (passed ts)) (takes : (ns : List M) → taken_there (map f ns) ≡ map f (taken ns)) where
    messages_passed-map : (ms : MessagesOf M)
        → messages_passed v.tests.same writing_there (f s) (f t) passed_there taken_there (map_messages f ms) ≡ map_messages f (messages_passed w.tests.same writing s t passed taken ms)
    messages_passed-map no_messages = refl
    messages_passed-map (more_messages u args ms) =
        chosen (map_messages f) (w.tests.same s u) (v.tests.same (f s) (f u)) (more_messages t (passed args) (messages_passed w.tests.same writing s t passed taken ms)) (more_messages u args (messages_passed w.tests.same writing s t passed taken ms))
        (more_messages (f t) (passed_there (map_trees f args)) (messages_passed v.tests.same writing_there (f s) (f t) passed_there taken_there (map_messages f ms)))
        (more_messages (f u) (map_trees f args) (messages_passed v.tests.same writing_there (f s) (f t) passed_there taken_there (map_messages f ms)))
        (same-map f w v keeps s u) (λ i. more_messages (f t) (passes args i) (messages_passed-map ms i)) (λ i. more_messages (f u) (map_trees f args) (messages_passed-map ms i))

    node_passed-map : (n : TreeOf M) → node_passed v.tests.same writing_there (f s) (f t) passed_there taken_there (map_names f n) ≡ map_names f (node_passed w.tests.same writing s t passed taken n)
    node_passed-map (var n) = refl
    node_passed-map (literal l) = refl
    node_passed-map (send r u args) =
        chosen (map_names f) (w.tests.same s u) (v.tests.same (f s) (f u)) (send r t (passed args)) (send r u args) (send (map_names f r) (f t) (passed_there (map_trees f args))) (send (map_names f r) (f u) (map_trees f args))
        (same-map f w v keeps s u) (ap (send (map_names f r) (f t)) (passes args)) refl
    node_passed-map (cascade r ms) = ap (cascade (map_names f r)) (messages_passed-map ms)
    node_passed-map (assign n u) = refl
    node_passed-map (block ps ts ss d) = refl
    node_passed-map (brace ts) = refl
    node_passed-map (return u) = refl

    sequence_passed-map : (b : SequenceOf M)
        → sequence_passed v.tests.same writing_there (f s) (f t) passed_there taken_there (map_sequence f b) ≡ map_sequence f (sequence_passed w.tests.same writing s t passed taken b)
    sequence_passed-map b =
        rebuilt_sequence-map f (λ path n. node_passed w.tests.same writing s t passed taken n) (λ path n. node_passed v.tests.same writing_there (f s) (f t) passed_there taken_there n) (λ path n. node_passed-map n) b

    tree_passed-map : (m : MethodOf M) → tree_passed v.tests.same writing_there (f s) (f t) passed_there taken_there (map_method f m) ≡ map_method f (tree_passed w.tests.same writing s t passed taken m)
    tree_passed-map m =
        chosen (map_method f) (w.tests.same s m.selector) (v.tests.same (f s) (f m.selector))
        (record m { selector = t; arguments = taken m.arguments; body = sequence_passed w.tests.same writing s t passed taken m.body }) (record m { body = sequence_passed w.tests.same writing s t passed taken m.body })
        (record (map_method f m) { selector = f t; arguments = taken_there (map f m.arguments); body = sequence_passed v.tests.same writing_there (f s) (f t) passed_there taken_there (map_sequence f m.body) })
        (record (map_method f m) { body = sequence_passed v.tests.same writing_there (f s) (f t) passed_there taken_there (map_sequence f m.body) })
        (same-map f w v keeps s m.selector) (λ i. record (map_method f m) { selector = f t; arguments = takes m.arguments i; body = sequence_passed-map m.body i }) (λ i. record (map_method f m) { body = sequence_passed-map m.body i })

    method_passed-map : (m : EntryOf M) → method_passed v.tests.same writing_there (f s) (f t) passed_there taken_there (map_entry f m) ≡ map_entry f (method_passed w.tests.same writing s t passed taken m)
    method_passed-map m =
        chosen (map_entry f) (speaks_of w.tests.same s m) (speaks_of v.tests.same (f s) (map_entry f m)) (record m { tree = tree; source = writing.method_text tree }) m (record (map_entry f m) { tree = tree_there; source = writing_there.method_text tree_there }) (map_entry f m)
        (speaks_of-map f w v keeps s m) (λ i. record (map_entry f m) { tree = tree_passed-map m.tree i; source = method_text f w v keeps writing writing_there written tree tree_there (tree_passed-map m.tree) i }) refl
      where
        tree : MethodOf M
        tree = tree_passed w.tests.same writing s t passed taken m.tree

        tree_there : MethodOf N
        tree_there = tree_passed v.tests.same writing_there (f s) (f t) passed_there taken_there (map_method f m.tree)

    doit_passed-map : (d : DoItOf M) → doit_passed v.tests.same writing_there (f s) (f t) passed_there taken_there (map_doit f d) ≡ map_doit f (doit_passed w.tests.same writing s t passed taken d)
    doit_passed-map d =
        chosen (map_doit f) (list_any (λ e. is_sender w.tests.same s e.1) (nodes d.body)) (list_any (λ e. is_sender v.tests.same (f s) e.1) (nodes (map_sequence f d.body)))
        (record { body = body; source = writing.doit_text body }) d (record { body = body_there; source = writing_there.doit_text body_there }) (map_doit f d)
        (doit_sends-map f w v keeps s d) (λ i. record { body = sequence_passed-map d.body i; source = doit_text f w v keeps writing writing_there written body body_there (sequence_passed-map d.body) i }) refl
      where
        body : SequenceOf M
        body = sequence_passed w.tests.same writing s t passed taken d.body

        body_there : SequenceOf N
        body_there = sequence_passed v.tests.same writing_there (f s) (f t) passed_there taken_there (map_sequence f d.body)

    passing_changed-map : (i : ImageOf M) → passing_changed v.tests.same writing_there (f s) (f t) passed_there taken_there (map_image f i) ≡ map_image f (passing_changed w.tests.same writing s t passed taken i)
    passing_changed-map i = λ j. record (map_image f i) {
      methods = map-total (map_entry f) (map_entry f) (method_passed w.tests.same writing s t passed taken) (method_passed v.tests.same writing_there (f s) (f t) passed_there taken_there) method_passed-map i.methods j;
      doits = map-total (map_doit f) (map_doit f) (doit_passed w.tests.same writing s t passed taken) (doit_passed v.tests.same writing_there (f s) (f t) passed_there taken_there) doit_passed-map i.doits j;
    }

  -- an image with one argument more, and with one less
  pub parameter_added-map : (s t x : M) (l : LiteralOf M) (i : ImageOf M)
      → parameter_added v.tests.same writing_there (f s) (f t) (f x) (map_literal f l) (map_image f i) ≡ map_image f (parameter_added w.tests.same writing s t x l i)
  parameter_added-map s t x l i =
      passing_changed-map s t (λ args. append args (more_trees (literal_node l) no_trees)) (λ args. append args (more_trees (literal_node (map_literal f l)) no_trees)) (λ xs. xs ++ x ∷ []) (λ xs. xs ++ f x ∷ []) (more-map f l) (last-map f x) i

  pub parameter_removed-map : (s : M) (k : ℕ) (t : M) (i : ImageOf M) → parameter_removed v.tests.same writing_there (f s) k (f t) (map_image f i) ≡ map_image f (parameter_removed w.tests.same writing s k t i)
  parameter_removed-map s k t i =
      passing_changed-map s t (without_nth (k - 1)) (without_nth (k - 1)) (λ xs. remove xs (k - 1)) (λ xs. remove xs (k - 1)) (without_nth-map f (k - 1)) (remove-map f (k - 1)) i
