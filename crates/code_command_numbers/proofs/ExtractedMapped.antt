-- What `extractMethod` makes of an image is the same once names are changed one to one.
use Rattle.std.proofs.Common.{◌≡◌, Bool, not, ◌&&◌, List, [], ◌∷◌, map, filter, Option, None, refl, ap, ◌∙◌}
use Rattle.std.specs.Bool.{beq}
use Rattle.std.specs.List.{list_any}
use Rattle.std.specs.Option.{option_map_or}
use Rattle.tree_model.specs.Tree.{TreeOf, var, send, return, more_trees, trees_of, StatementsOf, no_statements, MethodOf, map_names, map_trees, map_statements, map_method}
use Rattle.tree_model.specs.Path.{part_in}
use Rattle.tree_model.specs.Normal.{normal}
use Rattle.tree_model.proofs.Parts.{part_in-map_sequence, method_replaced-map_method}
use Rattle.tree_model.proofs.NormalLemmas.{normal-map_method}
use Rattle.scope_model.specs.Scope.{local_in}
use Rattle.scope_model.specs.FreeNames.{free_names, free_names_of_run, run_of, statements_at}
use Rattle.scope_model.proofs.Changed.{free_names-map_names, free_names_of_run-map_statements}
use Rattle.image_model.specs.Image.{EntryOf, ImageOf, map_entry, map_image}
use Rattle.rename_model.specs.ClassRenamed.{WritingOf}
use Rattle.command_model.specs.Asked.{AskedOf}
use Rattle.command_model.specs.Hierarchy.{is_method_of}
use Rattle.command_model.specs.MethodEffects.{new_method}
use Rattle.command_model.specs.Parts.{Part, Expression, Run, beginning}
use Rattle.command_model.specs.Places.{is_local}
use Rattle.command_model.specs.Sequences.{single, put_in, with_tree}
use Rattle.command_model.specs.Extracted.{put_behind_last, statements_of_part, part_replaced, names_in, free_temporaries, call_of, method_of, method_extracted}
use Rattle.command_numbers.specs.KeepsAsked.{KeepsAsked, KeepsWriting}
use Rattle.command_numbers.proofs.Lists.{chosen, any-total, filter-total, made-total}
use Rattle.command_numbers.proofs.Everywhere.{Every, every_tree, every_statements}
use Rattle.command_numbers.proofs.Classes.{is_method_of-map}
use Rattle.command_numbers.proofs.ChangedAtPlaces.{method_text}
use Rattle.command_numbers.proofs.TemporariesMapped.{local_in-there, with_tree-map}
use Rattle.code_command_numbers.proofs.ScopesMapped.{statements_at-map}
use Rattle.code_command_numbers.proofs.SequencesMapped.{run_of-map, put_in-map, sequence_changed-map}

-- a further item behind the last one that passes
put_behind_last-map : {X Y : Type 0} (g : X → Y) (p : X → Bool) (q : Y → Bool) → ((x : X) → q (g x) ≡ p x) → (new : X) (xs : List X) → put_behind_last q (g new) (map g xs) ≡ map g (put_behind_last p new xs)
put_behind_last-map g p q e new [] = refl
put_behind_last-map g p q e new (x ∷ xs) =
    chosen (map g) (p x && not (list_any p xs)) (q (g x) && not (list_any q (map g xs))) (x ∷ new ∷ xs) (x ∷ put_behind_last p new xs) (g x ∷ g new ∷ map g xs) (g x ∷ put_behind_last q (g new) (map g xs))
    (λ i. e x i && not (any-total g p q e xs i)) refl (ap (λ (ys : List _). g x ∷ ys) (put_behind_last-map g p q e new xs))

module _ {M N : Type 0} (f : M → N) where
  -- the statements of a part
  pub statements_of_part-map : (m : MethodOf M) (part : Part) → statements_of_part (map_method f m) part ≡ map_statements f (statements_of_part m part)
  statements_of_part-map m (Expression path) =
      ap (λ (o : Option (TreeOf N)). option_map_or (λ t. single (return t)) o no_statements) (part_in-map_sequence f m.body path)
      ∙ made-total (map_names f) (map_statements f) (λ t. single (return t)) (λ t. single (return t)) no_statements no_statements (λ t. refl) refl (part_in m.body path)
  statements_of_part-map m (Run path first count) =
      ap (λ (ss : StatementsOf N). run_of ss first count) (statements_at-map f m.body path) ∙ run_of-map f (statements_at m.body path) first count

  -- an expression in place of a part
  pub part_replaced-map : (m : MethodOf M) (part : Part) (t : TreeOf M) → part_replaced (map_method f m) part (map_names f t) ≡ map_method f (part_replaced m part t)
  part_replaced-map m (Expression path) t = method_replaced-map_method f m path t
  part_replaced-map m (Run path first count) t = sequence_changed-map f (put_in first count (single t)) (put_in first count (single (map_names f t))) (put_in-map f first count (single t)) path m

  -- names as arguments
  names_passed : (ns : List M) → trees_of (map (λ (n : N). var n) (map f ns)) ≡ map_trees f (trees_of (map (λ (n : M). var n) ns))
  names_passed [] = refl
  names_passed (n ∷ ns) = ap (more_trees (var (f n))) (names_passed ns)

module _ {M N : Type 0} (f : M → N) (a : AskedOf M) (b : AskedOf N) (keeps : KeepsAsked Every f a b) where
  -- the names of a part
  names_in-map : (m : MethodOf M) (part : Part) → names_in b (map_method f m) part ≡ map f (names_in a m part)
  names_in-map m (Expression path) =
      ap (λ (o : Option (TreeOf N)). option_map_or (free_names b.words.tests.same b.words.tests.is_pseudo) o []) (part_in-map_sequence f m.body path)
      ∙ made-total (map_names f) (map f) (free_names a.words.tests.same a.words.tests.is_pseudo) (free_names b.words.tests.same b.words.tests.is_pseudo) [] []
      (λ t. free_names-map_names Every f a.words.tests b.words.tests keeps.words.tests t (every_tree Every (λ n. tt) t)) refl (part_in m.body path)
  names_in-map m (Run path first count) =
      ap (free_names_of_run b.words.tests.same b.words.tests.is_pseudo) (statements_of_part-map f m (Run path first count))
      ∙ free_names_of_run-map_statements Every f a.words.tests b.words.tests keeps.words.tests (run_of (statements_at m.body path) first count) (every_statements Every (λ n. tt) (run_of (statements_at m.body path) first count))

  -- those that a method declares
  pub free_temporaries-map : (m : MethodOf M) (part : Part) → free_temporaries b (map_method f m) part ≡ map f (free_temporaries a m part)
  free_temporaries-map m part =
      ap (filter (λ n. is_local (local_in b.words.tests.same b.words.tests.is_pseudo (map_method f m) (beginning part) n))) (names_in-map m part)
      ∙ filter-total f (λ n. is_local (local_in a.words.tests.same a.words.tests.is_pseudo m (beginning part) n)) (λ n. is_local (local_in b.words.tests.same b.words.tests.is_pseudo (map_method f m) (beginning part) n))
      (λ n. ap is_local (local_in-there f a.words b.words keeps.words m (beginning part) n)) (names_in a m part)

  -- the method that a part becomes
  pub method_of-map : (t : M) (m : MethodOf M) (part : Part) → method_of b (f t) (map_method f m) part ≡ map_method f (method_of a t m part)
  method_of-map t m part =
      (λ i. normal (record {
        selector = f t;
        arguments = free_temporaries-map m part i;
        head = [];
        primitive = None;
        body = record { temporaries = []; statements = statements_of_part-map f m part i; tail = [] };
      }))
      ∙ normal-map_method f (record {
        selector = t;
        arguments = free_temporaries a m part;
        head = [];
        primitive = None;
        body = record { temporaries = []; statements = statements_of_part m part; tail = [] };
      })

  module _ (is_self : b.self_name ≡ f a.self_name) where
    -- the message in place of a part
    pub call_of-map : (t : M) (m : MethodOf M) (part : Part) → call_of b (f t) (map_method f m) part ≡ map_names f (call_of a t m part)
    call_of-map t m part =
        (λ i. send (var (is_self i)) (f t) (trees_of (map (λ (n : N). var n) (free_temporaries-map m part i))))
        ∙ ap (send (var (f a.self_name)) (f t)) (names_passed f (free_temporaries a m part))

    module _ (writing : WritingOf M) (writing_there : WritingOf N) (written : KeepsWriting Every f writing writing_there) where
      -- an image with a part as a method
      pub method_extracted-map : (c : M) (meta : Bool) (s : M) (m : EntryOf M) (part : Part) (t : M) (i : ImageOf M)
          → method_extracted b writing_there (f c) meta (f s) (map_entry f m) part (f t) (map_image f i) ≡ map_image f (method_extracted a writing c meta s m part t i)
      method_extracted-map c meta s m part t i =
          (λ j. record (changes j) { methods = put_behind_last of_class_there (new j) (changes j).methods })
          ∙ (λ j. record (map_image f changed) { methods = put_behind_last-map (map_entry f) of_class of_class_there same_class (new_method c meta m.protocol (writing.method_text tree) tree) changed.methods j })
        where
          tree : MethodOf M
          tree = method_of a t m.tree part

          of_class : EntryOf M → Bool
          of_class e = is_method_of a.words.tests.same c e && beq meta e.meta

          of_class_there : EntryOf N → Bool
          of_class_there e = is_method_of b.words.tests.same (f c) e && beq meta e.meta

          same_class : (e : EntryOf M) → of_class_there (map_entry f e) ≡ of_class e
          same_class e = ap (λ (k : Bool). k && beq meta e.meta) (is_method_of-map f a.words b.words keeps.words c e)

          changed : ImageOf M
          changed = with_tree a.words.tests.same writing c meta s (part_replaced m.tree part (call_of a t m.tree part)) i

          changes : with_tree b.words.tests.same writing_there (f c) meta (f s) (part_replaced (map_method f m.tree) part (call_of b (f t) (map_method f m.tree) part)) (map_image f i) ≡ map_image f changed
          changes =
              ap (λ (k : MethodOf N). with_tree b.words.tests.same writing_there (f c) meta (f s) k (map_image f i))
              (ap (part_replaced (map_method f m.tree) part) (call_of-map t m.tree part) ∙ part_replaced-map f m.tree part (call_of a t m.tree part))
              ∙ with_tree-map f a.words b.words keeps.words writing writing_there written c meta s (part_replaced m.tree part (call_of a t m.tree part)) i

          new : new_method (f c) meta m.protocol (writing_there.method_text (method_of b (f t) (map_method f m.tree) part)) (method_of b (f t) (map_method f m.tree) part) ≡ map_entry f (new_method c meta m.protocol (writing.method_text tree) tree)
          new =
              λ j. new_method (f c) meta m.protocol (method_text f a.words b.words keeps.words writing writing_there written tree (method_of b (f t) (map_method f m.tree) part) (method_of-map t m.tree part) j) (method_of-map t m.tree part j)
