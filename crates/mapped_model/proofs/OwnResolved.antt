-- Code of an image has no variables, once its names are resolved, but those of its class and of the classes above.
use Rattle.std.proofs.Common.{ℕ, suc, ◌+◌, List, [], ◌∷◌, length, Option, Some, None, refl, subst}
use Rattle.std.specs.Prelude.{Bool, true, false, ◌||◌, if◌then◌else◌, IsTrue, cond, find, option_map, unwrap_or}
use Rattle.std.specs.List.{list_any}
use Rattle.std.specs.Option.{option_or}
use Rattle.std.proofs.lemmas.Bool.{false≢true}
use Rattle.rb_base.specs.Names.{text_eq}
use Rattle.tree_model.specs.Tree.{TreeOf, var, literal, send, cascade, assign, block, brace, return, TreesOf, no_trees, more_trees, MessagesOf, no_messages, more_messages, StatementsOf, no_statements, more_statements}
use Rattle.tree_model.specs.Path.{count}
use Rattle.scope_model.specs.declared.local.Local.{Local}
use Rattle.scope_model.specs.declared.local.Local.TheVariants.{Argument, Temporary, NotLocal}
use Rattle.scope_model.specs.Scope.{local_in, local_in_doit, method_scope, doit_scope}
use Rattle.image_model.specs.Image.{ClassOf, EntryOf, DoItOf, ImageOf}
use Rattle.image_model.specs.ImageNames.{OptionNames}
use Rattle.image_model.specs.Words.{text_words}
use Rattle.image_model.specs.Chain.{superclass_of, chain_from, chain}
use Rattle.image_model.specs.Means.{VariableKind, of_instance, of_class_side, of_class, variables, MeaningOf, pseudo, argument, temporary, variable, a_class, transcript, undeclared, definer, side_kind, means_by, means_outside}
use Rattle.image_model.proofs.UpwardsLemmas.{upwards-none}
use Rattle.run_model.specs.Values.{Name}
use Rattle.run_model.specs.Store.{same_pair}
use Rattle.run_model.proofs.Finite.{and-true_both, any-map, any-flat_map}
use Rattle.run_model.proofs.RenamingLemmas.{text-same}
use Rattle.run_model.specs.Runs.{doit_class}
use Rattle.resolved_model.specs.Resolving.{MeantAt, below, reference_of, target_of, resolved, resolved_trees, resolved_messages, resolved_statements, meant_in, meant_in_doit, resolved_method, resolved_doit}
use Rattle.resolved_model.specs.ResolvedImages.{doing_of}
use Rattle.mapped_model.specs.MappedImages.{class_or_none}
use Rattle.mapped_model.specs.OwnVariables.{OwnReference, OwnTarget, OwnTree, OwnTrees, OwnMessages, OwnStatements, OwnDoing}
use Rattle.mapped_model.specs.NamesInUse.{IsAmong, IsAmongPairs, HasInstance, HasClassSide}
use Rattle.mapped_model.specs.NamesOfImages.{variables_along, variables_with, variables_of, names_in}

-- what is found is some item that passes the test
pub found-any : {X : Type 0} (p : X → Bool) (xs : List X) → OptionNames (λ x. IsTrue (list_any p xs)) (find p xs)
found-any p [] = tt
found-any p (x ∷ xs) = by (p x) (found-any p xs)
  where
    by : (b : Bool) → OptionNames (λ y. IsTrue (list_any p xs)) (find p xs) → OptionNames (λ y. IsTrue (b || list_any p xs)) (cond b (Some x) (find p xs))
    by true h = refl
    by false h = h

module _ (i : ImageOf Name) where
  -- a class of a name that has a variable
  pub pair-in : (kind : VariableKind) (d n : Name) → IsTrue (list_any (λ (c : ClassOf Name). text_eq d c.name) i.classes) → IsAmong (variables_along i kind d) n → IsAmongPairs (variables_of i kind) (d, n)
  pair-in kind d n h t =
      any-flat_map (λ (c : ClassOf Name). text_eq d c.name) (same_pair (d, n)) (variables_with i kind)
      (λ c e. any-map (text_eq n) (same_pair (d, n)) (λ x. (c.name, x)) (λ x q. and-true_both (text_eq d c.name) (text_eq n x) e q) (variables_along i kind c.name) (subst (λ z. IsAmong (variables_along i kind z) n) (text-same d c.name e) t))
      i.classes h

  -- some class of a chain defines a name
  abbrev DefinedOn : VariableKind → Name → List (ClassOf Name) → Type 0
  DefinedOn kind n cs = IsTrue (list_any (λ (c : ClassOf Name). list_any (text_eq n) (variables kind c)) cs)

  -- nothing is defined on the chain of no class
  none-defined : (kind : VariableKind) (n : Name) → DefinedOn kind n (chain_from text_eq i.classes None) → ⊥
  none-defined kind n t = false≢true (subst (λ cs. DefinedOn kind n cs) (upwards-none (superclass_of text_eq i.classes) (length i.classes)) t)

  -- there is a class on whose chain something is defined
  class-there : (kind : VariableKind) (d n : Name) (o : Option (ClassOf Name)) → OptionNames (λ (c : ClassOf Name). IsTrue (list_any (λ (b : ClassOf Name). text_eq d b.name) i.classes)) o → DefinedOn kind n (chain_from text_eq i.classes o) → IsTrue (list_any (λ (b : ClassOf Name). text_eq d b.name) i.classes)
  class-there kind d n (Some c) h t = h
  class-there kind d n None h t = absurd (none-defined kind n t)

  -- a name that is defined on the chain of a class is a variable of it
  defined-in : (kind : VariableKind) (o : Option Name) (n : Name) → DefinedOn kind n (chain text_eq i.classes o) → IsAmongPairs (variables_of i kind) (class_or_none o, n)
  defined-in kind None n t = absurd (none-defined kind n t)
  defined-in kind (Some d) n t =
      pair-in kind d n (class-there kind d n (find (λ (c : ClassOf Name). text_eq d c.name) i.classes) (found-any (λ (c : ClassOf Name). text_eq d c.name) i.classes) t)
      (any-flat_map (λ (c : ClassOf Name). list_any (text_eq n) (variables kind c)) (text_eq n) (variables kind) (λ c e. e) (chain text_eq i.classes (Some d)) t)

  -- code of a class and side
  module _ (o : Option Name) (meta : Bool) where
    -- its own instance variables and class-instance variables
    abbrev Instance : Name → Type 0
    Instance n = HasInstance (names_in i) (class_or_none o) n

    abbrev ClassSide : Name → Type 0
    ClassSide n = HasClassSide (names_in i) (class_or_none o) meta n

    -- a meaning is no variable but one of these
    abbrev OwnMeaning : Name → MeaningOf Name → Type 0
    OwnMeaning n (variable of_instance d) = Instance n
    OwnMeaning n (variable of_class_side d) = ClassSide n
    OwnMeaning n (variable of_class d) = Unit {0}
    OwnMeaning n pseudo = Unit {0}
    OwnMeaning n (argument s) = Unit {0}
    OwnMeaning n (temporary s) = Unit {0}
    OwnMeaning n (a_class d) = Unit {0}
    OwnMeaning n transcript = Unit {0}
    OwnMeaning n undeclared = Unit {0}

    -- what is read, and what is assigned
    reference-own : (g : MeaningOf Name) (k : ℕ) (n : Name) → OwnMeaning n g → OwnReference Instance ClassSide (reference_of g k n)
    reference-own (variable of_instance d) k n h = h
    reference-own (variable of_class_side d) k n h = h
    reference-own (variable of_class d) k n h = tt
    reference-own pseudo k n h = tt
    reference-own (argument s) k n h = tt
    reference-own (temporary s) k n h = tt
    reference-own (a_class d) k n h = tt
    reference-own transcript k n h = tt
    reference-own undeclared k n h = tt

    target-own : (g : MeaningOf Name) (k : ℕ) (n : Name) → OwnMeaning n g → OwnTarget Instance ClassSide (target_of g k n)
    target-own (variable of_instance d) k n h = h
    target-own (variable of_class_side d) k n h = h
    target-own (variable of_class d) k n h = tt
    target-own pseudo k n h = tt
    target-own (argument s) k n h = tt
    target-own (temporary s) k n h = tt
    target-own (a_class d) k n h = tt
    target-own transcript k n h = tt
    target-own undeclared k n h = tt

    -- what each name means where a path leads
    abbrev Owns : MeantAt → Type 0
    Owns at = (path : List ℕ) (n : Name) → OwnMeaning n (at path n).meaning

    mutual
      -- a node
      tree-own : (at : MeantAt) → Owns at → (t : TreeOf Name) → OwnTree Instance ClassSide (resolved at t)
      tree-own at h (var n) = reference-own (at [] n).meaning (at [] n).place n (h [] n)
      tree-own at h (literal l) = tt
      tree-own at h (send r s args) = (tree-own (below 0 at) (λ p n. h (0 ∷ p) n) r, trees-own at h 1 args)
      tree-own at h (cascade r ms) = (tree-own (below 0 at) (λ p n. h (0 ∷ p) n) r, messages-own at h 1 ms)
      tree-own at h (assign n t) = (target-own (at [] n).meaning (at [] n).place n (h [] n), tree-own (below 0 at) (λ p m. h (0 ∷ p) m) t)
      tree-own at h (block ps ts ss e) = statements-own at h 0 ss
      tree-own at h (brace ts) = trees-own at h 0 ts
      tree-own at h (return t) = tree-own (below 0 at) (λ p n. h (0 ∷ p) n) t

      trees-own : (at : MeantAt) → Owns at → (k : ℕ) (ts : TreesOf Name) → OwnTrees Instance ClassSide (resolved_trees at k ts)
      trees-own at h k no_trees = tt
      trees-own at h k (more_trees t ts) = (tree-own (below k at) (λ p n. h (k ∷ p) n) t, trees-own at h (suc k) ts)

      messages-own : (at : MeantAt) → Owns at → (k : ℕ) (ms : MessagesOf Name) → OwnMessages Instance ClassSide (resolved_messages at k ms)
      messages-own at h k no_messages = tt
      messages-own at h k (more_messages s args ms) = (trees-own at h k args, messages-own at h (k + count args) ms)

      statements-own : (at : MeantAt) → Owns at → (k : ℕ) (ss : StatementsOf Name) → OwnStatements Instance ClassSide (resolved_statements at k ss)
      statements-own at h k no_statements = tt
      statements-own at h k (more_statements c t ss) = (tree-own (below k at) (λ p n. h (k ∷ p) n) t, statements-own at h (suc k) ss)

    -- what a name means by scopes, or outside them
    by-scopes : (n : Name) (b : Bool) (l : Local) (outside : MeaningOf Name) → OwnMeaning n outside → OwnMeaning n (if b then pseudo else means_by l outside)
    by-scopes n true l outside h = tt
    by-scopes n false (Argument s) outside h = tt
    by-scopes n false (Temporary s) outside h = tt
    by-scopes n false NotLocal outside h = h

  -- a variable of the side
  abbrev OfSide : Option Name → Bool → Name → Type 0
  OfSide o true n = HasClassSide (names_in i) (class_or_none o) true n
  OfSide o false n = HasInstance (names_in i) (class_or_none o) n

  -- by what is found
  outside-by : (o : Option Name) (meta : Bool) (n : Name) (side shared named : Option (ClassOf Name)) (b : Bool) → OptionNames (λ (c : ClassOf Name). OfSide o meta n) side →
      OwnMeaning o meta n (unwrap_or (option_or (option_map (λ (c : ClassOf Name). variable (side_kind meta) c.name) side) (option_or (option_map (λ (c : ClassOf Name). variable of_class c.name) shared) (option_or (option_map (λ (c : ClassOf Name). a_class c.name) named) (if b then Some transcript else None)))) undeclared)
  outside-by o true n (Some c) shared named b h = h
  outside-by o false n (Some c) shared named b h = h
  outside-by o meta n None (Some c) named b h = tt
  outside-by o meta n None None (Some c) b h = tt
  outside-by o meta n None None None true h = tt
  outside-by o meta n None None None false h = tt

  -- a class on whose chain a name is found as a variable of the side
  side-own : (o : Option Name) (meta : Bool) (n : Name) (c : Option (ClassOf Name)) → OptionNames (λ (d : ClassOf Name). DefinedOn (side_kind meta) n (chain text_eq i.classes o)) c → OptionNames (λ (d : ClassOf Name). OfSide o meta n) c
  side-own o true n (Some c) h = (refl, defined-in of_class_side o n h)
  side-own o false n (Some c) h = defined-in of_instance o n h
  side-own o meta n None h = tt

  -- what a name means outside all scopes
  outside-own : (o : Option Name) (meta : Bool) (n : Name) → OwnMeaning o meta n (means_outside text_words i o meta n)
  outside-own o meta n =
      outside-by o meta n (definer text_eq (side_kind meta) (chain text_eq i.classes o) n) (definer text_eq of_class (chain text_eq i.classes o) n) (find (λ (c : ClassOf Name). text_eq n c.name) i.classes) (text_words.is_transcript n)
      (side-own o meta n (definer text_eq (side_kind meta) (chain text_eq i.classes o) n) (found-any (λ (c : ClassOf Name). list_any (text_eq n) (variables (side_kind meta) c)) (chain text_eq i.classes o)))

  -- what a method does
  pub method-own : (m : EntryOf Name) → OwnDoing (Instance m.class m.meta) (ClassSide m.class m.meta) (doing_of i m m.tree.primitive)
  unfolding resolved_method
  method-own m = by m.tree.primitive
    where
      by : (p : Option ℕ) → OwnDoing (Instance m.class m.meta) (ClassSide m.class m.meta) (doing_of i m p)
      by (Some k) = tt
      by None =
          statements-own m.class m.meta (meant_in i m)
          (λ path n. by-scopes m.class m.meta n (text_words.tests.is_pseudo n) (local_in text_words.tests.same text_words.tests.is_pseudo m.tree path n) (means_outside text_words i m.class m.meta n) (outside-own m.class m.meta n)) 0 (method_scope m.tree).statements

  -- a do-it
  pub doit-own : (d : DoItOf Name) → OwnStatements (Instance (doit_class i) false) (ClassSide (doit_class i) false) (resolved_doit i d).statements
  unfolding resolved_doit
  doit-own d =
      statements-own (doit_class i) false (meant_in_doit i d)
      (λ path n. by-scopes (doit_class i) false n (text_words.tests.is_pseudo n) (local_in_doit text_words.tests.same text_words.tests.is_pseudo d.body path n) (means_outside text_words i (doit_class i) false n) (outside-own (doit_class i) false n)) 0 (doit_scope d.body).statements
