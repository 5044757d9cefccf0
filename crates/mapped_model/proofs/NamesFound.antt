-- An image has no names of classes, selectors and class variables but those that are collected.
use Rattle.std.proofs.Common.{◌≡◌, List, [], ◌∷◌, ◌++◌, Option, Some, None, ap, ◌∙◌}
use Rattle.std.specs.Prelude.{Bool, true, ◌||◌, IsTrue, flat_map}
use Rattle.std.specs.List.{AllByRecursion, list_any}
use Rattle.std.proofs.lemmas.List.Folds.{list_any-append}
use Rattle.rb_base.specs.Names.{text_eq}
use Rattle.rb_base.proofs.NamesLemmas.{text_eq-refl}
use Rattle.scope_model.specs.SpecialNames.{one_block_selectors, two_block_selectors, loop_selectors}
use Rattle.image_model.specs.Image.{ClassOf, ImageOf}
use Rattle.image_model.proofs.Lists.{all-implies}
use Rattle.run_model.specs.Values.{Name}
use Rattle.run_model.specs.Store.{same_pair}
use Rattle.run_model.specs.ObjectPrimitives.{value_classes}
use Rattle.run_model.specs.Renamings.{OfClass}
use Rattle.run_model.proofs.RenamingLemmas.{pair-refl}
use Rattle.resolved_model.specs.ResolvedTrees.{Reference, of_word, of_local, of_instance_variable, of_class_side_variable, of_class_variable, of_named_class, of_transcript, of_nothing, Target, to_temporary, to_instance_variable, to_class_side_variable, to_class_variable, to_fixed, to_nothing, ResolvedTree, reading, constant, sending, cascading, assigning, block_of, brace_of, returning, ResolvedTrees, no_nodes, more_nodes, ResolvedMessages, no_sends, more_sends, ResolvedStatements, no_lines, more_lines}
use Rattle.resolved_model.specs.ResolvedImages.{Doing, by_primitive, by_code, ResolvedMethod, resolved_image}
use Rattle.mapped_model.specs.NamesInUse.{NamesInUse, IsAmong, IsAmongPairs, HasWords, IsAnyAmong, UsesReference, UsesTarget, UsesTree, UsesTrees, UsesMessages, UsesStatements, UsesDoing, UsesClass}
use Rattle.mapped_model.proofs.Tests.{or_right}
use Rattle.mapped_model.specs.NamesOfImages.{UsedName, class_name, selector_name, shared_name, used_by_reference, used_by_target, used_by_tree, used_by_trees, used_by_messages, used_by_statements, used_by_doing, used_if_any, used_by_class, used_by_method, used_by_doit, used_in, as_class, as_selector, as_shared, names_in}

-- two lists, one after the other
pub all-left : {X : Type 0} (P : X → Type 0) (xs ys : List X) → AllByRecursion P (xs ++ ys) → AllByRecursion P xs
all-left P [] ys a = tt
all-left P (x ∷ xs) ys a = (a.0, all-left P xs ys a.1)

pub all-right : {X : Type 0} (P : X → Type 0) (xs ys : List X) → AllByRecursion P (xs ++ ys) → AllByRecursion P ys
all-right P [] ys a = a
all-right P (x ∷ xs) ys a = all-right P xs ys a.1

-- the lists that a function gives
all-flat : {X Y : Type 0} (P : Y → Type 0) (g : X → List Y) (xs : List X) → AllByRecursion P (flat_map g xs) → AllByRecursion (λ x. AllByRecursion P (g x)) xs
all-flat P g [] a = tt
all-flat P g (x ∷ xs) a = (all-left P (g x) (flat_map g xs) a, all-flat P g xs (all-right P (g x) (flat_map g xs) a))

-- the first of two alternatives
or_left : (a b : Bool) → a ≡ true → (a || b) ≡ true
or_left a b e = ap (λ x. x || b) e

-- something in one of two lists
any_left : {X : Type 0} (p : X → Bool) (xs ys : List X) → IsTrue (list_any p xs) → IsTrue (list_any p (xs ++ ys))
any_left p xs ys t = list_any-append p xs ys ∙ or_left (list_any p xs) (list_any p ys) t

any_right : {X : Type 0} (p : X → Bool) (xs ys : List X) → IsTrue (list_any p ys) → IsTrue (list_any p (xs ++ ys))
any_right p xs ys t = list_any-append p xs ys ∙ or_right (list_any p xs) (list_any p ys) t

-- each name of a list is among those of another that has them
each-among : (us ws : List Name) → ((n : Name) → IsAmong ws n → IsAmong us n) → AllByRecursion (IsAmong us) ws
each-among us [] h = tt
each-among us (w ∷ ws) h = (h w (or_left (text_eq w w) (list_any (text_eq w) ws) (text_eq-refl w)), each-among us ws (λ n t. h n (or_right (text_eq n w) (list_any (text_eq n) ws) t)))

module _ (u : NamesInUse) where
  -- a name in use
  abbrev pub InUse : UsedName → Type 0
  InUse (class_name n) = IsAmong u.classes n
  InUse (selector_name s) = IsAmong u.selectors s
  InUse (shared_name k) = IsAmongPairs u.shared k

  -- names that are among those of their kinds
  each-used : (xs : List UsedName) → ((n : Name) → IsAmong (flat_map as_class xs) n → IsAmong u.classes n) → ((s : Name) → IsAmong (flat_map as_selector xs) s → IsAmong u.selectors s) → ((k : OfClass) → IsAmongPairs (flat_map as_shared xs) k → IsAmongPairs u.shared k) → AllByRecursion InUse xs
  each-used [] h k l = tt
  each-used (class_name n ∷ xs) h k l =
      (h n (or_left (text_eq n n) (list_any (text_eq n) (flat_map as_class xs)) (text_eq-refl n)), each-used xs (λ m t. h m (or_right (text_eq m n) (list_any (text_eq m) (flat_map as_class xs)) t)) k l)
  each-used (selector_name s ∷ xs) h k l =
      (k s (or_left (text_eq s s) (list_any (text_eq s) (flat_map as_selector xs)) (text_eq-refl s)), each-used xs h (λ m t. k m (or_right (text_eq m s) (list_any (text_eq m) (flat_map as_selector xs)) t)) l)
  each-used (shared_name j ∷ xs) h k l =
      (l j (or_left (same_pair j j) (list_any (same_pair j) (flat_map as_shared xs)) (pair-refl j)), each-used xs h k (λ m t. l m (or_right (same_pair m j) (list_any (same_pair m) (flat_map as_shared xs)) t)))

  reference-uses : (r : Reference) → AllByRecursion InUse (used_by_reference r) → UsesReference u r
  reference-uses (of_word n) a = tt
  reference-uses (of_local k) a = tt
  reference-uses (of_instance_variable n) a = tt
  reference-uses (of_class_side_variable n) a = tt
  reference-uses (of_class_variable c n) a = a.0
  reference-uses (of_named_class c) a = a.0
  reference-uses of_transcript a = tt
  reference-uses (of_nothing n) a = tt

  target-uses : (r : Target) → AllByRecursion InUse (used_by_target r) → UsesTarget u r
  target-uses (to_temporary k) a = tt
  target-uses (to_instance_variable n) a = tt
  target-uses (to_class_side_variable n) a = tt
  target-uses (to_class_variable c n) a = a.0
  target-uses (to_fixed n) a = a.0
  target-uses (to_nothing n) a = tt

  mutual
    tree-uses : (t : ResolvedTree) → AllByRecursion InUse (used_by_tree t) → UsesTree u t
    tree-uses (reading r) a = reference-uses r a
    tree-uses (constant l) a = tt
    tree-uses (sending r s args) a =
        let b = all-right InUse (used_by_tree r) (selector_name s ∷ used_by_trees args) a in
        (tree-uses r (all-left InUse (used_by_tree r) (selector_name s ∷ used_by_trees args) a), b.0, trees-uses args b.1)
    tree-uses (cascading r ms) a = (tree-uses r (all-left InUse (used_by_tree r) (used_by_messages ms) a), messages-uses ms (all-right InUse (used_by_tree r) (used_by_messages ms) a))
    tree-uses (assigning n t) a = (target-uses n (all-left InUse (used_by_target n) (used_by_tree t) a), tree-uses t (all-right InUse (used_by_target n) (used_by_tree t) a))
    tree-uses (block_of ps ts ss) a = statements-use ss a
    tree-uses (brace_of ts) a = trees-uses ts a
    tree-uses (returning t) a = tree-uses t a

    trees-uses : (ts : ResolvedTrees) → AllByRecursion InUse (used_by_trees ts) → UsesTrees u ts
    trees-uses no_nodes a = tt
    trees-uses (more_nodes t ts) a = (tree-uses t (all-left InUse (used_by_tree t) (used_by_trees ts) a), trees-uses ts (all-right InUse (used_by_tree t) (used_by_trees ts) a))

    messages-uses : (ms : ResolvedMessages) → AllByRecursion InUse (used_by_messages ms) → UsesMessages u ms
    messages-uses no_sends a = tt
    messages-uses (more_sends s args ms) a = (a.0, trees-uses args (all-left InUse (used_by_trees args) (used_by_messages ms) a.1), messages-uses ms (all-right InUse (used_by_trees args) (used_by_messages ms) a.1))

    pub statements-use : (ss : ResolvedStatements) → AllByRecursion InUse (used_by_statements ss) → UsesStatements u ss
    statements-use no_lines a = tt
    statements-use (more_lines t ss) a = (tree-uses t (all-left InUse (used_by_tree t) (used_by_statements ss) a), statements-use ss (all-right InUse (used_by_tree t) (used_by_statements ss) a))

  -- what a method does
  pub doing-uses : (d : Doing) → AllByRecursion InUse (used_by_doing d) → UsesDoing u d
  doing-uses (by_primitive n) a = tt
  doing-uses (by_code c) a = statements-use c.statements a

  -- a class that there may be
  pub any-uses : (o : Option Name) → AllByRecursion InUse (used_if_any o) → IsAnyAmong u o
  any-uses (Some c) a = a.0
  any-uses None a = tt

module _ (i : ImageOf Name) where
  -- the names of classes and the selectors that are collected, and the latter behind words
  abbrev classes_found : List Name
  classes_found = flat_map as_class (used_in (resolved_image i))

  abbrev selectors_found : List Name
  selectors_found = flat_map as_selector (used_in (resolved_image i))

  abbrev behind_loops : List Name
  behind_loops = loop_selectors ++ selectors_found

  abbrev behind_two_blocks : List Name
  behind_two_blocks = two_block_selectors ++ behind_loops

  -- the names that are collected are in use
  all-used : AllByRecursion (InUse (names_in i)) (used_in (resolved_image i))
  all-used =
      each-used (names_in i) (used_in (resolved_image i))
      (λ n t. or_right (text_eq n []) (list_any (text_eq n) (value_classes ++ classes_found)) (any_right (text_eq n) value_classes classes_found t))
      (λ s t. any_right (text_eq s) one_block_selectors behind_two_blocks (any_right (text_eq s) two_block_selectors behind_loops (any_right (text_eq s) loop_selectors selectors_found t)))
      (λ k t. t)

  -- those of classes
  pub classes-used : AllByRecursion (UsesClass (names_in i)) (resolved_image i).classes
  classes-used =
      all-implies (λ (c : ClassOf Name). AllByRecursion (InUse (names_in i)) (used_by_class c)) (UsesClass (names_in i)) (λ c a. record { name = a.0; superclass = any-uses (names_in i) c.superclass a.1 }) (resolved_image i).classes
      (all-flat (InUse (names_in i)) used_by_class (resolved_image i).classes (all-left (InUse (names_in i)) (flat_map used_by_class (resolved_image i).classes) (flat_map used_by_method (resolved_image i).methods ++ flat_map used_by_doit (resolved_image i).doits) all-used))

  -- those of methods and do-its
  rest-used : AllByRecursion (InUse (names_in i)) (flat_map used_by_method (resolved_image i).methods ++ flat_map used_by_doit (resolved_image i).doits)
  rest-used = all-right (InUse (names_in i)) (flat_map used_by_class (resolved_image i).classes) (flat_map used_by_method (resolved_image i).methods ++ flat_map used_by_doit (resolved_image i).doits) all-used

  pub methods-used : AllByRecursion (λ (m : ResolvedMethod). AllByRecursion (InUse (names_in i)) (used_by_method m)) (resolved_image i).methods
  methods-used = all-flat (InUse (names_in i)) used_by_method (resolved_image i).methods (all-left (InUse (names_in i)) (flat_map used_by_method (resolved_image i).methods) (flat_map used_by_doit (resolved_image i).doits) rest-used)

  pub doits-used : AllByRecursion (λ c. AllByRecursion (InUse (names_in i)) (used_by_doit c)) (resolved_image i).doits
  doits-used = all-flat (InUse (names_in i)) used_by_doit (resolved_image i).doits (all-right (InUse (names_in i)) (flat_map used_by_method (resolved_image i).methods) (flat_map used_by_doit (resolved_image i).doits) rest-used)

  -- the words of the language are in use
  pub words-used : HasWords (names_in i)
  words-used = record {
    nothing = or_left (text_eq [] []) (list_any (text_eq []) (value_classes ++ classes_found)) (text_eq-refl []);
    classes = each-among (names_in i).classes value_classes (λ n t. or_right (text_eq n []) (list_any (text_eq n) (value_classes ++ classes_found)) (any_left (text_eq n) value_classes classes_found t));
    one_block = each-among (names_in i).selectors one_block_selectors (λ n t. any_left (text_eq n) one_block_selectors behind_two_blocks t);
    two_blocks = each-among (names_in i).selectors two_block_selectors (λ n t. any_right (text_eq n) one_block_selectors behind_two_blocks (any_left (text_eq n) two_block_selectors behind_loops t));
    loops = each-among (names_in i).selectors loop_selectors (λ n t. any_right (text_eq n) one_block_selectors behind_two_blocks (any_right (text_eq n) two_block_selectors behind_loops (any_left (text_eq n) loop_selectors selectors_found t)));
  }
