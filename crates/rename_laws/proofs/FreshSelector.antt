-- A selector that no method has and no code sends is not in use.
use Rattle.std.proofs.Common.{◌≡◌, ℕ, suc, ◌+◌, List, [], ◌∷◌, ◌++◌, Option, Some, None, refl, ap, ◌∙◌}
use Rattle.std.specs.Prelude.{Bool, true, false, ◌||◌, map, flat_map}
use Rattle.std.specs.List.{AllByRecursion, list_any}
use Rattle.rb_base.specs.Names.{text_eq}
use Rattle.tree_model.specs.Tree.{TreeOf, var, literal, send, cascade, assign, block, brace, return, TreesOf, no_trees, more_trees, MessagesOf, no_messages, more_messages, StatementsOf, no_statements, more_statements}
use Rattle.tree_model.specs.Path.{count}
use Rattle.tree_model.specs.Nodes.{Placed, below_step, tree_nodes, trees_nodes, messages_nodes, statements_nodes, nodes}
use Rattle.scope_model.proofs.ListsOfNames.{AllByRecursion-append}
use Rattle.image_model.specs.Image.{ClassOf, EntryOf, DoItOf, ImageOf}
use Rattle.image_model.specs.Uses.{has_message, is_sender}
use Rattle.image_model.proofs.Lists.{all-implies, all-map}
use Rattle.run_model.specs.Values.{Name}
use Rattle.run_model.proofs.Finite.{any-left, any-right}
use Rattle.resolved_model.specs.ResolvedTrees.{Reference, of_word, of_local, of_instance_variable, of_class_side_variable, of_class_variable, of_named_class, of_transcript, of_nothing, Target, to_temporary, to_instance_variable, to_class_side_variable, to_class_variable, to_fixed, to_nothing}
use Rattle.resolved_model.specs.Resolving.{MeantAt, below, reference_of, target_of, resolved, resolved_trees, resolved_messages, resolved_statements, meant_in, meant_in_doit, resolved_method, resolved_doit}
use Rattle.resolved_model.specs.ResolvedImages.{plain_class, doing_of, resolved_entry, resolved_image}
use Rattle.resolved_model.proofs.LookupLemmas.{everywhere}
use Rattle.mapped_model.specs.NamesOfImages.{UsedName, class_name, selector_name, shared_name, used_by_reference, used_by_target, used_by_tree, used_by_trees, used_by_messages, used_by_statements, used_by_doing, used_if_any, used_by_class, used_by_method, used_by_doit, used_in, as_selector}
use Rattle.rename_model.specs.Conditions.{speaks_of, is_selector_fresh}
use Rattle.rename_laws.proofs.Unnamed.{neither_left, neither_right, denied, each-fails}
use Rattle.rename_laws.proofs.NamesUnused.{each-flat}

module _ (t : Name) where
  -- a name in use is not the selector
  abbrev Other : UsedName → Type 0
  Other (class_name n) = Unit {0}
  Other (selector_name s) = text_eq t s ≡ false
  Other (shared_name k) = Unit {0}

  -- whether a node sends it
  abbrev sends : Placed Name → Bool
  sends e = is_sender text_eq t e.1

  -- nodes of which none sends it, one step deeper
  under : (k : ℕ) (es : List (Placed Name)) → list_any sends (below_step k es) ≡ false → list_any sends es ≡ false
  under k [] h = refl
  under k (e ∷ es) h =
      ap (λ b. b || list_any sends es) (neither_left (sends e) (list_any sends (below_step k es)) h) ∙ under k es (neither_right (sends e) (list_any sends (below_step k es)) h)

  reference-other : (r : Reference) → AllByRecursion Other (used_by_reference r)
  reference-other (of_word n) = tt
  reference-other (of_local k) = tt
  reference-other (of_instance_variable n) = tt
  reference-other (of_class_side_variable n) = tt
  reference-other (of_class_variable c n) = (tt, tt)
  reference-other (of_named_class c) = (tt, tt)
  reference-other of_transcript = tt
  reference-other (of_nothing n) = tt

  target-other : (r : Target) → AllByRecursion Other (used_by_target r)
  target-other (to_temporary k) = tt
  target-other (to_instance_variable n) = tt
  target-other (to_class_side_variable n) = tt
  target-other (to_class_variable c n) = (tt, tt)
  target-other (to_fixed n) = (tt, tt)
  target-other (to_nothing n) = tt

  mutual
    -- code that does not send it
    tree-other : (u : TreeOf Name) (at : MeantAt) → list_any sends (tree_nodes u) ≡ false → AllByRecursion Other (used_by_tree (resolved at u))
    tree-other (var n) at h = reference-other (reference_of (at [] n).meaning (at [] n).place n)
    tree-other (literal l) at h = tt
    tree-other (send r s args) at h =
        let rest : list_any sends (below_step 0 (tree_nodes r) ++ trees_nodes 1 args) ≡ false = neither_right (text_eq t s) _ h in
        AllByRecursion-append Other (used_by_tree (resolved (below 0 at) r)) (selector_name s ∷ used_by_trees (resolved_trees at 1 args))
        (tree-other r (below 0 at) (under 0 (tree_nodes r) (any-left sends (below_step 0 (tree_nodes r)) (trees_nodes 1 args) rest)))
        (neither_left (text_eq t s) (list_any sends (below_step 0 (tree_nodes r) ++ trees_nodes 1 args)) h, trees-other args at 1 1 (any-right sends (below_step 0 (tree_nodes r)) (trees_nodes 1 args) rest))
    tree-other (cascade r ms) at h =
        let rest : list_any sends (below_step 0 (tree_nodes r) ++ messages_nodes 1 ms) ≡ false = neither_right (has_message text_eq t ms) _ h in
        AllByRecursion-append Other (used_by_tree (resolved (below 0 at) r)) (used_by_messages (resolved_messages at 1 ms))
        (tree-other r (below 0 at) (under 0 (tree_nodes r) (any-left sends (below_step 0 (tree_nodes r)) (messages_nodes 1 ms) rest)))
        (messages-other ms at 1 1 (neither_left (has_message text_eq t ms) (list_any sends (below_step 0 (tree_nodes r) ++ messages_nodes 1 ms)) h) (any-right sends (below_step 0 (tree_nodes r)) (messages_nodes 1 ms) rest))
    tree-other (assign n u) at h =
        AllByRecursion-append Other (used_by_target (target_of (at [] n).meaning (at [] n).place n)) (used_by_tree (resolved (below 0 at) u))
        (target-other (target_of (at [] n).meaning (at [] n).place n)) (tree-other u (below 0 at) (under 0 (tree_nodes u) h))
    tree-other (block ps ts ss e) at h = lines-other ss at 0 0 h
    tree-other (brace ts) at h = trees-other ts at 0 0 h
    tree-other (return u) at h = tree-other u (below 0 at) (under 0 (tree_nodes u) h)

    trees-other : (us : TreesOf Name) (at : MeantAt) (k l : ℕ) → list_any sends (trees_nodes l us) ≡ false → AllByRecursion Other (used_by_trees (resolved_trees at k us))
    trees-other no_trees at k l h = tt
    trees-other (more_trees u us) at k l h =
        AllByRecursion-append Other (used_by_tree (resolved (below k at) u)) (used_by_trees (resolved_trees at (suc k) us))
        (tree-other u (below k at) (under l (tree_nodes u) (any-left sends (below_step l (tree_nodes u)) (trees_nodes (l + 1) us) h)))
        (trees-other us at (suc k) (l + 1) (any-right sends (below_step l (tree_nodes u)) (trees_nodes (l + 1) us) h))

    messages-other : (ms : MessagesOf Name) (at : MeantAt) (k l : ℕ) → has_message text_eq t ms ≡ false → list_any sends (messages_nodes l ms) ≡ false → AllByRecursion Other (used_by_messages (resolved_messages at k ms))
    messages-other no_messages at k l own h = tt
    messages-other (more_messages s args ms) at k l own h = (
      neither_left (text_eq t s) (has_message text_eq t ms) own,
      AllByRecursion-append Other (used_by_trees (resolved_trees at k args)) (used_by_messages (resolved_messages at (k + count args) ms))
          (trees-other args at k l (any-left sends (trees_nodes l args) (messages_nodes (l + count args) ms) h))
          (messages-other ms at (k + count args) (l + count args) (neither_right (text_eq t s) (has_message text_eq t ms) own) (any-right sends (trees_nodes l args) (messages_nodes (l + count args) ms) h)),
    )

    lines-other : (ss : StatementsOf Name) (at : MeantAt) (k l : ℕ) → list_any sends (statements_nodes l ss) ≡ false → AllByRecursion Other (used_by_statements (resolved_statements at k ss))
    lines-other no_statements at k l h = tt
    lines-other (more_statements c u ss) at k l h =
        AllByRecursion-append Other (used_by_tree (resolved (below k at) u)) (used_by_statements (resolved_statements at (suc k) ss))
        (tree-other u (below k at) (under l (tree_nodes u) (any-left sends (below_step l (tree_nodes u)) (statements_nodes (l + 1) ss) h)))
        (lines-other ss at (suc k) (l + 1) (any-right sends (below_step l (tree_nodes u)) (statements_nodes (l + 1) ss) h))

  -- a class that there may be
  if-any-other : (o : Option Name) → AllByRecursion Other (used_if_any o)
  if-any-other (Some c) = (tt, tt)
  if-any-other None = tt

  -- those that are no selectors among names in use
  none-selected : (us : List UsedName) → AllByRecursion Other us → list_any (text_eq t) (flat_map as_selector us) ≡ false
  none-selected [] a = refl
  none-selected (class_name n ∷ us) a = none-selected us a.1
  none-selected (selector_name s ∷ us) a = ap (λ b. b || list_any (text_eq t) (flat_map as_selector us)) a.0 ∙ none-selected us a.1
  none-selected (shared_name k ∷ us) a = none-selected us a.1

  module _ (i : ImageOf Name) where
    -- what a method does, by its primitive
    doing-other : (m : EntryOf Name) → list_any sends (nodes m.tree.body) ≡ false → (p : Option ℕ) → AllByRecursion Other (used_by_doing (doing_of i m p))
    unfolding resolved_method
    doing-other m h (Some n) = tt
    doing-other m h None = lines-other m.tree.body.statements (meant_in i m) 0 0 h

    -- a method
    method-other : (m : EntryOf Name) → speaks_of text_eq t m ≡ false → AllByRecursion Other (used_by_method (resolved_entry i m))
    method-other m h =
        AllByRecursion-append Other (used_if_any m.class) (selector_name m.tree.selector ∷ used_by_doing (doing_of i m m.tree.primitive)) (if-any-other m.class)
        (neither_left (text_eq t m.tree.selector) (list_any sends (nodes m.tree.body)) h, doing-other m (neither_right (text_eq t m.tree.selector) (list_any sends (nodes m.tree.body)) h) m.tree.primitive)

    -- a do-it
    doit-other : (d : DoItOf Name) → list_any sends (nodes d.body) ≡ false → AllByRecursion Other (used_by_doit (resolved_doit i d))
    unfolding resolved_doit
    doit-other d h = lines-other d.body.statements (meant_in_doit i d) 0 0 h

    -- all names in use
    all-other : list_any (speaks_of text_eq t) i.methods ≡ false → list_any (λ (d : DoItOf Name). list_any sends (nodes d.body)) i.doits ≡ false → AllByRecursion Other (used_in (resolved_image i))
    all-other methods doits =
        AllByRecursion-append Other (flat_map used_by_class (map plain_class i.classes)) (flat_map used_by_method (map (resolved_entry i) i.methods) ++ flat_map used_by_doit (map (resolved_doit i) i.doits))
        (each-flat Other used_by_class (map plain_class i.classes) (everywhere _ (λ (c : ClassOf Name). (tt, if-any-other c.superclass)) (map plain_class i.classes)))
        (AllByRecursion-append Other (flat_map used_by_method (map (resolved_entry i) i.methods)) (flat_map used_by_doit (map (resolved_doit i) i.doits))
        (each-flat Other used_by_method (map (resolved_entry i) i.methods) (all-map _ (resolved_entry i) i.methods (all-implies _ _ method-other i.methods (each-fails (speaks_of text_eq t) i.methods methods))))
        (each-flat Other used_by_doit (map (resolved_doit i) i.doits) (all-map _ (resolved_doit i) i.doits (all-implies _ _ doit-other i.doits (each-fails (λ (d : DoItOf Name). list_any sends (nodes d.body)) i.doits doits)))))

    -- it is none of the selectors in use
    pub not-in-use : is_selector_fresh text_eq i t ≡ true → list_any (text_eq t) (flat_map as_selector (used_in (resolved_image i))) ≡ false
    not-in-use fresh =
        let none = denied _ fresh in
        none-selected (used_in (resolved_image i)) (all-other (neither_left _ _ none) (neither_right (list_any (speaks_of text_eq t) i.methods) _ none))
