-- The walk finds the first second list.
use Rattle.std.proofs.Common.{◌≡◌, ℕ, suc, ◌+◌, ◌<◌, length, get_or, drop, Bool, true, false, ◌&&◌, ◌||◌, List, [], ◌∷◌, ◌++◌, map, Some, None, refl, sym, ap, ◌∙◌}
use Rattle.std.specs.Prelude.{if◌then◌else◌, Option}
use Rattle.std.specs.Option.{option_or}
use Rattle.std.proofs.lemmas.List.{map-append, append_assoc, drop_more}
use Rattle.tree_model.specs.Tree.{TreeOf, var, literal, send, cascade, assign, block, brace, return, TreesOf, no_trees, more_trees, MessagesOf, no_messages, more_messages, StatementsOf, no_statements, more_statements, map_names, map_trees, map_messages, map_statements}
use Rattle.st_tree.specs.View.{statements_of}
use Rattle.st_tree.specs.declared.tree.Statement.{Statement}
use Rattle.parse_events.specs.Found.{count_trees}
use Rattle.grammar_model.specs.Spanned.{SpannedTree, Var, Literal, Send, Cascade, Assign, Block, Brace, Return, SpannedTrees, NoTrees, MoreTrees, SpannedMessages, NoMessages, MoreMessages, SpannedStatements, NoStatements, MoreStatements, plain_tree, plain_trees, plain_messages, plain_statements}
use Rattle.grammar_model.specs.Spans as spans
use Rattle.event_spans.specs.declared.search.NodeSpan.{NodeSpan}
use Rattle.event_spans.specs.Answers.{to_span}
use Rattle.event_spans.specs.Nodes.{Reached, tree_nodes, trees_nodes, messages_nodes, statements_nodes}
use Rattle.pattern_trees.specs.Faults as faults
use Rattle.pattern_trees.specs.Faults.{name_from, two_lists, trees_two_lists, messages_two_lists, statements_two_lists}
use Rattle.pattern_faults.specs.Lists.{spells_list, State, passed, is_list, walked, trees_walked, messages_walked, statements_walked}

-- names that are changed are asked through what they are changed to
module _ {M N : Type 0} (lists : N → Bool) (f : M → N) where
  abbrev asked : M → Bool
  asked n = lists (f n)

  list_mapped : (t : TreeOf M) → is_list lists (map_names f t) ≡ is_list asked t
  list_mapped (var n) = refl
  list_mapped (literal l) = refl
  list_mapped (send r s ts) = refl
  list_mapped (cascade r ms) = refl
  list_mapped (assign n t) = refl
  list_mapped (block ps ts ss e) = refl
  list_mapped (brace ts) = refl
  list_mapped (return t) = refl

  mutual
    pub walked_mapped : (second : Bool) (t : TreeOf M) (w : State) → walked lists second (map_names f t) w ≡ walked asked second t w
    walked_mapped second (var n) w = refl
    walked_mapped second (literal l) w = refl
    walked_mapped second (send r s ts) w = ap (trees_walked lists (map_trees f ts)) (walked_mapped false r (passed second w.0 w.1)) ∙ trees_mapped ts (walked asked false r (passed second w.0 w.1))
    walked_mapped second (cascade r ms) w = ap (messages_walked lists (map_messages f ms)) (walked_mapped false r (passed second w.0 w.1)) ∙ messages_mapped ms (walked asked false r (passed second w.0 w.1))
    walked_mapped second (assign n t) w = walked_mapped false t (passed second w.0 w.1)
    walked_mapped second (block ps ts ss e) w = statements_mapped false ss (passed second w.0 w.1)
    walked_mapped second (brace ts) w = trees_mapped ts (passed second w.0 w.1)
    walked_mapped second (return t) w = walked_mapped false t (passed second w.0 w.1)

    trees_mapped : (ts : TreesOf M) (w : State) → trees_walked lists (map_trees f ts) w ≡ trees_walked asked ts w
    trees_mapped no_trees w = refl
    trees_mapped (more_trees t ts) w = ap (trees_walked lists (map_trees f ts)) (walked_mapped false t w) ∙ trees_mapped ts (walked asked false t w)

    messages_mapped : (ms : MessagesOf M) (w : State) → messages_walked lists (map_messages f ms) w ≡ messages_walked asked ms w
    messages_mapped no_messages w = refl
    messages_mapped (more_messages s ts ms) w = ap (messages_walked lists (map_messages f ms)) (trees_mapped ts w) ∙ messages_mapped ms (trees_walked asked ts w)

    statements_mapped : (had : Bool) (ss : StatementsOf M) (w : State) → statements_walked lists had (map_statements f ss) w ≡ statements_walked asked had ss w
    statements_mapped had no_statements w = refl
    statements_mapped had (more_statements c t ss) w =
        (λ i. statements_walked lists (had || list_mapped t i) (map_statements f ss) (walked lists (had && list_mapped t i) (map_names f t) w))
        ∙ ap (statements_walked lists (had || is_list asked t) (map_statements f ss)) (walked_mapped (had && is_list asked t) t w)
        ∙ statements_mapped (had || is_list asked t) ss (walked asked (had && is_list asked t) t w)

-- the path and the span of a node
abbrev pub spanned : Reached → NodeSpan
spanned r = record { path = r.0; span = to_span (spans.span_of r.1) }

abbrev spanned_all : List Reached → List NodeSpan → List NodeSpan
spanned_all rs more = map spanned rs ++ more

both_spanned : (rs qs : List Reached) (more : List NodeSpan) → spanned_all (rs ++ qs) more ≡ spanned_all rs (spanned_all qs more)
both_spanned rs qs more = ap (λ xs. xs ++ more) (map-append spanned rs qs) ∙ append_assoc (map spanned rs) (map spanned qs) more

-- the first of three
or_or : (a b c : Option ℕ) → option_or (option_or a b) c ≡ option_or a (option_or b c)
or_or None b c = refl
or_or (Some x) b c = refl

or_none : (a : Option ℕ) → option_or a None ≡ a
or_none None = refl
or_none (Some x) = refl

-- a list in a tree with places
same_list : (t : SpannedTree) → is_list spells_list (plain_tree t) ≡ faults.is_list t
same_list (Var f e n) = refl
same_list (Literal f e l) = refl
same_list (Send f e r s xs) = refl
same_list (Cascade f e r ms) = refl
same_list (Assign f e n t) = refl
same_list (Block f e ps ds ss c) = refl
same_list (Brace f e ts) = refl
same_list (Return f e t) = refl

-- a node that is a list has no nodes in it
list_alone : (t : SpannedTree) (path : List ℕ) (more : List NodeSpan) (found : Option ℕ) → faults.is_list t ≡ true
    → walked spells_list true (plain_tree t) (spanned_all (tree_nodes path t) more, found) ≡ (more, option_or found (Some (name_from t)))
list_alone (Var f e n) path more found h = refl
list_alone (Literal f e l) path more found h = let bad : ⊥ = cc h in absurd bad
list_alone (Send f e r s xs) path more found h = let bad : ⊥ = cc h in absurd bad
list_alone (Cascade f e r ms) path more found h = let bad : ⊥ = cc h in absurd bad
list_alone (Assign f e n t) path more found h = let bad : ⊥ = cc h in absurd bad
list_alone (Block f e ps ds ss c) path more found h = let bad : ⊥ = cc h in absurd bad
list_alone (Brace f e ts) path more found h = let bad : ⊥ = cc h in absurd bad
list_alone (Return f e t) path more found h = let bad : ⊥ = cc h in absurd bad

-- where a list stands behind another one, or else what stands in it
abbrev one_found : Bool → SpannedTree → Option ℕ
one_found second t = if second then Some (name_from t) else two_lists t

-- the flags of two lists
is_second : (a b : Bool) → (a && b) ≡ true → b ≡ true
is_second true b h = h
is_second false b h = let bad : ⊥ = cc h in absurd bad

either_found : (b : Bool) (n : ℕ) (x y : Option ℕ) → option_or (if b then Some n else x) y ≡ (if b then Some n else option_or x y)
either_found true n x y = refl
either_found false n x y = refl

-- behind a statement
statement_finds : (had : Bool) (t : SpannedTree) (path : List ℕ) (more : List NodeSpan) (found : Option ℕ)
    → walked spells_list false (plain_tree t) (spanned_all (tree_nodes path t) more, found) ≡ (more, option_or found (two_lists t))
    → walked spells_list (had && faults.is_list t) (plain_tree t) (spanned_all (tree_nodes path t) more, found) ≡ (more, option_or found (one_found (had && faults.is_list t) t))
statement_finds had t path more found other = by (had && faults.is_list t) refl
  where
    by : (b : Bool) → (had && faults.is_list t) ≡ b → walked spells_list b (plain_tree t) (spanned_all (tree_nodes path t) more, found) ≡ (more, option_or found (one_found b t))
    by true h = list_alone t path more found (is_second had (faults.is_list t) h)
    by false h = other

mutual
  -- behind a node with places
  pub walked_finds : (t : SpannedTree) (path : List ℕ) (more : List NodeSpan) (found : Option ℕ)
      → walked spells_list false (plain_tree t) (spanned_all (tree_nodes path t) more, found) ≡ (more, option_or found (two_lists t))
  walked_finds (Var f e n) path more found = λ i. (more, sym (or_none found) i)
  walked_finds (Literal f e l) path more found = λ i. (more, sym (or_none found) i)
  walked_finds (Send f e r s xs) path more found =
      (λ i. trees_walked spells_list (plain_trees xs) (walked spells_list false (plain_tree r) (both_spanned (tree_nodes (path ++ 0 ∷ []) r) (trees_nodes path 1 xs) more i, found)))
      ∙ ap (trees_walked spells_list (plain_trees xs)) (walked_finds r (path ++ 0 ∷ []) (spanned_all (trees_nodes path 1 xs) more) found)
      ∙ trees_find xs path 1 more (option_or found (two_lists r))
      ∙ (λ i. (more, or_or found (two_lists r) (trees_two_lists xs) i))
  walked_finds (Cascade f e r ms) path more found =
      (λ i. messages_walked spells_list (plain_messages ms) (walked spells_list false (plain_tree r) (both_spanned (tree_nodes (path ++ 0 ∷ []) r) (messages_nodes path 1 ms) more i, found)))
      ∙ ap (messages_walked spells_list (plain_messages ms)) (walked_finds r (path ++ 0 ∷ []) (spanned_all (messages_nodes path 1 ms) more) found)
      ∙ messages_find ms path 1 more (option_or found (two_lists r))
      ∙ (λ i. (more, or_or found (two_lists r) (messages_two_lists ms) i))
  walked_finds (Assign f e n t) path more found = walked_finds t (path ++ 0 ∷ []) more found
  walked_finds (Block f e ps ds ss c) path more found = statements_find false ss path 0 more found
  walked_finds (Brace f e ts) path more found = trees_find ts path 0 more found
  walked_finds (Return f e t) path more found = walked_finds t (path ++ 0 ∷ []) more found

  trees_find : (ts : SpannedTrees) (path : List ℕ) (k : ℕ) (more : List NodeSpan) (found : Option ℕ)
      → trees_walked spells_list (plain_trees ts) (spanned_all (trees_nodes path k ts) more, found) ≡ (more, option_or found (trees_two_lists ts))
  trees_find NoTrees path k more found = λ i. (more, sym (or_none found) i)
  trees_find (MoreTrees t ts) path k more found =
      (λ i. trees_walked spells_list (plain_trees ts) (walked spells_list false (plain_tree t) (both_spanned (tree_nodes (path ++ k ∷ []) t) (trees_nodes path (suc k) ts) more i, found)))
      ∙ ap (trees_walked spells_list (plain_trees ts)) (walked_finds t (path ++ k ∷ []) (spanned_all (trees_nodes path (suc k) ts) more) found)
      ∙ trees_find ts path (suc k) more (option_or found (two_lists t))
      ∙ (λ i. (more, or_or found (two_lists t) (trees_two_lists ts) i))

  messages_find : (ms : SpannedMessages) (path : List ℕ) (k : ℕ) (more : List NodeSpan) (found : Option ℕ)
      → messages_walked spells_list (plain_messages ms) (spanned_all (messages_nodes path k ms) more, found) ≡ (more, option_or found (messages_two_lists ms))
  messages_find NoMessages path k more found = λ i. (more, sym (or_none found) i)
  messages_find (MoreMessages s xs ms) path k more found =
      (λ i. messages_walked spells_list (plain_messages ms) (trees_walked spells_list (plain_trees xs) (both_spanned (trees_nodes path k xs) (messages_nodes path (count_trees xs + k) ms) more i, found)))
      ∙ ap (messages_walked spells_list (plain_messages ms)) (trees_find xs path k (spanned_all (messages_nodes path (count_trees xs + k) ms) more) found)
      ∙ messages_find ms path (count_trees xs + k) more (option_or found (trees_two_lists xs))
      ∙ (λ i. (more, or_or found (trees_two_lists xs) (messages_two_lists ms) i))

  statements_find : (had : Bool) (ss : SpannedStatements) (path : List ℕ) (k : ℕ) (more : List NodeSpan) (found : Option ℕ)
      → statements_walked spells_list had (plain_statements ss) (spanned_all (statements_nodes path k ss) more, found) ≡ (more, option_or found (statements_two_lists had ss))
  statements_find had NoStatements path k more found = λ i. (more, sym (or_none found) i)
  statements_find had (MoreStatements c f t ss) path k more found =
      (λ i. statements_walked spells_list (had || same_list t i) (plain_statements ss) (walked spells_list (had && same_list t i) (plain_tree t) (both_spanned (tree_nodes (path ++ k ∷ []) t) (statements_nodes path (suc k) ss) more i, found)))
      ∙ ap (statements_walked spells_list (had || faults.is_list t) (plain_statements ss)) (statement_finds had t (path ++ k ∷ []) (spanned_all (statements_nodes path (suc k) ss) more) found (walked_finds t (path ++ k ∷ []) (spanned_all (statements_nodes path (suc k) ss) more) found))
      ∙ statements_find (had || faults.is_list t) ss path (suc k) more (option_or found (one_found (had && faults.is_list t) t))
      ∙ (λ i. (more, (or_or found (one_found (had && faults.is_list t) t) (statements_two_lists (had || faults.is_list t) ss) ∙ ap (option_or found) (either_found (had && faults.is_list t) (name_from t) (two_lists t) (statements_two_lists (had || faults.is_list t) ss))) i))

-- a flag of two, by the first one
pub second_yes : (b r x : Bool) → b ≡ true → x ≡ r → x ≡ (b && r)
second_yes b r x h e = e ∙ sym (rw h refl)

pub second_no : (b r x : Bool) → b ≡ false → x ≡ false → x ≡ (b && r)
second_no b r x h e = e ∙ sym (rw h refl)

pub later_yes : (b r x : Bool) → b ≡ true → x ≡ true → x ≡ (b || r)
later_yes b r x h e = e ∙ sym (rw h refl)

pub later_no : (b r x : Bool) → b ≡ false → x ≡ r → x ≡ (b || r)
later_no b r x h e = e ∙ sym (rw h refl)

-- behind one more statement
pub statements_next : (lists : ℕ → Bool) (had : Bool) (ss : List Statement) (i : ℕ) (s : Statement) (w : State) → i < length ss → s ≡ get_or ss i s
    → statements_walked lists had (statements_of (drop i ss)) w ≡ statements_walked lists (had || is_list lists s.node) (statements_of (drop (i + 1) ss)) (walked lists (had && is_list lists s.node) s.node w)
statements_next lists had ss i s w h is =
    ap (λ (xs : List Statement). statements_walked lists had (statements_of xs) w) (drop_more ss i s h ∙ ap (λ (y : Statement). y ∷ drop (i + 1) ss) (sym is))
