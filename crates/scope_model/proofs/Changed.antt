-- A change of names that keeps the answers changes no scope, no free name and no use.
use Rattle.std.proofs.Common.{◌≡◌, refl, ap, sym, ◌∙◌, ℕ, zero, suc, ◌+◌, Bool, true, false, not, cond, ◌&&◌, ◌||◌, List, [], ◌∷◌, ◌++◌, map, Option, Some, None, option_map, option_and_then, unwrap_or}
use Rattle.std.specs.Prelude.{filter, ◌==◌}
use Rattle.std.specs.List.{AllByRecursion, list_any}
use Rattle.std.proofs.lemmas.List.{map-append}
use Rattle.tree_model.specs.Tree.{TreeOf, var, literal, send, cascade, assign, block, brace, return, TreesOf, no_trees, more_trees, MessagesOf, no_messages, more_messages, StatementsOf, no_statements, more_statements, map_names, map_trees, map_messages, map_statements}
use Rattle.tree_model.specs.AllNames.{AllNames, TreesNames, MessagesNames, StatementsNames}
use Rattle.tree_model.specs.Path.{append, nth, all_arguments, statement_trees, children, child, part_at, part_among}
use Rattle.tree_model.proofs.Children.{nth-map_trees, count-map_trees, child-map_names, statement_trees-map_statements}
use Rattle.tree_model.proofs.Parts.{part_at-map_names}
use Rattle.scope_model.specs.declared.local.Local.TheVariants.{Argument, Temporary, NotLocal}
use Rattle.scope_model.specs.declared.local.ControlForm.{ControlForm}
use Rattle.scope_model.specs.declared.local.ControlForm.TheVariants.{OneBlock, TwoBlocks, Loop, NoControl}
use Rattle.scope_model.specs.Control.{is_empty, is_plain_block, are_plain_blocks, meets, is_loop, is_control}
use Rattle.scope_model.specs.Scope.{ScopeOf, PlacedScope, block_scope, scope_at, own_scope, entered, scopes_round, is_among, local_by, local_in_scope, declares}
use Rattle.scope_model.specs.FreeNames.{each_once, free_occurrences, free_in_trees, free_in_messages, free_in_statements, free_names, free_names_of_run}
use Rattle.scope_model.specs.Uses.{UseOf, enclosed, uses_in_block, uses, trees_uses, messages_uses, statements_uses, is_captured, assigned_in_closure_of, assigned_in_closure_at}
use Rattle.scope_model.specs.NameTests.{NameTests, KeepsAnswers}
use Rattle.scope_model.proofs.ListsOfNames.{AllByRecursion-append, AllByRecursion-filter, AllByRecursion-implies, filter-map}

-- a fact of each name in a scope
pub record ScopeNames {N : Type 0} (P : N → Type 0) (s : ScopeOf N) : Type 0 where
  pub arguments : AllByRecursion P s.arguments
  pub temporaries : AllByRecursion P s.temporaries
  pub statements : StatementsNames P s.statements

module _ {N : Type 0} (P : N → Type 0) where
  -- of the trees of two lists
  TreesNames-append : (ts us : TreesOf N) → TreesNames P ts → TreesNames P us → TreesNames P (append ts us)
  TreesNames-append no_trees us p q = q
  TreesNames-append (more_trees t ts) us p q = (p.0, TreesNames-append ts us p.1 q)

  -- of the arguments of messages
  TreesNames-all_arguments : (ms : MessagesOf N) → MessagesNames P ms → TreesNames P (all_arguments ms)
  TreesNames-all_arguments no_messages p = tt
  TreesNames-all_arguments (more_messages s args ms) p = TreesNames-append args (all_arguments ms) p.1 (TreesNames-all_arguments ms p.2)

  -- of the nodes of statements
  TreesNames-statement_trees : (ss : StatementsOf N) → StatementsNames P ss → TreesNames P (statement_trees ss)
  TreesNames-statement_trees no_statements p = tt
  TreesNames-statement_trees (more_statements c t ss) p = (p.0, TreesNames-statement_trees ss p.1)

  -- of the nodes right below a node
  TreesNames-children : (t : TreeOf N) → AllNames P t → TreesNames P (children t)
  TreesNames-children (var n) p = tt
  TreesNames-children (literal l) p = tt
  TreesNames-children (send r s args) p = (p.0, p.2)
  TreesNames-children (cascade r ms) p = (p.0, TreesNames-all_arguments ms p.1)
  TreesNames-children (assign n t) p = (p.1, tt)
  TreesNames-children (block ps ts ss e) p = TreesNames-statement_trees ss p.2
  TreesNames-children (brace ts) p = p
  TreesNames-children (return t) p = (p, tt)

  -- of a tree, if there is one
  abbrev OptionNames : Option (TreeOf N) → Type 0
  OptionNames None = Unit {0}
  OptionNames (Some t) = AllNames P t

  -- of the tree of a number
  OptionNames-nth : (ts : TreesOf N) (k : ℕ) → TreesNames P ts → OptionNames (nth ts k)
  OptionNames-nth no_trees k p = tt
  OptionNames-nth (more_trees t ts) zero p = p.0
  OptionNames-nth (more_trees t ts) (suc k) p = OptionNames-nth ts k p.1

  -- of the tree where a step leads
  OptionNames-child : (t : TreeOf N) (k : ℕ) → AllNames P t → OptionNames (child t k)
  OptionNames-child t k p = OptionNames-nth (children t) k (TreesNames-children t p)

  -- of scopes
  abbrev AllScopes : List (PlacedScope N) → Type 0
  AllScopes = AllByRecursion (λ p. ScopeNames P p.1)

  -- of the scope of a node
  AllScopes-own_scope : (depth : ℕ) (t : TreeOf N) → AllNames P t → AllScopes (own_scope depth t)
  AllScopes-own_scope depth (var n) p = tt
  AllScopes-own_scope depth (literal l) p = tt
  AllScopes-own_scope depth (send r s args) p = tt
  AllScopes-own_scope depth (cascade r ms) p = tt
  AllScopes-own_scope depth (assign n t) p = tt
  AllScopes-own_scope depth (block ps ts ss e) p = (record { arguments = p.0; temporaries = p.1; statements = p.2 }, tt)
  AllScopes-own_scope depth (brace ts) p = tt
  AllScopes-own_scope depth (return t) p = tt

  -- of the scopes that a path enters
  AllScopes-entered : (depth : ℕ) (t : TreeOf N) (path : List ℕ) → AllNames P t → AllScopes (entered depth t path)
  AllScopes-entered depth t [] p = tt
  AllScopes-entered depth t (k ∷ ks) p =
      AllByRecursion-append (λ p. ScopeNames P p.1) _ (own_scope depth t)
      (elim (child t k) as (λ o. OptionNames o → AllScopes (unwrap_or (option_map (λ c. entered (depth + 1) c ks) o) [])) [
        | None ↦ λ q. tt
        | Some c ↦ λ q. AllScopes-entered (depth + 1) c ks q
      ] (OptionNames-child t k p))
      (AllScopes-own_scope depth t p)

  -- of the scopes round a place
  AllScopes-scopes_round : (s : ScopeOf N) (path : List ℕ) → ScopeNames P s → AllScopes (scopes_round s path)
  AllScopes-scopes_round s [] p = (p, tt)
  AllScopes-scopes_round s (k ∷ ks) p =
      AllByRecursion-append (λ p. ScopeNames P p.1) _ ((0, s) ∷ [])
      (elim (nth (statement_trees s.statements) k) as (λ o. OptionNames o → AllScopes (unwrap_or (option_map (λ c. entered 1 c ks) o) [])) [
        | None ↦ λ q. tt
        | Some c ↦ λ q. AllScopes-entered 1 c ks q
      ] (OptionNames-nth (statement_trees s.statements) k (TreesNames-statement_trees s.statements p.statements)))
      (p, tt)

  -- of a scope, if there is one
  abbrev OptionScopeNames : Option (ScopeOf N) → Type 0
  OptionScopeNames None = Unit {0}
  OptionScopeNames (Some s) = ScopeNames P s

  -- of the node where a path leads
  OptionNames-part_at : (t : TreeOf N) (path : List ℕ) → AllNames P t → OptionNames (part_at t path)
  OptionNames-part_at t [] p = p
  OptionNames-part_at t (k ∷ ks) p =
      elim (child t k) as (λ o. OptionNames o → OptionNames (option_and_then (λ c. part_at c ks) o)) [
        | None ↦ λ q. tt
        | Some c ↦ λ q. OptionNames-part_at c ks q
      ] (OptionNames-child t k p)

  -- of the node where a path into a list leads
  OptionNames-part_among : (ts : TreesOf N) (path : List ℕ) → TreesNames P ts → OptionNames (part_among ts path)
  OptionNames-part_among ts [] p = tt
  OptionNames-part_among ts (k ∷ ks) p =
      elim (nth ts k) as (λ o. OptionNames o → OptionNames (option_and_then (λ c. part_at c ks) o)) [
        | None ↦ λ q. tt
        | Some c ↦ λ q. OptionNames-part_at c ks q
      ] (OptionNames-nth ts k p)

  -- of the scope that a block is
  OptionScopeNames-block_scope : (t : TreeOf N) → AllNames P t → OptionScopeNames (block_scope t)
  OptionScopeNames-block_scope (var n) p = tt
  OptionScopeNames-block_scope (literal l) p = tt
  OptionScopeNames-block_scope (send r s args) p = tt
  OptionScopeNames-block_scope (cascade r ms) p = tt
  OptionScopeNames-block_scope (assign n t) p = tt
  OptionScopeNames-block_scope (block ps ts ss e) p = record { arguments = p.0; temporaries = p.1; statements = p.2 }
  OptionScopeNames-block_scope (brace ts) p = tt
  OptionScopeNames-block_scope (return t) p = tt

  -- of the scope at a path
  OptionScopeNames-scope_at : (s : ScopeOf N) (path : List ℕ) → ScopeNames P s → OptionScopeNames (scope_at s path)
  OptionScopeNames-scope_at s [] p = p
  OptionScopeNames-scope_at s (k ∷ ks) p =
      elim (part_among (statement_trees s.statements) (k ∷ ks)) as (λ o. OptionNames o → OptionScopeNames (option_and_then block_scope o)) [
        | None ↦ λ q. tt
        | Some c ↦ λ q. OptionScopeNames-block_scope c q
      ] (OptionNames-part_among (statement_trees s.statements) (k ∷ ks) (TreesNames-statement_trees s.statements p.statements))

module _ {M N : Type 0} (f : M → N) where
  -- the same scope with each name changed
  abbrev pub map_scope : ScopeOf M → ScopeOf N
  map_scope s = record { arguments = map f s.arguments; temporaries = map f s.temporaries; statements = map_statements f s.statements }

  -- the same placed scope with each name changed
  abbrev map_placed_scope : PlacedScope M → PlacedScope N
  map_placed_scope p = (p.0, map_scope p.1)

  -- a block is one before and after
  block_scope-map_names : (t : TreeOf M) → block_scope (map_names f t) ≡ option_map map_scope (block_scope t)
  block_scope-map_names (var n) = refl
  block_scope-map_names (literal l) = refl
  block_scope-map_names (send r s args) = refl
  block_scope-map_names (cascade r ms) = refl
  block_scope-map_names (assign n t) = refl
  block_scope-map_names (block ps ts ss e) = refl
  block_scope-map_names (brace ts) = refl
  block_scope-map_names (return t) = refl

  -- the scope of a node
  own_scope-map_names : (depth : ℕ) (t : TreeOf M) → own_scope depth (map_names f t) ≡ map map_placed_scope (own_scope depth t)
  own_scope-map_names depth (var n) = refl
  own_scope-map_names depth (literal l) = refl
  own_scope-map_names depth (send r s args) = refl
  own_scope-map_names depth (cascade r ms) = refl
  own_scope-map_names depth (assign n t) = refl
  own_scope-map_names depth (block ps ts ss e) = refl
  own_scope-map_names depth (brace ts) = refl
  own_scope-map_names depth (return t) = refl

  -- the scopes below a step, where the tree is changed
  below-map_names : (go : TreeOf M → List (PlacedScope M)) (went : TreeOf N → List (PlacedScope N))
      → ((c : TreeOf M) → went (map_names f c) ≡ map map_placed_scope (go c))
      → (o : Option (TreeOf M)) → unwrap_or (option_map went (option_map (map_names f) o)) [] ≡ map map_placed_scope (unwrap_or (option_map go o) [])
  below-map_names go went same None = refl
  below-map_names go went same (Some c) = same c

  -- the scopes that a path enters
  entered-map_names : (depth : ℕ) (t : TreeOf M) (path : List ℕ) → entered depth (map_names f t) path ≡ map map_placed_scope (entered depth t path)
  entered-map_names depth t [] = refl
  entered-map_names depth t (k ∷ ks) =
      let went : TreeOf N → List (PlacedScope N) = λ c. entered (depth + 1) c ks in
      let go : TreeOf M → List (PlacedScope M) = λ c. entered (depth + 1) c ks in
      ap (λ (o : Option (TreeOf N)). unwrap_or (option_map went o) [] ++ own_scope depth (map_names f t)) (child-map_names f t k)
      ∙ ap (λ (ps : List (PlacedScope N)). ps ++ own_scope depth (map_names f t)) (below-map_names go went (λ c. entered-map_names (depth + 1) c ks) (child t k))
      ∙ ap (λ (ps : List (PlacedScope N)). map map_placed_scope (unwrap_or (option_map go (child t k)) []) ++ ps) (own_scope-map_names depth t)
      ∙ sym (map-append map_placed_scope (unwrap_or (option_map go (child t k)) []) (own_scope depth t))

  -- the statement of a number
  nth-map_statements : (ss : StatementsOf M) (k : ℕ) → nth (statement_trees (map_statements f ss)) k ≡ option_map (map_names f) (nth (statement_trees ss) k)
  nth-map_statements ss k = ap (λ (ts : TreesOf N). nth ts k) (statement_trees-map_statements f ss) ∙ nth-map_trees f (statement_trees ss) k

  -- the scopes round a place
  scopes_round-map_scope : (s : ScopeOf M) (path : List ℕ) → scopes_round (map_scope s) path ≡ map map_placed_scope (scopes_round s path)
  scopes_round-map_scope s [] = refl
  scopes_round-map_scope s (k ∷ ks) =
      let went : TreeOf N → List (PlacedScope N) = λ c. entered 1 c ks in
      let go : TreeOf M → List (PlacedScope M) = λ c. entered 1 c ks in
      ap (λ (o : Option (TreeOf N)). unwrap_or (option_map went o) [] ++ (0, map_scope s) ∷ []) (nth-map_statements s.statements k)
      ∙ ap (λ (ps : List (PlacedScope N)). ps ++ (0, map_scope s) ∷ []) (below-map_names go went (λ c. entered-map_names 1 c ks) (nth (statement_trees s.statements) k))
      ∙ sym (map-append map_placed_scope (unwrap_or (option_map go (nth (statement_trees s.statements) k)) []) ((0, s) ∷ []))

  -- the same use with its name changed
  abbrev map_use : UseOf M → UseOf N
  map_use u = record { name = f u.name; is_assignment = u.is_assignment; in_closure = u.in_closure }

  -- the parameters of a block
  is_empty-map : (ns : List M) → is_empty (map f ns) ≡ is_empty ns
  is_empty-map [] = refl
  is_empty-map (n ∷ ns) = refl

  -- literal blocks without parameters
  is_plain_block-map_names : (t : TreeOf M) → is_plain_block (map_names f t) ≡ is_plain_block t
  is_plain_block-map_names (var n) = refl
  is_plain_block-map_names (literal l) = refl
  is_plain_block-map_names (send r s args) = refl
  is_plain_block-map_names (cascade r ms) = refl
  is_plain_block-map_names (assign n t) = refl
  is_plain_block-map_names (block ps ts ss e) = is_empty-map ps
  is_plain_block-map_names (brace ts) = refl
  is_plain_block-map_names (return t) = refl

  are_plain_blocks-map_trees : (ts : TreesOf M) → are_plain_blocks (map_trees f ts) ≡ are_plain_blocks ts
  are_plain_blocks-map_trees no_trees = refl
  are_plain_blocks-map_trees (more_trees t ts) = λ i. is_plain_block-map_names t i && are_plain_blocks-map_trees ts i

  -- what a form demands
  meets-map_names : (form : ControlForm) (r : TreeOf M) (args : TreesOf M) → meets form (map_names f r) (map_trees f args) ≡ meets form r args
  meets-map_names OneBlock r args = λ i. (count-map_trees f args i == 1) && are_plain_blocks-map_trees args i
  meets-map_names TwoBlocks r args = λ i. (count-map_trees f args i == 2) && are_plain_blocks-map_trees args i
  meets-map_names Loop r args = λ i. is_plain_block-map_names r i && ((count-map_trees f args i == 1) && are_plain_blocks-map_trees args i)
  meets-map_names NoControl r args = refl

  -- the node where a path into a scope leads
  part_among-map_scope : (s : ScopeOf M) (path : List ℕ)
      → part_among (statement_trees (map_statements f s.statements)) path ≡ option_map (map_names f) (part_among (statement_trees s.statements) path)
  part_among-map_scope s [] = refl
  part_among-map_scope s (k ∷ ks) =
      ap (option_and_then (λ c. part_at c ks)) (nth-map_statements s.statements k)
      ∙ (elim (nth (statement_trees s.statements) k) as (λ o. option_and_then (λ c. part_at c ks) (option_map (map_names f) o) ≡ option_map (map_names f) (option_and_then (λ c. part_at c ks) o)) [
        | None ↦ refl
        | Some c ↦ part_at-map_names f c ks
      ])

  -- the scope at a path
  scope_at-map_scope : (s : ScopeOf M) (path : List ℕ) → scope_at (map_scope s) path ≡ option_map map_scope (scope_at s path)
  scope_at-map_scope s [] = refl
  scope_at-map_scope s (k ∷ ks) =
      ap (option_and_then block_scope) (part_among-map_scope s (k ∷ ks))
      ∙ (elim (part_among (statement_trees s.statements) (k ∷ ks)) as (λ o. option_and_then block_scope (option_map (map_names f) o) ≡ option_map map_scope (option_and_then block_scope o)) [
        | None ↦ refl
        | Some c ↦ block_scope-map_names c
      ])

module _ {M N : Type 0} (P : M → Type 0) (f : M → N) (before : NameTests M) (after : NameTests N) (keeps : KeepsAnswers P f before after) where
  -- being among names
  is_among-map : (ns : List M) (n : M) → AllByRecursion P ns → P n → is_among after.same (map f ns) (f n) ≡ is_among before.same ns n
  is_among-map [] n p q = refl
  is_among-map (k ∷ ns) n p q = λ i. keeps.same n k q p.0 i || is_among-map ns n p.1 q i

  -- what scopes say of a name
  local_by-map : (ps : List (PlacedScope M)) (n : M) → AllScopes P ps → P n → local_by after.same (map (map_placed_scope f) ps) (f n) ≡ local_by before.same ps n
  local_by-map [] n p q = refl
  local_by-map (s ∷ ps) n p q =
      λ i. cond (is_among-map s.1.arguments n p.0.arguments q i) (Argument s.0) (cond (is_among-map s.1.temporaries n p.0.temporaries q i) (Temporary s.0) (local_by-map ps n p.1 q i))

  -- what a name stands for in a scope
  pub local_in_scope-map_scope : (s : ScopeOf M) (path : List ℕ) (n : M) → ScopeNames P s → P n
      → local_in_scope after.same after.is_pseudo (map_scope f s) path (f n) ≡ local_in_scope before.same before.is_pseudo s path n
  local_in_scope-map_scope s path n p q =
      ap (λ b. cond b NotLocal (local_by after.same (scopes_round (map_scope f s) path) (f n))) (keeps.is_pseudo n q)
      ∙ ap (λ (ps : List (PlacedScope N)). cond (before.is_pseudo n) NotLocal (local_by after.same ps (f n))) (scopes_round-map_scope f s path)
      ∙ ap (cond (before.is_pseudo n) NotLocal) (local_by-map (scopes_round s path) n (AllScopes-scopes_round P s path p) q)

  -- whether a block declares a name
  declares-map : (ps ts : List M) (n : M) → AllByRecursion P ps → AllByRecursion P ts → P n
      → declares after.same after.is_pseudo (map f ps) (map f ts) (f n) ≡ declares before.same before.is_pseudo ps ts n
  declares-map ps ts n p q r = λ i. not (keeps.is_pseudo n r i) && (is_among-map ps n p r i || is_among-map ts n q r i)

  -- each name once is one of the names
  AllByRecursion-each_once : (ns : List M) → AllByRecursion P ns → AllByRecursion P (each_once before.same ns)
  AllByRecursion-each_once [] p = tt
  AllByRecursion-each_once (n ∷ ns) p = (p.0, AllByRecursion-filter P _ _ (AllByRecursion-each_once ns p.1))

  -- each name in a list, once
  each_once-map : (ns : List M) → AllByRecursion P ns → each_once after.same (map f ns) ≡ map f (each_once before.same ns)
  each_once-map [] p = refl
  each_once-map (n ∷ ns) p =
      ap (λ (ks : List N). f n ∷ filter (λ k. not (after.same (f n) k)) ks) (each_once-map ns p.1)
      ∙ ap (λ (ks : List N). f n ∷ ks)
      (filter-map f (λ k. not (before.same n k)) (λ k. not (after.same (f n) k)) (each_once before.same ns)
      (AllByRecursion-implies P _ (λ k q. ap not (keeps.same n k p.0 q)) _ (AllByRecursion-each_once ns p.1)))

  -- free names are names of the tree
  mutual
    AllByRecursion-free_occurrences : (t : TreeOf M) → AllNames P t → AllByRecursion P (free_occurrences before.same before.is_pseudo t)
    AllByRecursion-free_occurrences (var n) p = (p, tt)
    AllByRecursion-free_occurrences (literal l) p = tt
    AllByRecursion-free_occurrences (send r s args) p = AllByRecursion-append P _ _ (AllByRecursion-free_occurrences r p.0) (AllByRecursion-free_in_trees args p.2)
    AllByRecursion-free_occurrences (cascade r ms) p = AllByRecursion-append P _ _ (AllByRecursion-free_occurrences r p.0) (AllByRecursion-free_in_messages ms p.1)
    AllByRecursion-free_occurrences (assign n t) p = (p.0, AllByRecursion-free_occurrences t p.1)
    AllByRecursion-free_occurrences (block ps ts ss e) p = AllByRecursion-filter P _ _ (AllByRecursion-free_in_statements ss p.2)
    AllByRecursion-free_occurrences (brace ts) p = AllByRecursion-free_in_trees ts p
    AllByRecursion-free_occurrences (return t) p = AllByRecursion-free_occurrences t p

    AllByRecursion-free_in_trees : (ts : TreesOf M) → TreesNames P ts → AllByRecursion P (free_in_trees before.same before.is_pseudo ts)
    AllByRecursion-free_in_trees no_trees p = tt
    AllByRecursion-free_in_trees (more_trees t ts) p = AllByRecursion-append P _ _ (AllByRecursion-free_occurrences t p.0) (AllByRecursion-free_in_trees ts p.1)

    AllByRecursion-free_in_messages : (ms : MessagesOf M) → MessagesNames P ms → AllByRecursion P (free_in_messages before.same before.is_pseudo ms)
    AllByRecursion-free_in_messages no_messages p = tt
    AllByRecursion-free_in_messages (more_messages s args ms) p = AllByRecursion-append P _ _ (AllByRecursion-free_in_trees args p.1) (AllByRecursion-free_in_messages ms p.2)

    AllByRecursion-free_in_statements : (ss : StatementsOf M) → StatementsNames P ss → AllByRecursion P (free_in_statements before.same before.is_pseudo ss)
    AllByRecursion-free_in_statements no_statements p = tt
    AllByRecursion-free_in_statements (more_statements c t ss) p = AllByRecursion-append P _ _ (AllByRecursion-free_occurrences t p.0) (AllByRecursion-free_in_statements ss p.1)

  -- the free names
  mutual
    free_occurrences-map_names : (t : TreeOf M) → AllNames P t
        → free_occurrences after.same after.is_pseudo (map_names f t) ≡ map f (free_occurrences before.same before.is_pseudo t)
    free_occurrences-map_names (var n) p = refl
    free_occurrences-map_names (literal l) p = refl
    free_occurrences-map_names (send r s args) p =
        (λ i. free_occurrences-map_names r p.0 i ++ free_in_trees-map_trees args p.2 i) ∙ sym (map-append f _ _)
    free_occurrences-map_names (cascade r ms) p =
        (λ i. free_occurrences-map_names r p.0 i ++ free_in_messages-map_messages ms p.1 i) ∙ sym (map-append f _ _)
    free_occurrences-map_names (assign n t) p = ap (λ (ks : List N). f n ∷ ks) (free_occurrences-map_names t p.1)
    free_occurrences-map_names (block ps ts ss e) p =
        ap (filter (λ n. not (declares after.same after.is_pseudo (map f ps) (map f ts) n))) (free_in_statements-map_statements ss p.2)
        ∙ filter-map f (λ n. not (declares before.same before.is_pseudo ps ts n)) (λ n. not (declares after.same after.is_pseudo (map f ps) (map f ts) n))
        (free_in_statements before.same before.is_pseudo ss)
        (AllByRecursion-implies P _ (λ n q. ap not (declares-map ps ts n p.0 p.1 q)) _ (AllByRecursion-free_in_statements ss p.2))
    free_occurrences-map_names (brace ts) p = free_in_trees-map_trees ts p
    free_occurrences-map_names (return t) p = free_occurrences-map_names t p

    free_in_trees-map_trees : (ts : TreesOf M) → TreesNames P ts
        → free_in_trees after.same after.is_pseudo (map_trees f ts) ≡ map f (free_in_trees before.same before.is_pseudo ts)
    free_in_trees-map_trees no_trees p = refl
    free_in_trees-map_trees (more_trees t ts) p =
        (λ i. free_occurrences-map_names t p.0 i ++ free_in_trees-map_trees ts p.1 i) ∙ sym (map-append f _ _)

    free_in_messages-map_messages : (ms : MessagesOf M) → MessagesNames P ms
        → free_in_messages after.same after.is_pseudo (map_messages f ms) ≡ map f (free_in_messages before.same before.is_pseudo ms)
    free_in_messages-map_messages no_messages p = refl
    free_in_messages-map_messages (more_messages s args ms) p =
        (λ i. free_in_trees-map_trees args p.1 i ++ free_in_messages-map_messages ms p.2 i) ∙ sym (map-append f _ _)

    free_in_statements-map_statements : (ss : StatementsOf M) → StatementsNames P ss
        → free_in_statements after.same after.is_pseudo (map_statements f ss) ≡ map f (free_in_statements before.same before.is_pseudo ss)
    free_in_statements-map_statements no_statements p = refl
    free_in_statements-map_statements (more_statements c t ss) p =
        (λ i. free_occurrences-map_names t p.0 i ++ free_in_statements-map_statements ss p.1 i) ∙ sym (map-append f _ _)

  -- the free names of a tree, each once
  pub free_names-map_names : (t : TreeOf M) → AllNames P t → free_names after.same after.is_pseudo (map_names f t) ≡ map f (free_names before.same before.is_pseudo t)
  free_names-map_names t p = ap (each_once after.same) (free_occurrences-map_names t p) ∙ each_once-map _ (AllByRecursion-free_occurrences t p)

  -- the free names of statements, each once
  pub free_names_of_run-map_statements : (ss : StatementsOf M) → StatementsNames P ss
      → free_names_of_run after.same after.is_pseudo (map_statements f ss) ≡ map f (free_names_of_run before.same before.is_pseudo ss)
  free_names_of_run-map_statements ss p = ap (each_once after.same) (free_in_statements-map_statements ss p) ∙ each_once-map _ (AllByRecursion-free_in_statements ss p)

  -- what is a control send
  meets_form-map_names : (s : M) (r : TreeOf M) (args : TreesOf M) → P s → meets (after.form (f s)) (map_names f r) (map_trees f args) ≡ meets (before.form s) r args
  meets_form-map_names s r args p = ap (λ form. meets form (map_names f r) (map_trees f args)) (keeps.form s p) ∙ meets-map_names f (before.form s) r args

  pub is_control-map_names : (t : TreeOf M) → AllNames P t → is_control after.form (map_names f t) ≡ is_control before.form t
  is_control-map_names (var n) p = refl
  is_control-map_names (literal l) p = refl
  is_control-map_names (send r s args) p = meets_form-map_names s r args p.1
  is_control-map_names (cascade r ms) p = refl
  is_control-map_names (assign n t) p = refl
  is_control-map_names (block ps ts ss e) p = refl
  is_control-map_names (brace ts) p = refl
  is_control-map_names (return t) p = refl

  -- a fact of the names of uses
  abbrev AllUses : List (UseOf M) → Type 0
  AllUses = AllByRecursion (λ u. P u.name)

  AllUses-enclosed : (us : List (UseOf M)) → AllUses us → AllUses (map enclosed us)
  AllUses-enclosed [] p = tt
  AllUses-enclosed (u ∷ us) p = (p.0, AllUses-enclosed us p.1)

  AllUses-uses_in_block : (in_place : Bool) (us : List (UseOf M)) → AllUses us → AllUses (uses_in_block in_place us)
  AllUses-uses_in_block true us p = p
  AllUses-uses_in_block false us p = AllUses-enclosed us p

  -- uses are of names of the tree
  mutual
    AllUses-uses : (in_place : Bool) (t : TreeOf M) → AllNames P t → AllUses (uses before.same before.is_pseudo before.form in_place t)
    AllUses-uses in_place (var n) p = (p, tt)
    AllUses-uses in_place (literal l) p = tt
    AllUses-uses in_place (send r s args) p =
        AllByRecursion-append (λ u. P u.name) _ _ (AllUses-uses (is_loop (before.form s) && meets (before.form s) r args) r p.0) (AllUses-trees_uses (meets (before.form s) r args) args p.2)
    AllUses-uses in_place (cascade r ms) p = AllByRecursion-append (λ u. P u.name) _ _ (AllUses-uses false r p.0) (AllUses-messages_uses ms p.1)
    AllUses-uses in_place (assign n t) p = (p.0, AllUses-uses false t p.1)
    AllUses-uses in_place (block ps ts ss e) p =
        AllUses-uses_in_block in_place _ (AllByRecursion-filter (λ u. P u.name) _ _ (AllUses-statements_uses ss p.2))
    AllUses-uses in_place (brace ts) p = AllUses-trees_uses false ts p
    AllUses-uses in_place (return t) p = AllUses-uses false t p

    AllUses-trees_uses : (in_place : Bool) (ts : TreesOf M) → TreesNames P ts → AllUses (trees_uses before.same before.is_pseudo before.form in_place ts)
    AllUses-trees_uses in_place no_trees p = tt
    AllUses-trees_uses in_place (more_trees t ts) p =
        AllByRecursion-append (λ u. P u.name) _ _ (AllUses-uses in_place t p.0) (AllUses-trees_uses in_place ts p.1)

    AllUses-messages_uses : (ms : MessagesOf M) → MessagesNames P ms → AllUses (messages_uses before.same before.is_pseudo before.form ms)
    AllUses-messages_uses no_messages p = tt
    AllUses-messages_uses (more_messages s args ms) p =
        AllByRecursion-append (λ u. P u.name) _ _ (AllUses-trees_uses false args p.1) (AllUses-messages_uses ms p.2)

    AllUses-statements_uses : (ss : StatementsOf M) → StatementsNames P ss → AllUses (statements_uses before.same before.is_pseudo before.form ss)
    AllUses-statements_uses no_statements p = tt
    AllUses-statements_uses (more_statements c t ss) p =
        AllByRecursion-append (λ u. P u.name) _ _ (AllUses-uses false t p.0) (AllUses-statements_uses ss p.1)

  -- uses that stand in a closure
  map-enclosed : (us : List (UseOf M)) → map enclosed (map (map_use f) us) ≡ map (map_use f) (map enclosed us)
  map-enclosed [] = refl
  map-enclosed (u ∷ us) = ap (λ (ks : List (UseOf N)). map_use f (enclosed u) ∷ ks) (map-enclosed us)

  uses_in_block-map : (in_place : Bool) (us : List (UseOf M)) → uses_in_block in_place (map (map_use f) us) ≡ map (map_use f) (uses_in_block in_place us)
  uses_in_block-map true us = refl
  uses_in_block-map false us = map-enclosed us

  -- the uses
  mutual
    uses-map_names : (in_place : Bool) (t : TreeOf M) → AllNames P t
        → uses after.same after.is_pseudo after.form in_place (map_names f t) ≡ map (map_use f) (uses before.same before.is_pseudo before.form in_place t)
    uses-map_names in_place (var n) p = refl
    uses-map_names in_place (literal l) p = refl
    uses-map_names in_place (send r s args) p =
        (λ i. uses after.same after.is_pseudo after.form (is_loop (keeps.form s p.1 i) && meets_form-map_names s r args p.1 i) (map_names f r)
        ++ trees_uses after.same after.is_pseudo after.form (meets_form-map_names s r args p.1 i) (map_trees f args))
        ∙ (λ i. uses-map_names (is_loop (before.form s) && meets (before.form s) r args) r p.0 i ++ trees_uses-map_trees (meets (before.form s) r args) args p.2 i)
        ∙ sym (map-append (map_use f) _ _)
    uses-map_names in_place (cascade r ms) p =
        (λ i. uses-map_names false r p.0 i ++ messages_uses-map_messages ms p.1 i) ∙ sym (map-append (map_use f) _ _)
    uses-map_names in_place (assign n t) p =
        ap (λ (us : List (UseOf N)). record { name = f n; is_assignment = true; in_closure = false } ∷ us) (uses-map_names false t p.1)
    uses-map_names in_place (block ps ts ss e) p =
        ap (λ (us : List (UseOf N)). uses_in_block in_place (filter (λ u. not (declares after.same after.is_pseudo (map f ps) (map f ts) u.name)) us)) (statements_uses-map_statements ss p.2)
        ∙ ap (uses_in_block in_place)
        (filter-map (map_use f) (λ u. not (declares before.same before.is_pseudo ps ts u.name)) (λ u. not (declares after.same after.is_pseudo (map f ps) (map f ts) u.name))
        (statements_uses before.same before.is_pseudo before.form ss)
        (AllByRecursion-implies (λ u. P u.name) _ (λ u q. ap not (declares-map ps ts u.name p.0 p.1 q)) _ (AllUses-statements_uses ss p.2)))
        ∙ uses_in_block-map in_place _
    uses-map_names in_place (brace ts) p = trees_uses-map_trees false ts p
    uses-map_names in_place (return t) p = uses-map_names false t p

    trees_uses-map_trees : (in_place : Bool) (ts : TreesOf M) → TreesNames P ts
        → trees_uses after.same after.is_pseudo after.form in_place (map_trees f ts) ≡ map (map_use f) (trees_uses before.same before.is_pseudo before.form in_place ts)
    trees_uses-map_trees in_place no_trees p = refl
    trees_uses-map_trees in_place (more_trees t ts) p =
        (λ i. uses-map_names in_place t p.0 i ++ trees_uses-map_trees in_place ts p.1 i) ∙ sym (map-append (map_use f) _ _)

    messages_uses-map_messages : (ms : MessagesOf M) → MessagesNames P ms
        → messages_uses after.same after.is_pseudo after.form (map_messages f ms) ≡ map (map_use f) (messages_uses before.same before.is_pseudo before.form ms)
    messages_uses-map_messages no_messages p = refl
    messages_uses-map_messages (more_messages s args ms) p =
        (λ i. trees_uses-map_trees false args p.1 i ++ messages_uses-map_messages ms p.2 i) ∙ sym (map-append (map_use f) _ _)

    statements_uses-map_statements : (ss : StatementsOf M) → StatementsNames P ss
        → statements_uses after.same after.is_pseudo after.form (map_statements f ss) ≡ map (map_use f) (statements_uses before.same before.is_pseudo before.form ss)
    statements_uses-map_statements no_statements p = refl
    statements_uses-map_statements (more_statements c t ss) p =
        (λ i. uses-map_names false t p.0 i ++ statements_uses-map_statements ss p.1 i) ∙ sym (map-append (map_use f) _ _)

  -- an assignment in a closure
  is_captured-map : (us : List (UseOf M)) (n : M) → AllUses us → P n
      → list_any (is_captured after.same (f n)) (map (map_use f) us) ≡ list_any (is_captured before.same n) us
  is_captured-map [] n p q = refl
  is_captured-map (u ∷ us) n p q = λ i. (keeps.same n u.name q p.0 i && (u.is_assignment && u.in_closure)) || is_captured-map us n p.1 q i

  -- a scope whose name is assigned in a closure
  assigned_in_closure_of-map_scope : (s : ScopeOf M) (n : M) → ScopeNames P s → P n
      → assigned_in_closure_of after.same after.is_pseudo after.form (map_scope f s) (f n) ≡ assigned_in_closure_of before.same before.is_pseudo before.form s n
  assigned_in_closure_of-map_scope s n p q =
      ap (λ (us : List (UseOf N)). declares after.same after.is_pseudo (map f s.arguments) (map f s.temporaries) (f n) && list_any (is_captured after.same (f n)) us)
      (statements_uses-map_statements s.statements p.statements)
      ∙ (λ i. declares-map s.arguments s.temporaries n p.arguments p.temporaries q i && is_captured-map (statements_uses before.same before.is_pseudo before.form s.statements) n (AllUses-statements_uses s.statements p.statements) q i)

  -- the same at a path
  pub assigned_in_closure_at-map_scope : (s : ScopeOf M) (path : List ℕ) (n : M) → ScopeNames P s → P n
      → assigned_in_closure_at after.same after.is_pseudo after.form (map_scope f s) path (f n) ≡ assigned_in_closure_at before.same before.is_pseudo before.form s path n
  assigned_in_closure_at-map_scope s path n p q =
      ap (λ (o : Option (ScopeOf N)). unwrap_or (option_map (λ inner. assigned_in_closure_of after.same after.is_pseudo after.form inner (f n)) o) false) (scope_at-map_scope f s path)
      ∙ (elim (scope_at s path)
      as (λ o. OptionScopeNames P o →
      unwrap_or (option_map (λ inner. assigned_in_closure_of after.same after.is_pseudo after.form inner (f n)) (option_map (map_scope f) o)) false
      ≡ unwrap_or (option_map (λ inner. assigned_in_closure_of before.same before.is_pseudo before.form inner n) o) false) [
        | None ↦ λ r. refl
        | Some inner ↦ λ r. assigned_in_closure_of-map_scope inner n r q
      ] (OptionScopeNames-scope_at P s path p))
