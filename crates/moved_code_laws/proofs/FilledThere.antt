-- A body with what is passed in place of its arguments, by the paths to its nodes and by what is declared round them.
use Rattle.std.proofs.Common.{◌≡◌, ◌≤◌, ℕ, suc, ◌+◌, List, [], ◌∷◌, ◌++◌, Some, None, refl, sym, ap, ◌∙◌, arith}
use Rattle.std.specs.Prelude.{Bool, true, false, if◌then◌else◌, unwrap_or}
use Rattle.std.specs.List.{AllByRecursion}
use Rattle.rb_base.specs.Names.{text_eq}
use Rattle.tree_model.specs.Tree.{TreeOf, var, literal, send, cascade, assign, block, brace, return, TreesOf, no_trees, more_trees, MessagesOf, no_messages, more_messages, StatementsOf, no_statements, more_statements, MethodOf}
use Rattle.tree_model.specs.Path.{count, all_arguments, statement_trees}
use Rattle.scope_model.specs.declared.local.Local.{Local}
use Rattle.scope_model.specs.declared.local.Local.TheVariants.{Argument, Temporary, NotLocal}
use Rattle.scope_model.specs.SpecialNames.{is_pseudo_variable}
use Rattle.scope_model.specs.Scope.{PlacedScope, method_scope, is_among, local_by}
use Rattle.run_model.specs.Values.{Name}
use Rattle.resolved_model.specs.Resolving.{Meant, MeantAt, below}
use Rattle.resolved_model.specs.Environments.{kind_in, declared_in}
use Rattle.resolved_model.proofs.Environments.{kind_of, kind-scopes}
use Rattle.resolved_model.proofs.ResolvingLemmas.{IsInScopes, AreInScopes, below-node, first-node, other-nodes, first-arguments, other-arguments}
use Rattle.rename_laws.proofs.Unnamed.{neither_left, neither_right}
use Rattle.unfolded_places.specs.Inlining.{passed_for}
use Rattle.unfolded_places.specs.Fillings.{filled_by, filled_tree, filled_trees, filled_messages, filled_statements}
use Rattle.command_model.specs.Places.{is_formal}
use Rattle.command_model.specs.Inlined.{passed_as}
use Rattle.command_model.specs.Walk.{Making, onward, rebuilt, rebuilt_trees, rebuilt_messages, rebuilt_statements}
use Rattle.moved_code_laws.proofs.LocalsThere.{or_local, local-inside, IsDeep, IsOfDeep, local-deep, not-zero}
use Rattle.moved_code_laws.proofs.Saying.{alone, said, said_by, said-scopes}

-- what is passed for a name, asked from either side
pub passed-same : (xs : List Name) (ts : TreesOf Name) (n : Name) → passed_as text_eq xs ts n ≡ passed_for xs ts n
passed-same [] no_trees n = refl
passed-same [] (more_trees t ts) n = refl
passed-same (x ∷ xs) no_trees n = refl
passed-same (x ∷ xs) (more_trees t ts) n = ap (λ o. if text_eq n x then Some t else o) (passed-same xs ts n)

-- nothing is passed for a name that is no argument
pub passed-none : (xs : List Name) (ts : TreesOf Name) (n : Name) → is_among text_eq xs n ≡ false → passed_for xs ts n ≡ None
passed-none [] ts n e = refl
passed-none (x ∷ xs) no_trees n e = refl
passed-none (x ∷ xs) (more_trees t ts) n e = ap (λ b. if b then Some t else passed_for xs ts n) (neither_left (text_eq n x) _ e) ∙ passed-none xs ts n (neither_right (text_eq n x) _ e)

module _ (m : MethodOf Name) (passed : TreesOf Name) where
  -- a node with what is passed for it, by what is said of it
  abbrev pub node_filled : (Name → Meant) → TreeOf Name → TreeOf Name
  node_filled here (var n) = unwrap_or (if is_formal (said (here n)) then passed_as text_eq m.arguments passed n else None) (var n)
  node_filled here (literal l) = literal l
  node_filled here (send r s args) = send r s args
  node_filled here (cascade r ms) = cascade r ms
  node_filled here (assign n t) = assign n t
  node_filled here (block ps ts ss e) = block ps ts ss e
  node_filled here (brace ts) = brace ts
  node_filled here (return t) = return t

  -- nodes are made so
  abbrev pub Fills : Making Name → MeantAt → Type 0
  Fills f at = (path : List ℕ) (u : TreeOf Name) → f path u ≡ node_filled (at path) u

  -- the scope of the method
  abbrev base : List (PlacedScope Name)
  base = (0, method_scope m) ∷ []

  module _ (n : Name) where
    -- in the method's own scope
    at-base : (b c : Bool) → is_among text_eq m.arguments n ≡ b →
        unwrap_or (if is_formal (if b then Argument 0 else if c then Temporary 0 else NotLocal) then passed_as text_eq m.arguments passed n else None) (var n) ≡ unwrap_or (passed_for m.arguments passed n) (var n)
    at-base true c e = ap (λ o. unwrap_or o (var n)) (passed-same m.arguments passed n)
    at-base false true e = sym (ap (λ o. unwrap_or o (var n)) (passed-none m.arguments passed n e))
    at-base false false e = sym (ap (λ o. unwrap_or o (var n)) (passed-none m.arguments passed n e))

    by-local : (l : Local) → IsOfDeep 1 l → unwrap_or (if is_formal (or_local l (local_by text_eq base n)) then passed_as text_eq m.arguments passed n else None) (var n) ≡ filled_by m.arguments passed (kind_of l) n
    by-local (Argument scope) h = ap (λ b. unwrap_or (if b then passed_as text_eq m.arguments passed n else None) (var n)) (not-zero scope h)
    by-local (Temporary scope) h = refl
    by-local NotLocal h = at-base (is_among text_eq m.arguments n) (is_among text_eq m.body.temporaries n) refl

    -- a name inside blocks
    name-filled : (inner : List (PlacedScope Name)) → AllByRecursion (IsDeep 1) inner →
        unwrap_or (if is_formal (said_by (inner ++ base) n) then passed_as text_eq m.arguments passed n else None) (var n) ≡ (if is_pseudo_variable n then var n else filled_by m.arguments passed (kind_in (declared_in inner) n) n)
    name-filled inner deep = by (is_pseudo_variable n)
      where
        by : (b : Bool) → unwrap_or (if is_formal (if b then NotLocal else local_by text_eq (inner ++ base) n) then passed_as text_eq m.arguments passed n else None) (var n) ≡ (if b then var n else filled_by m.arguments passed (kind_in (declared_in inner) n) n)
        by true = refl
        by false =
            ap (λ l. unwrap_or (if is_formal l then passed_as text_eq m.arguments passed n else None) (var n)) (local-inside inner base n)
            ∙ by-local (local_by text_eq inner n) (local-deep 1 inner n deep)
            ∙ ap (λ o. filled_by m.arguments passed o n) (sym (kind-scopes inner n))

  mutual
    -- a node
    pub tree-filled : (t : TreeOf Name) (f : Making Name) (d : ℕ) (inner : List (PlacedScope Name)) (at : MeantAt) → 1 ≤ d → AllByRecursion (IsDeep 1) inner → Fills f at → IsInScopes alone d t (inner ++ base) at →
        rebuilt f t ≡ filled_tree m.arguments passed (declared_in inner) t
    tree-filled (var n) f d inner at q deep c h =
        c [] (var n) ∙ ap (λ l. unwrap_or (if is_formal l then passed_as text_eq m.arguments passed n else None) (var n)) (ap said (h [] n) ∙ said-scopes (inner ++ base) n)
        ∙ name-filled n inner deep
    tree-filled (literal l) f d inner at q deep c h = c [] (literal l)
    tree-filled (send r s args) f d inner at q deep c h =
        let k = below-node alone d (send r s args) (inner ++ base) at h in
        c [] (send (rebuilt (onward 0 f) r) s (rebuilt_trees f 1 args))
        ∙ (λ z. send (tree-filled r (onward 0 f) (d + 1) inner (below 0 at) (omega (arith, q)) deep (λ path u. c (0 ∷ path) u) (first-node alone (d + 1) r args 0 (inner ++ base) at k) z) s
        (trees-filled args f (d + 1) 1 inner at (omega (arith, q)) deep c (other-nodes alone (d + 1) r args 0 (inner ++ base) at k) z))
    tree-filled (cascade r ms) f d inner at q deep c h =
        let k = below-node alone d (cascade r ms) (inner ++ base) at h in
        c [] (cascade (rebuilt (onward 0 f) r) (rebuilt_messages f 1 ms))
        ∙ (λ z. cascade (tree-filled r (onward 0 f) (d + 1) inner (below 0 at) (omega (arith, q)) deep (λ path u. c (0 ∷ path) u) (first-node alone (d + 1) r (all_arguments ms) 0 (inner ++ base) at k) z)
        (messages-filled ms f (d + 1) 1 inner at (omega (arith, q)) deep c (other-nodes alone (d + 1) r (all_arguments ms) 0 (inner ++ base) at k) z))
    tree-filled (assign n t) f d inner at q deep c h =
        let k = below-node alone d (assign n t) (inner ++ base) at h in
        c [] (assign n (rebuilt (onward 0 f) t))
        ∙ ap (assign n) (tree-filled t (onward 0 f) (d + 1) inner (below 0 at) (omega (arith, q)) deep (λ path u. c (0 ∷ path) u) (first-node alone (d + 1) t no_trees 0 (inner ++ base) at k))
    tree-filled (block ps ts ss e) f d inner at q deep c h =
        c [] (block ps ts (rebuilt_statements f 0 ss) e)
        ∙ ap (λ x. block ps ts x e) (statements-filled ss f (d + 1) 0 ((d, record { arguments = ps; temporaries = ts; statements = ss }) ∷ inner) at (omega (arith, q)) (q, deep) c (below-node alone d (block ps ts ss e) (inner ++ base) at h))
    tree-filled (brace ts) f d inner at q deep c h =
        c [] (brace (rebuilt_trees f 0 ts)) ∙ ap brace (trees-filled ts f (d + 1) 0 inner at (omega (arith, q)) deep c (below-node alone d (brace ts) (inner ++ base) at h))
    tree-filled (return t) f d inner at q deep c h =
        let k = below-node alone d (return t) (inner ++ base) at h in
        c [] (return (rebuilt (onward 0 f) t))
        ∙ ap return (tree-filled t (onward 0 f) (d + 1) inner (below 0 at) (omega (arith, q)) deep (λ path u. c (0 ∷ path) u) (first-node alone (d + 1) t no_trees 0 (inner ++ base) at k))

    trees-filled : (ts : TreesOf Name) (f : Making Name) (d k : ℕ) (inner : List (PlacedScope Name)) (at : MeantAt) → 1 ≤ d → AllByRecursion (IsDeep 1) inner → Fills f at → AreInScopes alone d ts k (inner ++ base) at →
        rebuilt_trees f k ts ≡ filled_trees m.arguments passed (declared_in inner) ts
    trees-filled no_trees f d k inner at q deep c h = refl
    trees-filled (more_trees t ts) f d k inner at q deep c h =
        λ z. more_trees (tree-filled t (onward k f) d inner (below k at) q deep (λ path u. c (k ∷ path) u) (first-node alone d t ts k (inner ++ base) at h) z)
        (trees-filled ts f d (suc k) inner at q deep c (other-nodes alone d t ts k (inner ++ base) at h) z)

    messages-filled : (ms : MessagesOf Name) (f : Making Name) (d k : ℕ) (inner : List (PlacedScope Name)) (at : MeantAt) → 1 ≤ d → AllByRecursion (IsDeep 1) inner → Fills f at → AreInScopes alone d (all_arguments ms) k (inner ++ base) at →
        rebuilt_messages f k ms ≡ filled_messages m.arguments passed (declared_in inner) ms
    messages-filled no_messages f d k inner at q deep c h = refl
    messages-filled (more_messages s args ms) f d k inner at q deep c h =
        λ z. more_messages s (trees-filled args f d k inner at q deep c (first-arguments alone d args (all_arguments ms) k (inner ++ base) at h) z)
        (messages-filled ms f d (k + count args) inner at q deep c (other-arguments alone d args (all_arguments ms) k (inner ++ base) at h) z)

    pub statements-filled : (ss : StatementsOf Name) (f : Making Name) (d k : ℕ) (inner : List (PlacedScope Name)) (at : MeantAt) → 1 ≤ d → AllByRecursion (IsDeep 1) inner → Fills f at → AreInScopes alone d (statement_trees ss) k (inner ++ base) at →
        rebuilt_statements f k ss ≡ filled_statements m.arguments passed (declared_in inner) ss
    statements-filled no_statements f d k inner at q deep c h = refl
    statements-filled (more_statements n t ss) f d k inner at q deep c h =
        λ z. more_statements n (tree-filled t (onward k f) d inner (below k at) q deep (λ path u. c (k ∷ path) u) (first-node alone d t (statement_trees ss) k (inner ++ base) at h) z)
        (statements-filled ss f d (suc k) inner at q deep c (other-nodes alone d t (statement_trees ss) k (inner ++ base) at h) z)
