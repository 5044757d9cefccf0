-- In code without a fault of the grammar each assigned name is known as a temporary, or not known.
use Rattle.std.proofs.Common.{◌≡◌, ℕ, zero, suc, ◌+◌, List, [], ◌∷◌, ◌++◌, Option, Some, None, refl, sym, ap, ◌∙◌, subst}
use Rattle.std.specs.Prelude.{Bool, true, false, ◌||◌, if◌then◌else◌, option_map, option_and_then, unwrap_or}
use Rattle.std.specs.Option.{option_or}
use Rattle.std.proofs.lemmas.List.{append-nil}
use Rattle.tree_model.specs.Tree.{Notes, TreeOf, var, literal, send, cascade, assign, block, brace, return, TreesOf, no_trees, more_trees, StatementsOf}
use Rattle.tree_model.specs.Path.{append, nth, part_at, all_arguments, statement_trees, children, child}
use Rattle.scope_model.specs.Scope.{PlacedScope, own_scope, entered}
use Rattle.grammar_model.specs.Terminal.{Text}
use Rattle.grammar_model.specs.Words.{is_pseudo}
use Rattle.grammar_model.specs.Spanned.{Declared, SpannedTree, Var, Literal, Send, Cascade, Assign, Block, Brace, Return, SpannedTrees, NoTrees, MoreTrees, SpannedMessages, NoMessages, MoreMessages, SpannedStatements, NoStatements, MoreStatements, names_of, plain_tree, plain_trees, plain_messages, plain_statements}
use Rattle.grammar_model.specs.Checks.{Known, known_of, is_fixed, fixed_in, fixed_in_trees, fixed_in_messages, fixed_in_statements}
use Rattle.assignment_laws.proofs.KnownNames.{makes_fixed, scope-known}

-- neither of two
pub first-none : {X : Type 0} (a b : Option X) → option_or a b ≡ None → a ≡ None
first-none None b e = refl
first-none (Some x) b e = absurd (cc)

pub second-none : {X : Type 0} (a b : Option X) → option_or a b ≡ None → b ≡ None
second-none None b e = e
second-none (Some x) b e = absurd (cc)

-- a name may be assigned where the scopes that a path enters stand before known names
pub record MayAssign (xs : List (PlacedScope Text)) (ks : List Known) (n : Text) : Type 0 where
  pub ordinary : is_pseudo n ≡ false
  pub loose : makes_fixed xs ks n ≡ false

-- each assigned name below a node
abbrev pub AssignsFreely : List Known → TreeOf Text → Type 0
AssignsFreely ks t = (path : List ℕ) (n : Text) (u : TreeOf Text) (depth : ℕ) → part_at t path ≡ Some (assign n u) → MayAssign (entered depth t path) ks n

-- and below each of several nodes
abbrev pub EachAssignsFreely : List Known → TreesOf Text → Type 0
EachAssignsFreely ks ts = (j : ℕ) (c : TreeOf Text) → nth ts j ≡ Some c → AssignsFreely ks c

-- no node
none-free : (ks : List Known) → EachAssignsFreely ks no_trees
none-free ks j c e = absurd (cc)

-- one node before others
one-more : (ks : List Known) (t : TreeOf Text) (ts : TreesOf Text) → AssignsFreely ks t → EachAssignsFreely ks ts → EachAssignsFreely ks (more_trees t ts)
one-more ks t ts h k zero c e = let same : t ≡ c = cc in subst (AssignsFreely ks) same h
one-more ks t ts h k (suc j) c e = k j c e

-- nodes before others
both-free : (ks : List Known) (ts us : TreesOf Text) → EachAssignsFreely ks ts → EachAssignsFreely ks us → EachAssignsFreely ks (append ts us)
both-free ks no_trees us h k = k
both-free ks (more_trees t ts) us h k = one-more ks t (append ts us) (h 0 t refl) (both-free ks ts us (λ j c e. h (suc j) c e) k)

-- a node that assigns nothing itself and opens no scope
inner-free : (ks : List Known) (t : TreeOf Text) → ((n : Text) (u : TreeOf Text) → t ≡ assign n u → MayAssign [] ks n) → ((depth : ℕ) → own_scope depth t ≡ []) → EachAssignsFreely ks (children t) → AssignsFreely ks t
inner-free ks t here plain below [] n u depth e = let same : t ≡ assign n u = cc in here n u same
inner-free ks t here plain below (k ∷ path) n u depth e = by (child t k) refl
  where
    by : (o : Option (TreeOf Text)) → child t k ≡ o → MayAssign (unwrap_or (option_map (λ c. entered (depth + 1) c path) (child t k)) [] ++ own_scope depth t) ks n
    by None q = let nowhere = ap (option_and_then (λ c. part_at c path)) (sym q) ∙ e in absurd (cc)
    by (Some c) q =
        subst (λ xs. MayAssign xs ks n)
        (sym ((λ i. unwrap_or (option_map (λ x. entered (depth + 1) x path) (q i)) [] ++ plain depth i) ∙ append-nil (entered (depth + 1) c path)))
        (below k c q path n u (depth + 1) (ap (option_and_then (λ x. part_at x path)) (sym q) ∙ e))

-- a block, which opens a scope
block-free : (ks : List Known) (ps ds : List Declared) (ss : StatementsOf Text) (c : Notes) → EachAssignsFreely (known_of ps ds ++ ks) (statement_trees ss) → AssignsFreely ks (block (names_of ps) (names_of ds) ss c)
block-free ks ps ds ss c below [] n u depth e = absurd (cc)
block-free ks ps ds ss c below (k ∷ path) n u depth e = by (nth (statement_trees ss) k) refl
  where
    by : (o : Option (TreeOf Text)) → nth (statement_trees ss) k ≡ o → MayAssign (entered depth (block (names_of ps) (names_of ds) ss c) (k ∷ path)) ks n
    by None q = let nowhere = ap (option_and_then (λ x. part_at x path)) (sym q) ∙ e in absurd (cc)
    by (Some t) q =
        let inside = below k t q path n u (depth + 1) (ap (option_and_then (λ x. part_at x path)) (sym q) ∙ e) in
        let scope : PlacedScope Text = (depth, record { arguments = names_of ps; temporaries = names_of ds; statements = ss }) in
        let there : unwrap_or (option_map (λ x. entered (depth + 1) x path) (nth (statement_trees ss) k)) [] ≡ entered (depth + 1) t path = ap (λ o. unwrap_or (option_map (λ x. entered (depth + 1) x path) o) []) q in
        record {
          ordinary = inside.ordinary;
          loose = ap (λ xs. makes_fixed (xs ++ scope ∷ []) ks n) there ∙ scope-known (entered (depth + 1) t path) scope ps ds ks n refl refl ∙ inside.loose;
        }

-- neither of two tests holds where nothing is told
neither : (a b : Bool) (f : ℕ) (o : Option ℕ) → (if a || b then Some f else o) ≡ None → (a ≡ false) × (b ≡ false) × (o ≡ None)
neither true b f o e = absurd (cc)
neither false true f o e = absurd (cc)
neither false false f o e = (refl, refl, e)

mutual
  -- a tree
  tree-free : (t : SpannedTree) (ks : List Known) → fixed_in ks t ≡ None → AssignsFreely ks (plain_tree t)
  tree-free (Var f e n) ks h = inner-free ks (var n) (λ m u q. absurd (cc)) (λ depth. refl) (none-free ks)
  tree-free (Literal f e l) ks h = inner-free ks (literal l) (λ m u q. absurd (cc)) (λ depth. refl) (none-free ks)
  tree-free (Send f e r s xs) ks h =
      inner-free ks (send (plain_tree r) s (plain_trees xs)) (λ m u q. absurd (cc)) (λ depth. refl)
      (one-more ks (plain_tree r) (plain_trees xs) (tree-free r ks (first-none (fixed_in ks r) (fixed_in_trees ks xs) h)) (trees-free xs ks (second-none (fixed_in ks r) (fixed_in_trees ks xs) h)))
  tree-free (Cascade f e r ms) ks h =
      inner-free ks (cascade (plain_tree r) (plain_messages ms)) (λ m u q. absurd (cc)) (λ depth. refl)
      (one-more ks (plain_tree r) (all_arguments (plain_messages ms)) (tree-free r ks (first-none (fixed_in ks r) (fixed_in_messages ks ms) h)) (messages-free ms ks (second-none (fixed_in ks r) (fixed_in_messages ks ms) h)))
  tree-free (Assign f e n t) ks h =
      let none = neither (is_pseudo n) (is_fixed ks n) f (fixed_in ks t) h in
      inner-free ks (assign n (plain_tree t)) (λ m u q. let same : n ≡ m = cc in subst (MayAssign [] ks) same (record { ordinary = none.0; loose = none.1 })) (λ depth. refl)
      (one-more ks (plain_tree t) no_trees (tree-free t ks none.2) (none-free ks))
  tree-free (Block f e ps ds ss c) ks h = block-free ks ps ds (plain_statements ss) c (statements-free ss (known_of ps ds ++ ks) h)
  tree-free (Brace f e ts) ks h = inner-free ks (brace (plain_trees ts)) (λ m u q. absurd (cc)) (λ depth. refl) (trees-free ts ks h)
  tree-free (Return f e t) ks h = inner-free ks (return (plain_tree t)) (λ m u q. absurd (cc)) (λ depth. refl) (one-more ks (plain_tree t) no_trees (tree-free t ks h) (none-free ks))

  trees-free : (ts : SpannedTrees) (ks : List Known) → fixed_in_trees ks ts ≡ None → EachAssignsFreely ks (plain_trees ts)
  trees-free NoTrees ks h = none-free ks
  trees-free (MoreTrees t ts) ks h =
      one-more ks (plain_tree t) (plain_trees ts) (tree-free t ks (first-none (fixed_in ks t) (fixed_in_trees ks ts) h)) (trees-free ts ks (second-none (fixed_in ks t) (fixed_in_trees ks ts) h))

  messages-free : (ms : SpannedMessages) (ks : List Known) → fixed_in_messages ks ms ≡ None → EachAssignsFreely ks (all_arguments (plain_messages ms))
  messages-free NoMessages ks h = none-free ks
  messages-free (MoreMessages s xs ms) ks h =
      both-free ks (plain_trees xs) (all_arguments (plain_messages ms)) (trees-free xs ks (first-none (fixed_in_trees ks xs) (fixed_in_messages ks ms) h)) (messages-free ms ks (second-none (fixed_in_trees ks xs) (fixed_in_messages ks ms) h))

  pub statements-free : (ss : SpannedStatements) (ks : List Known) → fixed_in_statements ks ss ≡ None → EachAssignsFreely ks (statement_trees (plain_statements ss))
  statements-free NoStatements ks h = none-free ks
  statements-free (MoreStatements c f t ss) ks h =
      one-more ks (plain_tree t) (statement_trees (plain_statements ss)) (tree-free t ks (first-none (fixed_in ks t) (fixed_in_statements ks ss) h)) (statements-free ss ks (second-none (fixed_in ks t) (fixed_in_statements ks ss) h))
