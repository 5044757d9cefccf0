-- A name is free in code where a node reads or assigns it that stands in no block that declares it.
use Rattle.std.proofs.Common.{◌≡◌, ℕ, zero, suc, ◌+◌, Bool, true, false, not, cond, ◌&&◌, ◌||◌, List, [], ◌∷◌, ◌++◌, Option, Some, option_map, unwrap_or, refl, sym, ap, ◌∙◌, arith}
use Rattle.std.specs.Prelude.{nat_eq, filter}
use Rattle.std.specs.List.{list_any}
use Rattle.std.specs.Option.{option_map_or}
use Rattle.std.proofs.Math.Bool.{and_assoc, and_comm}
use Rattle.std.proofs.lemmas.Bool.{eqb-true}
use Rattle.std.proofs.lemmas.List.Folds.{list_any-append}
use Rattle.std.proofs.lemmas.Map.Views.{any-filter_same}
use Rattle.tree_model.specs.Tree.{TreeOf, var, literal, send, cascade, assign, block, brace, return, TreesOf, no_trees, more_trees, MessagesOf, no_messages, more_messages, StatementsOf, no_statements, more_statements}
use Rattle.tree_model.specs.Path.{append, count, nth, all_arguments, statement_trees, children}
use Rattle.tree_model.specs.Nodes.{Placed, below_step, tree_nodes, trees_nodes, messages_nodes, statements_nodes}
use Rattle.tree_model.proofs.Children.{nth-append_right}
use Rattle.scope_model.specs.declared.local.Local.{Local}
use Rattle.scope_model.specs.declared.local.Local.TheVariants.{Argument, Temporary, NotLocal}
use Rattle.scope_model.specs.Scope.{ScopeOf, PlacedScope, own_scope, entered, scopes_round, is_among, local_by, declares}
use Rattle.scope_model.specs.FreeNames.{free_occurrences, free_in_trees, free_in_messages, free_in_statements}
use Rattle.image_model.specs.Uses.{name_used}
use Rattle.code_questions.proofs.Witnesses.{any-mapped}
use Rattle.use_questions.proofs.Tests.{or-and}

-- whether a name stands for no declaration
abbrev pub is_outside : Local → Bool
is_outside (Argument scope) = false
is_outside (Temporary scope) = false
is_outside NotLocal = true

-- a test behind another one, and a test more
turned : (a b c : Bool) → (a && (b && c)) ≡ ((b && a) && c)
turned a b c = sym (and_assoc a b c) ∙ ap (λ (d : Bool). d && c) (and_comm a b)

alone : (a c : Bool) → (a && c || false) ≡ ((a || false) && c)
alone true true = refl
alone true false = refl
alone false c = refl

-- the first of two lists has its items in both
nth-left : (ts us : TreesOf ℕ) (j : ℕ) (t : TreeOf ℕ) → nth ts j ≡ Some t → nth (append ts us) j ≡ Some t
nth-left no_trees us j t e = absurd (cc)
nth-left (more_trees u ts) us zero t e = e
nth-left (more_trees u ts) us (suc j) t e = nth-left ts us j t e

-- x is a name, and no pseudo-variable
module _ (is_pseudo : ℕ → Bool) (x : ℕ) (ordinary : is_pseudo x ≡ false) where
  -- no scope of these declares it
  abbrev pub is_open : List (PlacedScope ℕ) → Bool
  is_open ps = is_outside (local_by nat_eq ps x)

  open-append : (ps qs : List (PlacedScope ℕ)) → is_open (ps ++ qs) ≡ (is_open ps && is_open qs)
  open-append [] qs = refl
  open-append (p ∷ ps) qs = by (is_among nat_eq p.1.arguments x) (is_among nat_eq p.1.temporaries x) (open-append ps qs)
    where
      by : (a t : Bool) → is_open (ps ++ qs) ≡ (is_open ps && is_open qs)
          → is_outside (cond a (Argument p.0) (cond t (Temporary p.0) (local_by nat_eq (ps ++ qs) x))) ≡ (is_outside (cond a (Argument p.0) (cond t (Temporary p.0) (local_by nat_eq ps x))) && is_open qs)
      by true t rest = refl
      by false true rest = refl
      by false false rest = rest

  -- a path from a node passes a test where none of the scopes declares the name that it enters, and what is known round the node holds
  abbrev IsOpenBelow : ℕ → TreeOf ℕ → Bool → (List ℕ → Bool) → Type 0
  IsOpenBelow d t round q = (path : List ℕ) → q path ≡ (is_open (entered d t path) && round)

  -- the same from nodes to which the steps from k on lead
  abbrev AreOpenBelow : ℕ → TreesOf ℕ → ℕ → Bool → (List ℕ → Bool) → Type 0
  AreOpenBelow d ts k round q = (j m : ℕ) (t : TreeOf ℕ) (path : List ℕ) → m ≡ k + j → nth ts j ≡ Some t → q (m ∷ path) ≡ (is_open (entered d t path) && round)

  -- a test of the rest of a path behind a step
  abbrev behind : ℕ → (List ℕ → Bool) → List ℕ → Bool
  behind k q path = q (k ∷ path)

  below-node : (d : ℕ) (t : TreeOf ℕ) (round : Bool) (q : List ℕ → Bool) → IsOpenBelow d t round q → AreOpenBelow (d + 1) (children t) 0 (is_open (own_scope d t) && round) q
  below-node d t round q h j m u path e f =
      let here : m ≡ j = omega (arith, e) in
      ap (λ (k : ℕ). q (k ∷ path)) here
      ∙ h (j ∷ path)
      ∙ ap (λ (o : Option (TreeOf ℕ)). is_open (unwrap_or (option_map (λ v. entered (d + 1) v path) o) [] ++ own_scope d t) && round) f
      ∙ ap (λ (b : Bool). b && round) (open-append (entered (d + 1) u path) (own_scope d t))
      ∙ and_assoc (is_open (entered (d + 1) u path)) (is_open (own_scope d t)) round

  first-node : (d : ℕ) (t : TreeOf ℕ) (ts : TreesOf ℕ) (k : ℕ) (round : Bool) (q : List ℕ → Bool) → AreOpenBelow d (more_trees t ts) k round q → IsOpenBelow d t round (behind k q)
  first-node d t ts k round q h path = h 0 k t path (omega arith) refl

  other-nodes : (d : ℕ) (t : TreeOf ℕ) (ts : TreesOf ℕ) (k : ℕ) (round : Bool) (q : List ℕ → Bool) → AreOpenBelow d (more_trees t ts) k round q → AreOpenBelow d ts (k + 1) round q
  other-nodes d t ts k round q h j m u path e f = h (suc j) m u path (omega (arith, e)) f

  first-arguments : (d : ℕ) (ts us : TreesOf ℕ) (k : ℕ) (round : Bool) (q : List ℕ → Bool) → AreOpenBelow d (append ts us) k round q → AreOpenBelow d ts k round q
  first-arguments d ts us k round q h j m u path e f = h j m u path e (nth-left ts us j u f)

  other-arguments : (d : ℕ) (ts us : TreesOf ℕ) (k : ℕ) (round : Bool) (q : List ℕ → Bool) → AreOpenBelow d (append ts us) k round q → AreOpenBelow d us (k + count ts) round q
  other-arguments d ts us k round q h j m u path e f = h (count ts + j) m u path (omega (arith, e)) (nth-append_right ts us (count ts + j) j refl ∙ f)

  -- whether a node reads or assigns the name, and its path passes
  abbrev pub names_it : (List ℕ → Bool) → Placed ℕ → Bool
  names_it q e = option_map_or (nat_eq x) (name_used e.1) false && q e.0

  -- in a node one step deeper, and in others
  in-both : (q : List ℕ → Bool) (k : ℕ) (t : TreeOf ℕ) (es : List (Placed ℕ)) (ns ms : List ℕ) (round : Bool) → list_any (names_it (behind k q)) (tree_nodes t) ≡ (list_any (nat_eq x) ns && round)
      → list_any (names_it q) es ≡ (list_any (nat_eq x) ms && round) → list_any (names_it q) (below_step k (tree_nodes t) ++ es) ≡ (list_any (nat_eq x) (ns ++ ms) && round)
  in-both q k t es ns ms round f g =
      list_any-append (names_it q) (below_step k (tree_nodes t)) es
      ∙ (λ i. (any-mapped (λ (e : Placed ℕ). (k ∷ e.0, e.1)) (names_it q) (tree_nodes t) ∙ f) i || g i)
      ∙ or-and (list_any (nat_eq x) ns) (list_any (nat_eq x) ms) round
      ∙ ap (λ (b : Bool). b && round) (sym (list_any-append (nat_eq x) ns ms))

  -- what a block declares
  own-open : (d : ℕ) (s : ScopeOf ℕ) → not (declares nat_eq is_pseudo s.arguments s.temporaries x) ≡ is_open ((d, s) ∷ [])
  own-open d s = ap (λ (b : Bool). not (not b && (is_among nat_eq s.arguments x || is_among nat_eq s.temporaries x))) ordinary ∙ by (is_among nat_eq s.arguments x) (is_among nat_eq s.temporaries x)
    where
      by : (a t : Bool) → not (a || t) ≡ is_outside (cond a (Argument d) (cond t (Temporary d) NotLocal))
      by true t = refl
      by false true = refl
      by false false = refl

  -- the names that a block does not declare
  undeclared : (d : ℕ) (s : ScopeOf ℕ) (ns : List ℕ) → list_any (nat_eq x) (filter (λ (n : ℕ). not (declares nat_eq is_pseudo s.arguments s.temporaries n)) ns) ≡ (is_open ((d, s) ∷ []) && list_any (nat_eq x) ns)
  undeclared d s ns =
      any-filter_same (nat_eq x) (λ (n : ℕ). not (declares nat_eq is_pseudo s.arguments s.temporaries n)) (is_open ((d, s) ∷ []))
      (λ n e. ap (λ (m : ℕ). not (declares nat_eq is_pseudo s.arguments s.temporaries m)) (sym (eqb-true x n e)) ∙ own-open d s) ns

  mutual
    free-tree : (d : ℕ) (round : Bool) (q : List ℕ → Bool) (t : TreeOf ℕ) → IsOpenBelow d t round q → list_any (names_it q) (tree_nodes t) ≡ (list_any (nat_eq x) (free_occurrences nat_eq is_pseudo t) && round)
    free-tree d round q (var n) h = ap (λ (b : Bool). nat_eq x n && b || false) (h []) ∙ alone (nat_eq x n) round
    free-tree d round q (literal l) h = refl
    free-tree d round q (send r s args) h =
        let below = below-node d (send r s args) round q h in
        in-both q 0 r (trees_nodes 1 args) _ _ round (free-tree (d + 1) round (behind 0 q) r (first-node (d + 1) r args 0 round q below)) (free-trees (d + 1) round q 1 args (other-nodes (d + 1) r args 0 round q below))
    free-tree d round q (cascade r ms) h =
        let below = below-node d (cascade r ms) round q h in
        in-both q 0 r (messages_nodes 1 ms) _ _ round (free-tree (d + 1) round (behind 0 q) r (first-node (d + 1) r (all_arguments ms) 0 round q below)) (free-messages (d + 1) round q 1 ms (other-nodes (d + 1) r (all_arguments ms) 0 round q below))
    free-tree d round q (assign n t) h =
        (λ i. nat_eq x n && h [] i || (any-mapped (λ (e : Placed ℕ). (0 ∷ e.0, e.1)) (names_it q) (tree_nodes t) ∙ free-tree (d + 1) round (behind 0 q) t (first-node (d + 1) t no_trees 0 round q (below-node d (assign n t) round q h))) i)
        ∙ or-and (nat_eq x n) (list_any (nat_eq x) (free_occurrences nat_eq is_pseudo t)) round
    free-tree d round q (block ps ts ss e) h =
        let s : ScopeOf ℕ = record { arguments = ps; temporaries = ts; statements = ss } in
        let ns = free_in_statements nat_eq is_pseudo ss in
        free-statements (d + 1) (is_open ((d, s) ∷ []) && round) q 0 ss (below-node d (block ps ts ss e) round q h)
        ∙ turned (list_any (nat_eq x) ns) (is_open ((d, s) ∷ [])) round
        ∙ ap (λ (b : Bool). b && round) (sym (undeclared d s ns))
    free-tree d round q (brace ts) h = free-trees (d + 1) round q 0 ts (below-node d (brace ts) round q h)
    free-tree d round q (return t) h =
        any-mapped (λ (e : Placed ℕ). (0 ∷ e.0, e.1)) (names_it q) (tree_nodes t)
        ∙ free-tree (d + 1) round (behind 0 q) t (first-node (d + 1) t no_trees 0 round q (below-node d (return t) round q h))

    free-trees : (d : ℕ) (round : Bool) (q : List ℕ → Bool) (k : ℕ) (ts : TreesOf ℕ) → AreOpenBelow d ts k round q → list_any (names_it q) (trees_nodes k ts) ≡ (list_any (nat_eq x) (free_in_trees nat_eq is_pseudo ts) && round)
    free-trees d round q k no_trees h = refl
    free-trees d round q k (more_trees t ts) h =
        in-both q k t (trees_nodes (k + 1) ts) _ _ round (free-tree d round (behind k q) t (first-node d t ts k round q h)) (free-trees d round q (k + 1) ts (other-nodes d t ts k round q h))

    free-messages : (d : ℕ) (round : Bool) (q : List ℕ → Bool) (k : ℕ) (ms : MessagesOf ℕ) → AreOpenBelow d (all_arguments ms) k round q
        → list_any (names_it q) (messages_nodes k ms) ≡ (list_any (nat_eq x) (free_in_messages nat_eq is_pseudo ms) && round)
    free-messages d round q k no_messages h = refl
    free-messages d round q k (more_messages s args ms) h =
        list_any-append (names_it q) (trees_nodes k args) (messages_nodes (k + count args) ms)
        ∙ (λ i. free-trees d round q k args (first-arguments d args (all_arguments ms) k round q h) i || free-messages d round q (k + count args) ms (other-arguments d args (all_arguments ms) k round q h) i)
        ∙ or-and (list_any (nat_eq x) (free_in_trees nat_eq is_pseudo args)) (list_any (nat_eq x) (free_in_messages nat_eq is_pseudo ms)) round
        ∙ ap (λ (b : Bool). b && round) (sym (list_any-append (nat_eq x) (free_in_trees nat_eq is_pseudo args) (free_in_messages nat_eq is_pseudo ms)))

    free-statements : (d : ℕ) (round : Bool) (q : List ℕ → Bool) (k : ℕ) (ss : StatementsOf ℕ) → AreOpenBelow d (statement_trees ss) k round q
        → list_any (names_it q) (statements_nodes k ss) ≡ (list_any (nat_eq x) (free_in_statements nat_eq is_pseudo ss) && round)
    free-statements d round q k no_statements h = refl
    free-statements d round q k (more_statements c t ss) h =
        in-both q k t (statements_nodes (k + 1) ss) _ _ round (free-tree d round (behind k q) t (first-node d t (statement_trees ss) k round q h))
        (free-statements d round q (k + 1) ss (other-nodes d t (statement_trees ss) k round q h))

  -- a node of a scope reads or assigns the name where no scope round it declares it exactly if the name is free in the statements, and the scope itself does not declare it
  pub free-scope : (s : ScopeOf ℕ) → list_any (names_it (λ path. is_open (scopes_round s path))) (statements_nodes 0 s.statements)
      ≡ (list_any (nat_eq x) (free_in_statements nat_eq is_pseudo s.statements) && is_open ((0, s) ∷ []))
  free-scope s =
      free-statements 1 (is_open ((0, s) ∷ [])) (λ path. is_open (scopes_round s path)) 0 s.statements
      (λ j m u path e f.
      let here : m ≡ j = omega (arith, e) in
      ap (λ (k : ℕ). is_open (scopes_round s (k ∷ path))) here
      ∙ ap (λ (o : Option (TreeOf ℕ)). is_open (unwrap_or (option_map (λ v. entered 1 v path) o) [] ++ (0, s) ∷ [])) f
      ∙ open-append (entered 1 u path) ((0, s) ∷ []))
