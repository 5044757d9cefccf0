-- Names resolved by what is declared round them are what they mean at their places.
use Rattle.std.proofs.Common.{◌≡◌, ℕ, zero, suc, ◌+◌, List, [], ◌∷◌, ◌++◌, length, Some, None, refl, ap, ◌∙◌, arith, append_assoc}
use Rattle.std.specs.Prelude.{false, if◌then◌else◌, option_map, unwrap_or}
use Rattle.std.specs.List.{position_or_len}
use Rattle.rb_base.specs.Names.{text_eq}
use Rattle.scope_model.specs.SpecialNames.{is_pseudo_variable}
use Rattle.tree_model.specs.Tree.{TreeOf, var, literal, send, cascade, assign, block, brace, return, TreesOf, no_trees, more_trees, MessagesOf, no_messages, more_messages, StatementsOf, no_statements, more_statements}
use Rattle.tree_model.specs.Path.{append, count, nth, all_arguments, statement_trees, children}
use Rattle.scope_model.specs.Scope.{ScopeOf, PlacedScope, method_scope, doit_scope, own_scope, entered, local_by}
use Rattle.scope_model.specs.declared.local.Local.TheVariants.{NotLocal}
use Rattle.image_model.specs.Image.{EntryOf, DoItOf, ImageOf}
use Rattle.image_model.specs.Words.{text_words}
use Rattle.image_model.specs.Means.{MeaningOf, pseudo, means_by, means_outside}
use Rattle.run_model.specs.Values.{Name}
use Rattle.run_model.specs.Runs.{doit_class}
use Rattle.resolved_model.specs.ResolvedTrees.{reading, sending, cascading, assigning, block_of, brace_of, returning, more_nodes, more_sends, more_lines}
use Rattle.resolved_model.specs.Resolving.{Meant, MeantAt, below, declared_by, reference_of, target_of, resolved, resolved_trees, resolved_messages, resolved_statements, resolved_method, resolved_doit, meant_in, meant_in_doit}
use Rattle.resolved_model.specs.Environments.{declared_in, tree_in, trees_in, messages_in, statements_in, code_in}
use Rattle.resolved_model.proofs.Environments.{reference-scopes, target-scopes}

-- what is there
there : (t : TreeOf Name) → None ≡ Some t → ⊥
there t e = cc

-- the first of two lists has its items in both
pub nth-left : (ts us : TreesOf Name) (j : ℕ) (c : TreeOf Name) → nth ts j ≡ Some c → nth (append ts us) j ≡ Some c
nth-left no_trees us j c e = absurd (there c e)
nth-left (more_trees t ts) us zero c e = e
nth-left (more_trees t ts) us (suc j) c e = nth-left ts us j c e

-- the second has its items behind those of the first
pub nth-right : (ts us : TreesOf Name) (j : ℕ) → nth (append ts us) (count ts + j) ≡ nth us j
nth-right no_trees us j =
    let e : 0 + j ≡ j = omega arith in
    ap (nth us) e
nth-right (more_trees t ts) us j =
    let e : count ts + 1 + j ≡ suc (count ts + j) = omega arith in
    ap (nth (more_trees t (append ts us))) e ∙ nth-right ts us j

-- g is what names mean outside all scopes
module _ (g : Name → MeaningOf Name) where
  -- what a name means inside scopes
  abbrev pub meant_by : List (PlacedScope Name) → Name → Meant
  meant_by ps n = record {
    meaning = if is_pseudo_variable n then pseudo else means_by (if is_pseudo_variable n then NotLocal else local_by text_eq ps n) (g n);
    place = position_or_len (text_eq n) (declared_by ps);
  }

  -- names mean below a node what they mean in the scopes that the path enters there and in those round the node
  abbrev pub IsInScopes : ℕ → TreeOf Name → List (PlacedScope Name) → MeantAt → Type 0
  IsInScopes d t ps at = (path : List ℕ) (n : Name) → at path n ≡ meant_by (entered d t path ++ ps) n

  -- the same below nodes to which the steps from k on lead
  abbrev pub AreInScopes : ℕ → TreesOf Name → ℕ → List (PlacedScope Name) → MeantAt → Type 0
  AreInScopes d ts k ps at = (j m : ℕ) (c : TreeOf Name) (path : List ℕ) (n : Name) → m ≡ k + j → nth ts j ≡ Some c → at (m ∷ path) n ≡ meant_by (entered d c path ++ ps) n

  -- the nodes right below a node
  pub below-node : (d : ℕ) (t : TreeOf Name) (ps : List (PlacedScope Name)) (at : MeantAt) → IsInScopes d t ps at → AreInScopes (d + 1) (children t) 0 (own_scope d t ++ ps) at
  below-node d t ps at h j m c path n e q =
      let here : m ≡ j = omega (arith, e) in
      ap (λ x. at (x ∷ path) n) here ∙ h (j ∷ path) n
      ∙ ap (λ o. meant_by ((unwrap_or (option_map (λ x. entered (d + 1) x path) o) [] ++ own_scope d t) ++ ps) n) q
      ∙ ap (λ l. meant_by l n) (append_assoc (entered (d + 1) c path) (own_scope d t) ps)

  -- the first of nodes
  pub first-node : (d : ℕ) (t : TreeOf Name) (ts : TreesOf Name) (k : ℕ) (ps : List (PlacedScope Name)) (at : MeantAt) → AreInScopes d (more_trees t ts) k ps at → IsInScopes d t ps (below k at)
  first-node d t ts k ps at h path n = h 0 k t path n (omega arith) refl

  -- the other nodes
  pub other-nodes : (d : ℕ) (t : TreeOf Name) (ts : TreesOf Name) (k : ℕ) (ps : List (PlacedScope Name)) (at : MeantAt) → AreInScopes d (more_trees t ts) k ps at → AreInScopes d ts (suc k) ps at
  other-nodes d t ts k ps at h j m c path n e q = h (suc j) m c path n (omega (arith, e)) q

  -- the arguments of the first message
  pub first-arguments : (d : ℕ) (ts us : TreesOf Name) (k : ℕ) (ps : List (PlacedScope Name)) (at : MeantAt) → AreInScopes d (append ts us) k ps at → AreInScopes d ts k ps at
  first-arguments d ts us k ps at h j m c path n e q = h j m c path n e (nth-left ts us j c q)

  -- the arguments of the other messages
  pub other-arguments : (d : ℕ) (ts us : TreesOf Name) (k : ℕ) (ps : List (PlacedScope Name)) (at : MeantAt) → AreInScopes d (append ts us) k ps at → AreInScopes d us (k + count ts) ps at
  other-arguments d ts us k ps at h j m c path n e q = h (count ts + j) m c path n (omega (arith, e)) (nth-right ts us j ∙ q)

  mutual
    -- a node resolved by what names mean is the node resolved by what is declared round it
    resolved-tree : (t : TreeOf Name) (d : ℕ) (ps : List (PlacedScope Name)) (at : MeantAt) → IsInScopes d t ps at → resolved at t ≡ tree_in g (declared_in ps) t
    resolved-tree (var n) d ps at h = ap (λ (m : Meant). reading (reference_of m.meaning m.place n)) (h [] n) ∙ ap reading (reference-scopes ps (g n) n)
    resolved-tree (literal l) d ps at h = refl
    resolved-tree (send r s args) d ps at h =
        let k = below-node d (send r s args) ps at h in
        λ i. sending (resolved-tree r (d + 1) ps (below 0 at) (first-node (d + 1) r args 0 ps at k) i) s (resolved-trees args (d + 1) 1 ps at (other-nodes (d + 1) r args 0 ps at k) i)
    resolved-tree (cascade r ms) d ps at h =
        let k = below-node d (cascade r ms) ps at h in
        λ i. cascading (resolved-tree r (d + 1) ps (below 0 at) (first-node (d + 1) r (all_arguments ms) 0 ps at k) i) (resolved-messages ms (d + 1) 1 ps at (other-nodes (d + 1) r (all_arguments ms) 0 ps at k) i)
    resolved-tree (assign n t) d ps at h =
        let k = below-node d (assign n t) ps at h in
        λ i. assigning ((ap (λ (m : Meant). target_of m.meaning m.place n) (h [] n) ∙ target-scopes ps (g n) n) i) (resolved-tree t (d + 1) ps (below 0 at) (first-node (d + 1) t no_trees 0 ps at k) i)
    resolved-tree (block qs ts ss e) d ps at h =
        ap (block_of (length qs) (length ts)) (resolved-statements ss (d + 1) 0 (own_scope d (block qs ts ss e) ++ ps) at (below-node d (block qs ts ss e) ps at h))
    resolved-tree (brace ts) d ps at h = ap brace_of (resolved-trees ts (d + 1) 0 ps at (below-node d (brace ts) ps at h))
    resolved-tree (return t) d ps at h =
        let k = below-node d (return t) ps at h in
        ap returning (resolved-tree t (d + 1) ps (below 0 at) (first-node (d + 1) t no_trees 0 ps at k))

    resolved-trees : (ts : TreesOf Name) (d k : ℕ) (ps : List (PlacedScope Name)) (at : MeantAt) → AreInScopes d ts k ps at → resolved_trees at k ts ≡ trees_in g (declared_in ps) ts
    resolved-trees no_trees d k ps at h = refl
    resolved-trees (more_trees t ts) d k ps at h =
        λ i. more_nodes (resolved-tree t d ps (below k at) (first-node d t ts k ps at h) i) (resolved-trees ts d (suc k) ps at (other-nodes d t ts k ps at h) i)

    resolved-messages : (ms : MessagesOf Name) (d k : ℕ) (ps : List (PlacedScope Name)) (at : MeantAt) → AreInScopes d (all_arguments ms) k ps at → resolved_messages at k ms ≡ messages_in g (declared_in ps) ms
    resolved-messages no_messages d k ps at h = refl
    resolved-messages (more_messages s args ms) d k ps at h =
        λ i. more_sends s (resolved-trees args d k ps at (first-arguments d args (all_arguments ms) k ps at h) i) (resolved-messages ms d (k + count args) ps at (other-arguments d args (all_arguments ms) k ps at h) i)

    resolved-statements : (ss : StatementsOf Name) (d k : ℕ) (ps : List (PlacedScope Name)) (at : MeantAt) → AreInScopes d (statement_trees ss) k ps at → resolved_statements at k ss ≡ statements_in g (declared_in ps) ss
    resolved-statements no_statements d k ps at h = refl
    resolved-statements (more_statements c t ss) d k ps at h =
        λ i. more_lines (resolved-tree t d ps (below k at) (first-node d t (statement_trees ss) k ps at h) i) (resolved-statements ss d (suc k) ps at (other-nodes d t (statement_trees ss) k ps at h) i)

  -- the statements of a scope whose names mean what they mean in it
  scope-statements : (scope : ScopeOf Name) (at : MeantAt) →
      ((m : ℕ) (path : List ℕ) (n : Name) → at (m ∷ path) n ≡ meant_by (unwrap_or (option_map (λ c. entered 1 c path) (nth (statement_trees scope.statements) m)) [] ++ (0, scope) ∷ []) n) →
      resolved_statements at 0 scope.statements ≡ statements_in g (declared_in ((0, scope) ∷ [])) scope.statements
  scope-statements scope at h =
      resolved-statements scope.statements 1 0 ((0, scope) ∷ []) at
      (λ j m c path n e q.
      let here : m ≡ j = omega (arith, e) in
      h m path n ∙ ap (λ x. meant_by (unwrap_or (option_map (λ c. entered 1 c path) (nth (statement_trees scope.statements) x)) [] ++ (0, scope) ∷ []) n) here
      ∙ ap (λ o. meant_by (unwrap_or (option_map (λ c. entered 1 c path) o) [] ++ (0, scope) ∷ []) n) q)

-- a method resolved by what names mean is the method resolved by what is declared in it
pub method-resolved : (i : ImageOf Name) (m : EntryOf Name) → resolved_method i m ≡ code_in (λ n. means_outside text_words i m.class m.meta n) [] m.tree.arguments m.tree.body
unfolding resolved_method
method-resolved i m =
    ap (λ ss. record { parameters = length m.tree.arguments; temporaries = length m.tree.body.temporaries; statements = ss })
    (scope-statements (λ n. means_outside text_words i m.class m.meta n) (method_scope m.tree) (meant_in i m) (λ k path n. refl))

-- the same of a do-it
pub doit-resolved : (i : ImageOf Name) (d : DoItOf Name) → resolved_doit i d ≡ code_in (λ n. means_outside text_words i (doit_class i) false n) [] [] d.body
unfolding resolved_doit
doit-resolved i d =
    ap (λ ss. record { parameters = 0; temporaries = length d.body.temporaries; statements = ss })
    (scope-statements (λ n. means_outside text_words i (doit_class i) false n) (doit_scope d.body) (meant_in_doit i d) (λ k path n. refl))
