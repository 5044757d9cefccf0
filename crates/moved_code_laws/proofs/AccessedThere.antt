-- Code with messages to self for a variable, by the paths to its nodes and by what is declared round them.
use Rattle.std.proofs.Common.{◌≡◌, ℕ, suc, ◌+◌, List, [], ◌∷◌, refl, sym, ap, ◌∙◌, subst}
use Rattle.std.specs.Prelude.{Bool, false, ◌&&◌, if◌then◌else◌, codes}
use Rattle.rb_base.specs.Names.{text_eq}
use Rattle.rb_base.proofs.NamesLemmas.{text_eq-refl}
use Rattle.tree_model.specs.Tree.{TreeOf, var, literal, send, cascade, assign, block, brace, return, TreesOf, no_trees, more_trees, MessagesOf, no_messages, more_messages, StatementsOf, no_statements, more_statements}
use Rattle.tree_model.specs.Path.{count, all_arguments, statement_trees}
use Rattle.scope_model.specs.declared.local.Local.{Local}
use Rattle.scope_model.specs.declared.local.Local.TheVariants.{Argument, Temporary, NotLocal}
use Rattle.scope_model.specs.SpecialNames.{is_pseudo_variable}
use Rattle.scope_model.specs.Scope.{PlacedScope, local_by}
use Rattle.image_model.specs.Means.{of_instance, MeaningOf, pseudo, variable, means_by}
use Rattle.image_model.specs.Uses.{is_variable}
use Rattle.run_model.specs.Values.{Name}
use Rattle.run_model.proofs.Finite.{by_cases}
use Rattle.run_model.proofs.RenamingLemmas.{text-same}
use Rattle.resolved_model.specs.Resolving.{Meant, MeantAt, below}
use Rattle.resolved_model.specs.Environments.{kind_in, declared_in}
use Rattle.resolved_model.proofs.Environments.{kind_of, kind-scopes}
use Rattle.resolved_model.proofs.ResolvingLemmas.{meant_by, IsInScopes, AreInScopes, below-node, first-node, other-nodes, first-arguments, other-arguments}
use Rattle.rename_laws.proofs.TextsTold.{text-turned}
use Rattle.unfolded_places.specs.Accessed.{is_undeclared, is_variable as is_named, accessed_tree, accessed_trees, accessed_messages, accessed_statements}
use Rattle.command_model.specs.Walk.{Making, onward, rebuilt, rebuilt_trees, rebuilt_messages, rebuilt_statements}

module _ (c x writer : Name) where
  -- whether a name means the variable
  abbrev pub is_that : Meant → Name → Bool
  is_that m n = text_eq x n && is_variable text_eq of_instance c m.meaning

  -- a node with messages to self for the variable, by what names mean there
  abbrev pub node_made : (Name → Meant) → TreeOf Name → TreeOf Name
  node_made here (var n) = if is_that (here n) n then send (var (codes "self")) x no_trees else var n
  node_made here (literal l) = literal l
  node_made here (send r s args) = send r s args
  node_made here (cascade r ms) = cascade r ms
  node_made here (assign n t) = if is_that (here n) n then send (var (codes "self")) writer (more_trees t no_trees) else assign n t
  node_made here (block ps ts ss e) = block ps ts ss e
  node_made here (brace ts) = brace ts
  node_made here (return t) = return t

  abbrev pub Makes : Making Name → MeantAt → Type 0
  Makes f at = (path : List ℕ) (u : TreeOf Name) → f path u ≡ node_made (at path) u

  module _ (g : Name → MeaningOf Name) (outer : g x ≡ variable of_instance c) (plain : is_pseudo_variable x ≡ false) where
    own-told : (ps : List (PlacedScope Name)) → is_variable text_eq of_instance c (if is_pseudo_variable x then pseudo else means_by (if is_pseudo_variable x then NotLocal else local_by text_eq ps x) (g x)) ≡ is_undeclared (kind_in (declared_in ps) x)
    own-told ps =
        ap (λ b. is_variable text_eq of_instance c (if b then pseudo else means_by (if b then NotLocal else local_by text_eq ps x) (g x))) plain ∙ by (local_by text_eq ps x) ∙ ap is_undeclared (sym (kind-scopes ps x))
      where
        by : (l : Local) → is_variable text_eq of_instance c (means_by l (g x)) ≡ is_undeclared (kind_of l)
        by (Argument scope) = refl
        by (Temporary scope) = refl
        by NotLocal = ap (is_variable text_eq of_instance c) outer ∙ text_eq-refl c

    told : (ps : List (PlacedScope Name)) (n : Name) → is_that (meant_by g ps n) n ≡ is_named x (declared_in ps) n
    told ps n =
        by_cases (text_eq x n)
        (λ t. subst (λ y. is_that (meant_by g ps y) y ≡ is_named x (declared_in ps) y) (text-same x n t) (ap (λ b. text_eq x x && b) (own-told ps)))
        (λ f. ap (λ b. b && is_variable text_eq of_instance c (meant_by g ps n).meaning) f ∙ sym (ap (λ b. b && is_undeclared (kind_in (declared_in ps) n)) (text-turned n x ∙ f)))

    mutual
      -- a node
      tree-accessed : (t : TreeOf Name) (f : Making Name) (d : ℕ) (ps : List (PlacedScope Name)) (at : MeantAt) → Makes f at → IsInScopes g d t ps at → rebuilt f t ≡ accessed_tree x x writer (declared_in ps) t
      tree-accessed (var n) f d ps at m h =
          m [] (var n) ∙ ap (λ b. if b then send (var (codes "self")) x no_trees else var n) (ap (λ (y : Meant). is_that y n) (h [] n) ∙ told ps n)
      tree-accessed (literal l) f d ps at m h = m [] (literal l)
      tree-accessed (send r s args) f d ps at m h =
          let k = below-node g d (send r s args) ps at h in
          m [] (send (rebuilt (onward 0 f) r) s (rebuilt_trees f 1 args))
          ∙ (λ z. send (tree-accessed r (onward 0 f) (d + 1) ps (below 0 at) (λ path u. m (0 ∷ path) u) (first-node g (d + 1) r args 0 ps at k) z) s (trees-accessed args f (d + 1) 1 ps at m (other-nodes g (d + 1) r args 0 ps at k) z))
      tree-accessed (cascade r ms) f d ps at m h =
          let k = below-node g d (cascade r ms) ps at h in
          m [] (cascade (rebuilt (onward 0 f) r) (rebuilt_messages f 1 ms))
          ∙ (λ z. cascade (tree-accessed r (onward 0 f) (d + 1) ps (below 0 at) (λ path u. m (0 ∷ path) u) (first-node g (d + 1) r (all_arguments ms) 0 ps at k) z) (messages-accessed ms f (d + 1) 1 ps at m (other-nodes g (d + 1) r (all_arguments ms) 0 ps at k) z))
      tree-accessed (assign n t) f d ps at m h =
          let k = below-node g d (assign n t) ps at h in
          m [] (assign n (rebuilt (onward 0 f) t))
          ∙ (λ z. if (ap (λ (y : Meant). is_that y n) (h [] n) ∙ told ps n) z then send (var (codes "self")) writer (more_trees (tree-accessed t (onward 0 f) (d + 1) ps (below 0 at) (λ path u. m (0 ∷ path) u) (first-node g (d + 1) t no_trees 0 ps at k) z) no_trees)
          else assign n (tree-accessed t (onward 0 f) (d + 1) ps (below 0 at) (λ path u. m (0 ∷ path) u) (first-node g (d + 1) t no_trees 0 ps at k) z))
      tree-accessed (block qs ts ss e) f d ps at m h =
          m [] (block qs ts (rebuilt_statements f 0 ss) e)
          ∙ ap (λ y. block qs ts y e) (statements-accessed ss f (d + 1) 0 ((d, record { arguments = qs; temporaries = ts; statements = ss }) ∷ ps) at m (below-node g d (block qs ts ss e) ps at h))
      tree-accessed (brace ts) f d ps at m h = m [] (brace (rebuilt_trees f 0 ts)) ∙ ap brace (trees-accessed ts f (d + 1) 0 ps at m (below-node g d (brace ts) ps at h))
      tree-accessed (return t) f d ps at m h =
          let k = below-node g d (return t) ps at h in
          m [] (return (rebuilt (onward 0 f) t)) ∙ ap return (tree-accessed t (onward 0 f) (d + 1) ps (below 0 at) (λ path u. m (0 ∷ path) u) (first-node g (d + 1) t no_trees 0 ps at k))

      trees-accessed : (ts : TreesOf Name) (f : Making Name) (d k : ℕ) (ps : List (PlacedScope Name)) (at : MeantAt) → Makes f at → AreInScopes g d ts k ps at → rebuilt_trees f k ts ≡ accessed_trees x x writer (declared_in ps) ts
      trees-accessed no_trees f d k ps at m h = refl
      trees-accessed (more_trees t ts) f d k ps at m h =
          λ z. more_trees (tree-accessed t (onward k f) d ps (below k at) (λ path u. m (k ∷ path) u) (first-node g d t ts k ps at h) z) (trees-accessed ts f d (suc k) ps at m (other-nodes g d t ts k ps at h) z)

      messages-accessed : (ms : MessagesOf Name) (f : Making Name) (d k : ℕ) (ps : List (PlacedScope Name)) (at : MeantAt) → Makes f at → AreInScopes g d (all_arguments ms) k ps at → rebuilt_messages f k ms ≡ accessed_messages x x writer (declared_in ps) ms
      messages-accessed no_messages f d k ps at m h = refl
      messages-accessed (more_messages s args ms) f d k ps at m h =
          λ z. more_messages s (trees-accessed args f d k ps at m (first-arguments g d args (all_arguments ms) k ps at h) z) (messages-accessed ms f d (k + count args) ps at m (other-arguments g d args (all_arguments ms) k ps at h) z)

      pub statements-accessed : (ss : StatementsOf Name) (f : Making Name) (d k : ℕ) (ps : List (PlacedScope Name)) (at : MeantAt) → Makes f at → AreInScopes g d (statement_trees ss) k ps at → rebuilt_statements f k ss ≡ accessed_statements x x writer (declared_in ps) ss
      statements-accessed no_statements f d k ps at m h = refl
      statements-accessed (more_statements n t ss) f d k ps at m h =
          λ z. more_statements n (tree-accessed t (onward k f) d ps (below k at) (λ path u. m (k ∷ path) u) (first-node g d t (statement_trees ss) k ps at h) z) (statements-accessed ss f d (suc k) ps at m (other-nodes g d t (statement_trees ss) k ps at h) z)
