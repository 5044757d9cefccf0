-- A part of a method may stand in a new method, whose arguments are the names that it reads from outside.
use Rattle.std.proofs.Common.{◌≡◌, ℕ, suc, ◌+◌, List, [], ◌∷◌, ◌++◌, None, refl, sym, ap, ◌∙◌, subst}
use Rattle.std.specs.Prelude.{Bool, true, false, not, ◌&&◌, ◌||◌, if◌then◌else◌, nat_lt, filter}
use Rattle.std.specs.List.{AllByRecursion}
use Rattle.std.proofs.lemmas.Bool.{false≢true}
use Rattle.rb_base.specs.Names.{text_eq}
use Rattle.rb_base.proofs.NamesLemmas.{text_eq-refl}
use Rattle.tree_model.specs.Tree.{TreeOf, var, literal, send, cascade, assign, block, brace, return, TreesOf, no_trees, more_trees, MessagesOf, no_messages, more_messages, StatementsOf, no_statements, more_statements}
use Rattle.tree_model.specs.Path.{count, all_arguments, statement_trees}
use Rattle.scope_model.specs.declared.local.Local.{Local}
use Rattle.scope_model.specs.declared.local.Local.TheVariants.{Argument, Temporary, NotLocal}
use Rattle.scope_model.specs.SpecialNames.{is_pseudo_variable}
use Rattle.scope_model.specs.Scope.{PlacedScope, is_among, local_by, declares}
use Rattle.scope_model.specs.FreeNames.{free_occurrences, free_in_trees, free_in_messages, free_in_statements, free_names}
use Rattle.image_model.specs.Means.{MeaningOf}
use Rattle.run_model.specs.Values.{Name}
use Rattle.run_model.proofs.Finite.{by_cases}
use Rattle.run_model.proofs.RenamingLemmas.{text-same}
use Rattle.resolved_model.specs.Resolving.{Meant, MeantAt, below}
use Rattle.resolved_model.specs.Environments.{kind_in, declared_in}
use Rattle.resolved_model.proofs.Environments.{kind_of, kind-scopes}
use Rattle.resolved_model.proofs.ResolvingLemmas.{IsInScopes, AreInScopes, below-node, first-node, other-nodes, first-arguments, other-arguments}
use Rattle.mapped_model.proofs.NodesBelow.{FactAt, Below, Among, below-children, first-below, others-below, first-message, other-messages}
use Rattle.unfolded_places.specs.Inlining.{passed_for, IsFreeOf, Filling}
use Rattle.unfolded_places.specs.Fillings.{MeansSame, NameFits, MayFill, AllMayFill, MessagesMayFill, StatementsMayFill}
use Rattle.unfolded_places.proofs.SelfFilled.{themselves}
use Rattle.unfolded_calls.specs.SendsOnly.{SendsOnly, AllSendOnly, MessagesOnly, StatementsSendOnly}
use Rattle.command_model.specs.Places.{is_return, is_local}
use Rattle.moved_code_laws.proofs.LocalsThere.{undeclared-outer}
use Rattle.moved_code_laws.proofs.Saying.{alone, said, said_by, said-scopes}
use Rattle.moved_code_laws.proofs.FilledThere.{passed-none}
use Rattle.moved_code_laws.proofs.NamesPassed.{among-filtered, filtered-passes, among-once, among-left, among-right, passed-name, not-among}

-- a fact of each name of a list
pub of-among : (P : Name → Type 0) (names : List Name) (n : Name) → AllByRecursion P names → is_among text_eq names n ≡ true → P n
of-among P [] n a e = absurd (false≢true e)
of-among P (x ∷ xs) n a e = by_cases (text_eq n x) (λ t. subst P (sym (text-same n x t)) a.0) (λ f. of-among P xs n a.1 (sym (ap (λ b. b || is_among text_eq xs n) f) ∙ e))

-- a node is no return, and assigns neither a pseudo-variable nor an argument, nor a temporary to whose scope fewer steps lead
pub record IsInner (bound : ℕ) (here : Name → Meant) (u : TreeOf Name) : Type 0 where
  pub no_return : is_return u ≡ false
  pub loose : (n : Name) (v : TreeOf Name) → u ≡ assign n v → (is_pseudo_variable n ≡ false) × ((k : ℕ) → said (here n) ≡ Argument k → ⊥)
  pub own : (n : Name) (v : TreeOf Name) → u ≡ assign n v → (k : ℕ) → said (here n) ≡ Temporary k → nat_lt k bound ≡ false

abbrev pub Inner : ℕ → MeantAt → FactAt
Inner bound at path u = IsInner bound (at path) u

module _ (whole : TreeOf Name) (round : List (PlacedScope Name)) (t : Name) (outer other : Name → MeaningOf Name) (same : (n : Name) → outer n ≡ other n) where
  -- the names that are passed
  abbrev pub names : List Name
  names = filter (λ n. is_local (said_by round n)) (free_names text_eq is_pseudo_variable whole)

  abbrev pub z : Filling
  z = record { arguments = names; passed = themselves names; before = outer; after = other; round = declared_in round }

  abbrev pub gone : Name → Bool
  gone s = text_eq s t

  -- all names of a list that no block of the part declares are free in the part
  abbrev pub IsFree : List (PlacedScope Name) → List Name → Type 0
  IsFree inner ns = (n : Name) → is_among text_eq ns n ≡ true → is_pseudo_variable n ≡ false → kind_in (declared_in inner) n ≡ None → is_among text_eq (free_occurrences text_eq is_pseudo_variable whole) n ≡ true

  -- a name for which none is passed is no local
  unpassed : (n : Name) → is_among text_eq (free_occurrences text_eq is_pseudo_variable whole) n ≡ true → is_pseudo_variable n ≡ false → passed_for names (themselves names) n ≡ None → kind_in (declared_in round) n ≡ None
  unpassed n free p e =
      by_cases (is_local (said_by round n))
      (λ l. absurd (false≢true (sym (not-among names n e) ∙ among-filtered (λ k. is_local (said_by round k)) (free_names text_eq is_pseudo_variable whole) n (among-once (free_occurrences text_eq is_pseudo_variable whole) n free) l)))
      (λ l. kind-scopes round n ∙ none (local_by text_eq round n) (ap is_local (sym (ap (λ b. if b then NotLocal else local_by text_eq round n) p)) ∙ l))
    where
      none : (l : Local) → is_local l ≡ false → kind_of l ≡ None
      none (Argument scope) e = absurd (false≢true (sym e))
      none (Temporary scope) e = absurd (false≢true (sym e))
      none NotLocal e = refl

  -- a name
  name-stands : (inner : List (PlacedScope Name)) (n : Name) → IsFree inner (n ∷ []) → is_pseudo_variable n ≡ false → kind_in (declared_in inner) n ≡ None → NameFits z true gone (declared_in inner) n
  name-stands inner n free p k = record {
    passed = λ u e. subst (IsFreeOf (declared_in inner)) (sym (passed-name names n u e)) (λ q. k);
    free = λ e. (unpassed n (free n (ap (λ b. b || false) (text_eq-refl n)) p k) p e, same n);
  }

  -- a block that declares names
  free-inside : (d : ℕ) (ps ts : List Name) (ss : StatementsOf Name) (inner : List (PlacedScope Name)) → IsFree inner (filter (λ n. not (declares text_eq is_pseudo_variable ps ts n)) (free_in_statements text_eq is_pseudo_variable ss)) →
      IsFree ((d, record { arguments = ps; temporaries = ts; statements = ss }) ∷ inner) (free_in_statements text_eq is_pseudo_variable ss)
  free-inside d ps ts ss inner free n e p k =
      let both = none (is_among text_eq ps n) (is_among text_eq ts n) (local_by text_eq inner n) (sym (kind-scopes ((d, record { arguments = ps; temporaries = ts; statements = ss }) ∷ inner) n) ∙ k) in
      free n
      (among-filtered (λ n. not (declares text_eq is_pseudo_variable ps ts n)) (free_in_statements text_eq is_pseudo_variable ss) n e (λ z. not (not (p z) && (both.0 z || both.1 z)))) p
      (kind-scopes inner n ∙ both.2)
    where
      none : (b c : Bool) (l : Local) → kind_of (if b then Argument d else if c then Temporary d else l) ≡ None → (b ≡ false) × (c ≡ false) × (kind_of l ≡ None)
      none true c l e = absurd (cc)
      none false true l e = absurd (cc)
      none false false l e = (refl, refl, e)

  -- fewer steps lead to each scope that declares a temporary outside the part
  module _ (bound : ℕ) (low : (n : Name) (k : ℕ) → local_by text_eq round n ≡ Temporary k → nat_lt k bound ≡ true) where
    -- what is assigned
    target-stands : (inner : List (PlacedScope Name)) (n : Name) (here : Meant) → said here ≡ said_by (inner ++ round) n → is_pseudo_variable n ≡ false → ((k : ℕ) → said here ≡ Argument k → ⊥) → ((k : ℕ) → said here ≡ Temporary k → nat_lt k bound ≡ false) → kind_in (declared_in inner) n ≡ None → MeansSame z true gone n
    target-stands inner n here told p loose own k = (passed-none names (themselves names) n no-name, kind-scopes round n ∙ none (local_by text_eq round n) (ap is_local (sym there) ∙ outside), same n)
      where
        there : said_by round n ≡ local_by text_eq round n
        there = ap (λ b. if b then NotLocal else local_by text_eq round n) p

        said-so : said here ≡ local_by text_eq round n
        said-so = told ∙ ap (λ b. if b then NotLocal else local_by text_eq (inner ++ round) n) p ∙ undeclared-outer inner round n k

        neither : (l : Local) → local_by text_eq round n ≡ l → is_local l ≡ true → ⊥
        neither (Argument scope) q h = loose scope (said-so ∙ q)
        neither (Temporary scope) q h = false≢true (sym (own scope (said-so ∙ q)) ∙ low n scope q)
        neither NotLocal q h = false≢true h

        outside : is_local (said_by round n) ≡ false
        outside = by_cases (is_local (said_by round n)) (λ l. absurd (neither (local_by text_eq round n) refl (ap is_local (sym there) ∙ l))) (λ l. l)

        no-name : is_among text_eq names n ≡ false
        no-name = by_cases (is_among text_eq names n) (λ h. absurd (false≢true (sym outside ∙ filtered-passes (λ k. is_local (said_by round k)) (free_names text_eq is_pseudo_variable whole) n h))) (λ f. f)

        none : (l : Local) → is_local l ≡ false → kind_of l ≡ None
        none (Argument scope) e = absurd (false≢true (sym e))
        none (Temporary scope) e = absurd (false≢true (sym e))
        none NotLocal e = refl

    mutual
      -- a node
      pub tree-stands : (u : TreeOf Name) (d : ℕ) (inner : List (PlacedScope Name)) (at : MeantAt) → IsInScopes alone d u (inner ++ round) at → Below (Inner bound at) u → SendsOnly (λ s. text_eq s t ≡ false) u → IsFree inner (free_occurrences text_eq is_pseudo_variable u) →
          MayFill z true gone (declared_in inner) u
      tree-stands (var n) d inner at h p a f = λ e k. name-stands inner n f e k
      tree-stands (literal l) d inner at h p a f = tt
      tree-stands (send r s args) d inner at h p a f =
          let k = below-node alone d (send r s args) (inner ++ round) at h in
          let j = below-children (Inner bound at) (send r s args) p in (
            a.0,
            (λ e. refl),
            tree-stands r (d + 1) inner (below 0 at) (first-node alone (d + 1) r args 0 (inner ++ round) at k) (first-below (Inner bound at) r args 0 j) a.1 (λ n e. f n (among-left (free_occurrences text_eq is_pseudo_variable r) (free_in_trees text_eq is_pseudo_variable args) n e)),
            trees-stand args (d + 1) 1 inner at (other-nodes alone (d + 1) r args 0 (inner ++ round) at k) (others-below (Inner bound at) r args 0 j) a.2 (λ n e. f n (among-right (free_occurrences text_eq is_pseudo_variable r) (free_in_trees text_eq is_pseudo_variable args) n e)),
          )
      tree-stands (cascade r ms) d inner at h p a f =
          let k = below-node alone d (cascade r ms) (inner ++ round) at h in
          let j = below-children (Inner bound at) (cascade r ms) p in (
            tree-stands r (d + 1) inner (below 0 at) (first-node alone (d + 1) r (all_arguments ms) 0 (inner ++ round) at k) (first-below (Inner bound at) r (all_arguments ms) 0 j) a.0 (λ n e. f n (among-left (free_occurrences text_eq is_pseudo_variable r) (free_in_messages text_eq is_pseudo_variable ms) n e)),
            messages-stand ms (d + 1) 1 inner at (other-nodes alone (d + 1) r (all_arguments ms) 0 (inner ++ round) at k) (others-below (Inner bound at) r (all_arguments ms) 0 j) a.1 (λ n e. f n (among-right (free_occurrences text_eq is_pseudo_variable r) (free_in_messages text_eq is_pseudo_variable ms) n e)),
          )
      tree-stands (assign n v) d inner at h p a f =
          let k = below-node alone d (assign n v) (inner ++ round) at h in
          let inside = p [] (assign n v) refl in
          let loose = inside.loose n v refl in (
            loose.0,
            (λ e. target-stands inner n (at [] n) (ap said (h [] n) ∙ said-scopes (inner ++ round) n) loose.0 loose.1 (inside.own n v refl) e),
            tree-stands v (d + 1) inner (below 0 at) (first-node alone (d + 1) v no_trees 0 (inner ++ round) at k) (first-below (Inner bound at) v no_trees 0 (below-children (Inner bound at) (assign n v) p)) a (λ x e. f x (among-right (n ∷ []) (free_occurrences text_eq is_pseudo_variable v) x e)),
          )
      tree-stands (block ps ts ss e) d inner at h p a f =
          statements-stand ss (d + 1) 0 ((d, record { arguments = ps; temporaries = ts; statements = ss }) ∷ inner) at (below-node alone d (block ps ts ss e) (inner ++ round) at h) (below-children (Inner bound at) (block ps ts ss e) p) a (free-inside d ps ts ss inner f)
      tree-stands (brace us) d inner at h p a f = trees-stand us (d + 1) 0 inner at (below-node alone d (brace us) (inner ++ round) at h) (below-children (Inner bound at) (brace us) p) a f
      tree-stands (return v) d inner at h p a f = false≢true (sym (p [] (return v) refl).no_return)

      trees-stand : (us : TreesOf Name) (d k : ℕ) (inner : List (PlacedScope Name)) (at : MeantAt) → AreInScopes alone d us k (inner ++ round) at → Among (Inner bound at) us k → AllSendOnly (λ s. text_eq s t ≡ false) us → IsFree inner (free_in_trees text_eq is_pseudo_variable us) →
          AllMayFill z true gone (declared_in inner) us
      trees-stand no_trees d k inner at h p a f = tt
      trees-stand (more_trees u us) d k inner at h p a f = (
        tree-stands u d inner (below k at) (first-node alone d u us k (inner ++ round) at h) (first-below (Inner bound at) u us k p) a.0 (λ n e. f n (among-left (free_occurrences text_eq is_pseudo_variable u) (free_in_trees text_eq is_pseudo_variable us) n e)),
        trees-stand us d (suc k) inner at (other-nodes alone d u us k (inner ++ round) at h) (others-below (Inner bound at) u us k p) a.1 (λ n e. f n (among-right (free_occurrences text_eq is_pseudo_variable u) (free_in_trees text_eq is_pseudo_variable us) n e)),
      )

      messages-stand : (ms : MessagesOf Name) (d k : ℕ) (inner : List (PlacedScope Name)) (at : MeantAt) → AreInScopes alone d (all_arguments ms) k (inner ++ round) at → Among (Inner bound at) (all_arguments ms) k → MessagesOnly (λ s. text_eq s t ≡ false) ms → IsFree inner (free_in_messages text_eq is_pseudo_variable ms) →
          MessagesMayFill z true gone (declared_in inner) ms
      messages-stand no_messages d k inner at h p a f = tt
      messages-stand (more_messages s args ms) d k inner at h p a f = (
        a.0,
        trees-stand args d k inner at (first-arguments alone d args (all_arguments ms) k (inner ++ round) at h) (first-message (Inner bound at) args (all_arguments ms) k p) a.1 (λ n e. f n (among-left (free_in_trees text_eq is_pseudo_variable args) (free_in_messages text_eq is_pseudo_variable ms) n e)),
        messages-stand ms d (k + count args) inner at (other-arguments alone d args (all_arguments ms) k (inner ++ round) at h) (other-messages (Inner bound at) args (all_arguments ms) k p) a.2 (λ n e. f n (among-right (free_in_trees text_eq is_pseudo_variable args) (free_in_messages text_eq is_pseudo_variable ms) n e)),
      )

      pub statements-stand : (ss : StatementsOf Name) (d k : ℕ) (inner : List (PlacedScope Name)) (at : MeantAt) → AreInScopes alone d (statement_trees ss) k (inner ++ round) at → Among (Inner bound at) (statement_trees ss) k → StatementsSendOnly (λ s. text_eq s t ≡ false) ss → IsFree inner (free_in_statements text_eq is_pseudo_variable ss) →
          StatementsMayFill z true gone (declared_in inner) ss
      statements-stand no_statements d k inner at h p a f = tt
      statements-stand (more_statements c u ss) d k inner at h p a f = (
        tree-stands u d inner (below k at) (first-node alone d u (statement_trees ss) k (inner ++ round) at h) (first-below (Inner bound at) u (statement_trees ss) k p) a.0 (λ n e. f n (among-left (free_occurrences text_eq is_pseudo_variable u) (free_in_statements text_eq is_pseudo_variable ss) n e)),
        statements-stand ss d (suc k) inner at (other-nodes alone d u (statement_trees ss) k (inner ++ round) at h) (others-below (Inner bound at) u (statement_trees ss) k p) a.1 (λ n e. f n (among-right (free_occurrences text_eq is_pseudo_variable u) (free_in_statements text_eq is_pseudo_variable ss) n e)),
      )
