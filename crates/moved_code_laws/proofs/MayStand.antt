-- A body may be put elsewhere where each node of it, by its path, means the same there.
use Rattle.std.proofs.Common.{◌≡◌, ◌≤◌, ℕ, suc, ◌+◌, List, [], ◌∷◌, ◌++◌, length, Option, Some, None, refl, sym, ap, ◌∙◌, subst, arith}
use Rattle.std.specs.Prelude.{Bool, true, false, not, ◌||◌, if◌then◌else◌, codes}
use Rattle.std.specs.List.{AllByRecursion, list_any}
use Rattle.std.specs.Option.{option_map_or}
use Rattle.std.proofs.lemmas.Bool.{false≢true}
use Rattle.rb_base.specs.Names.{text_eq}
use Rattle.tree_model.specs.Tree.{TreeOf, var, literal, send, cascade, assign, block, brace, return, TreesOf, no_trees, more_trees, MessagesOf, no_messages, more_messages, StatementsOf, no_statements, more_statements, MethodOf}
use Rattle.tree_model.specs.Path.{count, all_arguments, statement_trees}
use Rattle.scope_model.specs.declared.local.Local.{Local}
use Rattle.scope_model.specs.declared.local.Local.TheVariants.{Argument, Temporary, NotLocal}
use Rattle.scope_model.specs.SpecialNames.{is_pseudo_variable}
use Rattle.scope_model.specs.Scope.{PlacedScope, method_scope, is_among, local_by}
use Rattle.scope_model.specs.FreeNames.{free_names}
use Rattle.image_model.specs.Means.{MeaningOf, pseudo, means_by}
use Rattle.image_model.specs.Uses.{name_used}
use Rattle.run_model.specs.Values.{Name}
use Rattle.run_model.proofs.Finite.{by_cases}
use Rattle.resolved_model.specs.Resolving.{Meant, MeantAt, below}
use Rattle.resolved_model.specs.Environments.{kind_in, declared_in}
use Rattle.resolved_model.proofs.Environments.{kind_of, kind-scopes}
use Rattle.resolved_model.proofs.ResolvingLemmas.{IsInScopes, AreInScopes, below-node, first-node, other-nodes, first-arguments, other-arguments}
use Rattle.mapped_model.proofs.NodesBelow.{FactAt, Below, Among, below-children, first-below, others-below, first-message, other-messages}
use Rattle.rename_laws.proofs.Unnamed.{neither_left, denied}
use Rattle.unfolded_calls.specs.SameContexts.{IsOutside}
use Rattle.unfolded_places.specs.Inlining.{passed_for, IsFreeOf, Filling}
use Rattle.unfolded_places.specs.Fillings.{MeansSame, NameFits, MayFill, AllMayFill, MessagesMayFill, StatementsMayFill}
use Rattle.command_model.specs.SameMethods.{same_meaning}
use Rattle.command_model.specs.Places.{is_return, is_formal, is_of_block}
use Rattle.command_model.specs.Inlined.{passed_as}
use Rattle.moved_code_laws.proofs.LocalsThere.{or_local, local-inside, undeclared-outer, IsDeep, IsOfDeep, local-deep, not-zero}
use Rattle.moved_code_laws.proofs.Saying.{alone, said, said_by, said-scopes}
use Rattle.moved_code_laws.proofs.FilledThere.{passed-same, passed-none}
use Rattle.moved_code_laws.proofs.OneMeaning.{outside-alike}

-- something is passed for each argument
passed-some : (xs : List Name) (ts : TreesOf Name) (n : Name) → length xs ≡ count ts → is_among text_eq xs n ≡ true → passed_for xs ts n ≡ None → ⊥
passed-some [] ts n c e q = false≢true e
passed-some (x ∷ xs) no_trees n c e q = omega (arith, c)
passed-some (x ∷ xs) (more_trees t ts) n c e q = by (text_eq n x) e q (passed-some xs ts n (omega (arith, c)))
  where
    by : (b : Bool) → (b || is_among text_eq xs n) ≡ true → (if b then Some t else passed_for xs ts n) ≡ None → (is_among text_eq xs n ≡ true → passed_for xs ts n ≡ None → ⊥) → ⊥
    by true e q ih = cc
    by false e q ih = ih e q

-- a local of a block
of-block : (l k : Local) (b : Bool) → IsOfDeep 1 l → kind_of l ≡ Some b → is_of_block (or_local l k) ≡ true
of-block (Argument scope) k b h e = ap not (not-zero scope h)
of-block (Temporary scope) k b h e = ap not (not-zero scope h)
of-block NotLocal k b h e = absurd (cc)

module _ (m : MethodOf Name) (passed : TreesOf Name) (before after : Name → MeaningOf Name) (round : List (PlacedScope Name)) (supers : Bool) where
  -- what a name means that stands for this
  abbrev pub meaning_by : Local → (Name → MeaningOf Name) → Name → MeaningOf Name
  meaning_by l g n = if is_pseudo_variable n then pseudo else means_by l (g n)

  -- a name may be moved, by what is said of names where it stands
  abbrev pub IsKeptName : (Name → Local) → Name → Type 0
  IsKeptName loc n =
      option_map_or (λ t. not (list_any (λ x. is_of_block (loc x)) (free_names text_eq is_pseudo_variable t))) (if is_formal (loc n) then passed_as text_eq m.arguments passed n else None)
      (is_of_block (loc n) || same_meaning text_eq (meaning_by (loc n) before n) (meaning_by (said_by round n) after n)) ≡ true

  -- so a node: its name may be moved, it assigns no argument and no pseudo-variable, it is no return, and `super` only where it may stand
  pub record IsFine (here : Name → Meant) (u : TreeOf Name) : Type 0 where
    pub name : (n : Name) → name_used u ≡ Some n → IsKeptName (λ x. said (here x)) n
    pub loose : (n : Name) (t : TreeOf Name) → u ≡ assign n t → (is_pseudo_variable n ≡ false) × ((s : ℕ) → said (here n) ≡ Argument s → ⊥)
    pub no_return : is_return u ≡ false
    pub above : u ≡ var (codes "super") → supers ≡ true

  abbrev pub Fine : MeantAt → FactAt
  Fine at path u = IsFine (at path) u

  module _ (outside : (n : Name) → IsOutside (before n)) (none : m.body.temporaries ≡ []) (counted : length m.arguments ≡ count passed) where
    abbrev base : List (PlacedScope Name)
    base = (0, method_scope m) ∷ []

    -- what is moved, and where
    abbrev pub z : Filling
    z = record { arguments = m.arguments; passed = passed; before = before; after = after; round = declared_in round }

    abbrev pub gone : Name → Bool
    gone s = false

    -- what is said of a name that no block of the body declares
    own-local : (inner : List (PlacedScope Name)) (n : Name) → is_pseudo_variable n ≡ false → kind_in (declared_in inner) n ≡ None → said_by (inner ++ base) n ≡ (if is_among text_eq m.arguments n then Argument 0 else NotLocal)
    own-local inner n p k =
        ap (λ b. if b then NotLocal else local_by text_eq (inner ++ base) n) p ∙ undeclared-outer inner base n k
        ∙ ap (λ ts. if is_among text_eq m.arguments n then Argument 0 else if is_among text_eq ts n then Temporary 0 else NotLocal) none

    module _ (inner : List (PlacedScope Name)) (deep : AllByRecursion (IsDeep 1) inner) (loc : Name → Local) (told : (x : Name) → loc x ≡ said_by (inner ++ base) x) where
      -- what is passed for a name names nothing that a block declares
      free-of : (t : TreeOf Name) → not (list_any (λ x. is_of_block (loc x)) (free_names text_eq is_pseudo_variable t)) ≡ true → IsFreeOf (declared_in inner) t
      free-of (var y) h = λ q. by (kind_in (declared_in inner) y) refl q
        where
          by : (o : Option Bool) → kind_in (declared_in inner) y ≡ o → is_pseudo_variable y ≡ false → o ≡ None
          by None e q = refl
          by (Some b) e q =
              let blocked : is_of_block (loc y) ≡ true = ap is_of_block (told y ∙ ap (λ b. if b then NotLocal else local_by text_eq (inner ++ base) y) q ∙ local-inside inner base y) ∙ of-block (local_by text_eq inner y) (local_by text_eq base y) b (local-deep 1 inner y deep) (sym (kind-scopes inner y) ∙ e) in
              absurd (false≢true (sym (neither_left (is_of_block (loc y)) false (denied (is_of_block (loc y) || false) h)) ∙ blocked))
      free-of (literal l) h = tt
      free-of (send r s args) h = tt
      free-of (cascade r ms) h = tt
      free-of (assign n t) h = tt
      free-of (block ps ts ss e) h = tt
      free-of (brace ts) h = tt
      free-of (return t) h = tt

      -- by whether a name is an argument
      module _ (n : Name) (p : is_pseudo_variable n ≡ false) (k : kind_in (declared_in inner) n ≡ None) (kept : IsKeptName loc n) where
        abbrev Kept : Local → Type 0
        Kept l =
            option_map_or (λ t. not (list_any (λ x. is_of_block (loc x)) (free_names text_eq is_pseudo_variable t))) (if is_formal l then passed_as text_eq m.arguments passed n else None)
            (is_of_block l || same_meaning text_eq (meaning_by l before n) (meaning_by (said_by round n) after n)) ≡ true

        kept-by : (b : Bool) → is_among text_eq m.arguments n ≡ b → Kept (if b then Argument 0 else NotLocal)
        kept-by b e = subst Kept (told n ∙ own-local inner n p k ∙ ap (λ b. if b then Argument 0 else NotLocal) e) kept

        -- none is passed for it, and it means the same outside
        alike : is_among text_eq m.arguments n ≡ false → (kind_in (declared_in round) n ≡ None) × (before n ≡ after n)
        alike e =
            let same : same_meaning text_eq (before n) (means_by (said_by round n) (after n)) ≡ true = subst (λ b. same_meaning text_eq (if b then pseudo else before n) (if b then pseudo else means_by (said_by round n) (after n)) ≡ true) p (kept-by false e) in
            let both = outside-alike (before n) (said_by round n) (after n) (outside n) same in
            (kind-scopes round n ∙ ap kind_of (sym (ap (λ b. if b then NotLocal else local_by text_eq round n) p) ∙ both.0), both.1)

        pub name-fits : NameFits z supers gone (declared_in inner) n
        name-fits =
            by_cases (is_among text_eq m.arguments n)
            (λ e. record {
              passed = λ t q. free-of t (ap (λ o. option_map_or (λ t. not (list_any (λ x. is_of_block (loc x)) (free_names text_eq is_pseudo_variable t))) o (same_meaning text_eq (meaning_by (Argument 0) before n) (meaning_by (said_by round n) after n))) (sym (passed-same m.arguments passed n ∙ q)) ∙ kept-by true e);
              free = λ q. absurd (passed-some m.arguments passed n counted e q);
            })
            (λ e. record {
              passed = λ t q. absurd (none-some (sym (passed-none m.arguments passed n e) ∙ q));
              free = λ q. alike e;
            })
          where
            none-some : {t : TreeOf Name} → None ≡ Some t → ⊥
            none-some q = cc

        -- what is assigned means the same outside
        pub target-same : ((s : ℕ) → loc n ≡ Argument s → ⊥) → MeansSame z supers gone n
        target-same loose =
            by_cases (is_among text_eq m.arguments n)
            (λ e. absurd (loose 0 (told n ∙ own-local inner n p k ∙ ap (λ b. if b then Argument 0 else NotLocal) e)))
            (λ e. let both = alike e in (passed-none m.arguments passed n e, both.0, both.1))

    mutual
      -- a node
      pub tree-may : (t : TreeOf Name) (d : ℕ) (inner : List (PlacedScope Name)) (at : MeantAt) → 1 ≤ d → AllByRecursion (IsDeep 1) inner → IsInScopes alone d t (inner ++ base) at → Below (Fine at) t → MayFill z supers gone (declared_in inner) t
      tree-may (var n) d inner at q deep h p = λ e k. name-fits inner deep (λ x. said (at [] x)) (λ x. ap said (h [] x) ∙ said-scopes (inner ++ base) x) n e k ((p [] (var n) refl).name n refl)
      tree-may (literal l) d inner at q deep h p = tt
      tree-may (send r s args) d inner at q deep h p =
          let k = below-node alone d (send r s args) (inner ++ base) at h in
          let j = below-children (Fine at) (send r s args) p in (
            refl,
            (p (0 ∷ []) r refl).above,
            tree-may r (d + 1) inner (below 0 at) (omega (arith, q)) deep (first-node alone (d + 1) r args 0 (inner ++ base) at k) (first-below (Fine at) r args 0 j),
            trees-may args (d + 1) 1 inner at (omega (arith, q)) deep (other-nodes alone (d + 1) r args 0 (inner ++ base) at k) (others-below (Fine at) r args 0 j),
          )
      tree-may (cascade r ms) d inner at q deep h p =
          let k = below-node alone d (cascade r ms) (inner ++ base) at h in
          let j = below-children (Fine at) (cascade r ms) p in (
            tree-may r (d + 1) inner (below 0 at) (omega (arith, q)) deep (first-node alone (d + 1) r (all_arguments ms) 0 (inner ++ base) at k) (first-below (Fine at) r (all_arguments ms) 0 j),
            messages-may ms (d + 1) 1 inner at (omega (arith, q)) deep (other-nodes alone (d + 1) r (all_arguments ms) 0 (inner ++ base) at k) (others-below (Fine at) r (all_arguments ms) 0 j),
          )
      tree-may (assign n t) d inner at q deep h p =
          let k = below-node alone d (assign n t) (inner ++ base) at h in
          let fine = p [] (assign n t) refl in
          let loose = fine.loose n t refl in (
            loose.0,
            (λ e. target-same inner deep (λ x. said (at [] x)) (λ x. ap said (h [] x) ∙ said-scopes (inner ++ base) x) n loose.0 e (fine.name n refl) loose.1),
            tree-may t (d + 1) inner (below 0 at) (omega (arith, q)) deep (first-node alone (d + 1) t no_trees 0 (inner ++ base) at k) (first-below (Fine at) t no_trees 0 (below-children (Fine at) (assign n t) p)),
          )
      tree-may (block ps ts ss e) d inner at q deep h p =
          statements-may ss (d + 1) 0 ((d, record { arguments = ps; temporaries = ts; statements = ss }) ∷ inner) at (omega (arith, q)) (q, deep) (below-node alone d (block ps ts ss e) (inner ++ base) at h) (below-children (Fine at) (block ps ts ss e) p)
      tree-may (brace ts) d inner at q deep h p = trees-may ts (d + 1) 0 inner at (omega (arith, q)) deep (below-node alone d (brace ts) (inner ++ base) at h) (below-children (Fine at) (brace ts) p)
      tree-may (return t) d inner at q deep h p = false≢true (sym (p [] (return t) refl).no_return)

      trees-may : (ts : TreesOf Name) (d k : ℕ) (inner : List (PlacedScope Name)) (at : MeantAt) → 1 ≤ d → AllByRecursion (IsDeep 1) inner → AreInScopes alone d ts k (inner ++ base) at → Among (Fine at) ts k → AllMayFill z supers gone (declared_in inner) ts
      trees-may no_trees d k inner at q deep h p = tt
      trees-may (more_trees t ts) d k inner at q deep h p =
          (tree-may t d inner (below k at) q deep (first-node alone d t ts k (inner ++ base) at h) (first-below (Fine at) t ts k p), trees-may ts d (suc k) inner at q deep (other-nodes alone d t ts k (inner ++ base) at h) (others-below (Fine at) t ts k p))

      messages-may : (ms : MessagesOf Name) (d k : ℕ) (inner : List (PlacedScope Name)) (at : MeantAt) → 1 ≤ d → AllByRecursion (IsDeep 1) inner → AreInScopes alone d (all_arguments ms) k (inner ++ base) at → Among (Fine at) (all_arguments ms) k →
          MessagesMayFill z supers gone (declared_in inner) ms
      messages-may no_messages d k inner at q deep h p = tt
      messages-may (more_messages s args ms) d k inner at q deep h p = (
        refl,
        trees-may args d k inner at q deep (first-arguments alone d args (all_arguments ms) k (inner ++ base) at h) (first-message (Fine at) args (all_arguments ms) k p),
        messages-may ms d (k + count args) inner at q deep (other-arguments alone d args (all_arguments ms) k (inner ++ base) at h) (other-messages (Fine at) args (all_arguments ms) k p),
      )

      statements-may : (ss : StatementsOf Name) (d k : ℕ) (inner : List (PlacedScope Name)) (at : MeantAt) → 1 ≤ d → AllByRecursion (IsDeep 1) inner → AreInScopes alone d (statement_trees ss) k (inner ++ base) at → Among (Fine at) (statement_trees ss) k →
          StatementsMayFill z supers gone (declared_in inner) ss
      statements-may no_statements d k inner at q deep h p = tt
      statements-may (more_statements n t ss) d k inner at q deep h p = (
        tree-may t d inner (below k at) q deep (first-node alone d t (statement_trees ss) k (inner ++ base) at h) (first-below (Fine at) t (statement_trees ss) k p),
        statements-may ss d (suc k) inner at q deep (other-nodes alone d t (statement_trees ss) k (inner ++ base) at h) (others-below (Fine at) t (statement_trees ss) k p),
      )
