-- Code that does not read an argument and passes something plain for it, once its names are resolved.
use Rattle.std.proofs.Common.{◌≡◌, ℕ, zero, suc, ◌+◌, ◌<◌, List, [], ◌∷◌, ◌++◌, length, Option, Some, None, refl, sym, ap, ◌∙◌, subst, arith}
use Rattle.std.specs.Prelude.{Bool, true, false, not, ◌&&◌, ◌||◌, if◌then◌else◌, slice_get, map, cond, codes}
use Rattle.std.specs.List.{list_all}
use Rattle.std.specs.Option.{option_map_or}
use Rattle.std.proofs.lemmas.Bool.{false≢true, eqb-true}
use Rattle.rb_base.specs.Names.{text_eq}
use Rattle.scope_model.specs.SpecialNames.{is_pseudo_variable}
use Rattle.tree_model.specs.Tree.{TreeOf, var, literal, send, cascade, assign, block, brace, return, TreesOf, no_trees, more_trees, MessagesOf, no_messages, more_messages, StatementsOf, no_statements, more_statements}
use Rattle.tree_model.specs.Path.{count, all_arguments, statement_trees}
use Rattle.scope_model.specs.Scope.{ScopeOf, PlacedScope, own_scope, is_among, local_by}
use Rattle.scope_model.specs.declared.local.Local.TheVariants.{Argument, Temporary, NotLocal}
use Rattle.image_model.specs.Means.{of_instance, of_class_side, of_class, MeaningOf, pseudo, argument, temporary, variable, a_class, transcript, undeclared, means_by}
use Rattle.run_model.specs.Values.{Name}
use Rattle.run_model.proofs.Finite.{by_cases, and-true_left, and-true_right}
use Rattle.resolved_model.specs.ResolvedTrees.{of_word, to_fixed}
use Rattle.resolved_model.specs.Resolving.{Meant, MeantAt, below, reference_of}
use Rattle.mapped_model.proofs.NodesBelow.{FactAt, onward, Below, Among, below-children, first-below, others-below, first-message, other-messages}
use Rattle.argument_laws.specs.ArgumentGone.{inwards}
use Rattle.argument_laws.specs.PlainArguments.{gives_value, is_plain, has_plain, is_gap, LeavesReference, LeavesTarget, PassesPlain, MayLose, MayLoseEach, MessagesMayLose, LinesMayLose}
use Rattle.resolved_model.specs.Environments.{Declared, as_argument, as_temporary, opened, kind_in, place_in, reference_by, target_by, reference_in, target_in, declared_in, tree_in, trees_in, messages_in, statements_in}
use Rattle.resolved_model.proofs.Environments.{kind_of, kind-scopes, reference-scopes}
use Rattle.resolved_model.proofs.ResolvingLemmas.{meant_by, IsInScopes, AreInScopes, below-node, first-node, other-nodes, first-arguments, other-arguments}
use Rattle.rename_laws.proofs.TextsTold.{text-turned}
use Rattle.command_model.specs.ParameterConditions.{is_declared, passed_by}
use Rattle.parameter_laws.proofs.AtomTrees.{atom-told}
use Rattle.parameter_laws.proofs.Reading.{is_own_argument, reads_argument}
use Rattle.parameter_laws.proofs.PlainStrictly.{is_plain_tree, passes_plain, node_plain}
use Rattle.parameter_laws.proofs.GapsInNames.{gap-first, gap-there, inwards-none, inwards-suc, inwards-both, read-leaves, assigned-leaves}

-- a name in a gap behind declarations of one kind is none of them
gap-behind : (make : Name → Declared) → ((m : Name) → (make m).name ≡ m) → (ns : List Name) (gap : Option ℕ) (env : List Declared) (n : Name) → is_gap (inwards (length ns) gap) (place_in (map make ns ++ env) n) ≡ true → (is_among text_eq ns n ≡ false) × (is_gap gap (place_in env n) ≡ true)
gap-behind make own [] gap env n h = (refl, subst (λ x. is_gap x (place_in env n) ≡ true) (inwards-none gap) h)
gap-behind make own (m ∷ ns) gap env n h =
    by (text_eq n (make m).name) refl (subst (λ x. is_gap x (place_in (make m ∷ (map make ns ++ env)) n) ≡ true) (sym (inwards-suc (length ns) gap)) h) (λ q. gap-behind make own ns gap env n q)
  where
    by : (b : Bool) → text_eq n (make m).name ≡ b → is_gap (inwards 1 (inwards (length ns) gap)) (cond (not b) (1 + place_in (map make ns ++ env) n) 0) ≡ true →
        (is_gap (inwards (length ns) gap) (place_in (map make ns ++ env) n) ≡ true → (is_among text_eq ns n ≡ false) × (is_gap gap (place_in env n) ≡ true)) →
        ((text_eq n m || is_among text_eq ns n) ≡ false) × (is_gap gap (place_in env n) ≡ true)
    by true e q next = absurd (false≢true (sym (gap-first (inwards (length ns) gap)) ∙ q))
    by false e q next =
        let rest = next (gap-there (inwards (length ns) gap) (place_in (map make ns ++ env) n) q) in
        (λ i. (ap (text_eq n) (sym (own m)) ∙ e) i || rest.0 i, rest.1)

-- the argument of a number of a method, by its place
argument-at : (k : ℕ) (args : List Name) (env : List Declared) (n : Name) → place_in (map as_argument args ++ env) n ≡ k → k < length args → (is_among text_eq args n ≡ true) × (option_map_or (λ y. text_eq y n) (slice_get args k) false ≡ true)
argument-at k [] env n e h = absurd (omega arith)
argument-at k (a ∷ args) env n e h = by (text_eq n a) refl k e h (λ j q l. argument-at j args env n q l)
  where
    by : (b : Bool) → text_eq n a ≡ b → (j : ℕ) → cond (not b) (1 + place_in (map as_argument args ++ env) n) 0 ≡ j → j < length (a ∷ args) →
        ((m : ℕ) → place_in (map as_argument args ++ env) n ≡ m → m < length args → (is_among text_eq args n ≡ true) × (option_map_or (λ y. text_eq y n) (slice_get args m) false ≡ true)) →
        ((b || is_among text_eq args n) ≡ true) × (option_map_or (λ y. text_eq y n) (slice_get (a ∷ args) j) false ≡ true)
    by true t zero q l next = (refl, text-turned a n ∙ t)
    by true t (suc j) q l next = absurd (omega (arith, q))
    by false t zero q l next = absurd (omega (arith, q))
    by false t (suc j) q l next = next j (omega (arith, q)) (omega arith)

-- what is read under a name that is declared and not `thisContext` gives a value
meaning-gives : (m : MeaningOf Name) (k : ℕ) (n : Name) → is_declared m ≡ true → not (text_eq n (codes "thisContext")) ≡ true → gives_value (reference_of m k n) ≡ true
meaning-gives pseudo k n e f = f
meaning-gives (argument scope) k n e f = refl
meaning-gives (temporary scope) k n e f = refl
meaning-gives (variable of_instance c) k n e f = refl
meaning-gives (variable of_class_side c) k n e f = refl
meaning-gives (variable of_class c) k n e f = refl
meaning-gives (a_class c) k n e f = refl
meaning-gives transcript k n e f = refl
meaning-gives undeclared k n e f = absurd (false≢true e)

-- what is said of a name in scopes where it stands in the gap: it is an argument of the method, and the one that goes
abbrev pub GapIs : (Name → Type 0) → Option ℕ → List (PlacedScope Name) → Type 0
GapIs Gone gap ps = (n : Name) → is_gap gap (place_in (declared_in ps) n) ≡ true → (local_by text_eq ps n ≡ Argument 0) × Gone n

module _ (Gone : Name → Type 0) where
  -- inside a block
  gap-inside : (d : ℕ) (scope : ScopeOf Name) (gap : Option ℕ) (ps : List (PlacedScope Name)) → GapIs Gone gap ps → GapIs Gone (inwards (length scope.arguments + length scope.temporaries) gap) ((d, scope) ∷ ps)
  gap-inside d scope gap ps h n q =
      let outer = gap-behind as_argument (λ m. refl) scope.arguments (inwards (length scope.temporaries) gap) (map as_temporary scope.temporaries ++ declared_in ps) n (subst (λ x. is_gap x (place_in (opened scope.arguments scope.temporaries (declared_in ps)) n) ≡ true) (sym (inwards-both (length scope.arguments) (length scope.temporaries) gap)) q) in
      let inner = gap-behind as_temporary (λ m. refl) scope.temporaries gap (declared_in ps) n outer.1 in
      let found = h n inner.1 in
      ((λ i. if outer.0 i then Argument d else if inner.0 i then Temporary d else local_by text_eq ps n) ∙ found.0, found.1)

-- among the arguments of a method
pub method-gap : (k : ℕ) (scope : ScopeOf Name) → k < length scope.arguments → GapIs (λ n. option_map_or (λ y. text_eq y n) (slice_get scope.arguments k) false ≡ true) (Some k) ((0, scope) ∷ [])
method-gap k scope h n q =
    let found = argument-at k scope.arguments (map as_temporary scope.temporaries ++ []) n (sym (eqb-true k (place_in (opened scope.arguments scope.temporaries []) n) q)) h in
    (λ i. if found.0 i then Argument 0 else if is_among text_eq scope.temporaries n then Temporary 0 else NotLocal, found.1)

module _ (g : Name → MeaningOf Name) (s : Name) (k : ℕ) (args : List Name) where
  -- a name that goes
  abbrev Gone : Name → Type 0
  Gone n = option_map_or (λ y. text_eq y n) (slice_get args k) false ≡ true

  -- each message of a node passes something plain, and the node does not read the argument, if it is one that goes
  abbrev pub Plain : MeantAt → FactAt
  Plain at path u = node_plain s k (λ n. (at path n).meaning) u ≡ true

  abbrev pub Unread : Option ℕ → MeantAt → FactAt
  Unread None at path u = Unit {0}
  Unread (Some j) at path u = reads_argument k args (λ n. (at path n).meaning) u ≡ false

  -- names in scopes
  module _ (ps : List (PlacedScope Name)) where
    -- whether a name may be used
    abbrev May : Option ℕ → Name → Type 0
    May gap n = is_gap gap (place_in (declared_in ps) n) ≡ false

    -- a plain node
    tree-plain : (mean : Name → MeaningOf Name) (t : TreeOf Name) → ((n : Name) → mean n ≡ (meant_by g ps n).meaning) → is_plain_tree mean t ≡ true → is_plain (tree_in g (declared_in ps) t) ≡ true
    tree-plain mean (var n) h e =
        let known = and-true_left (is_declared (mean n)) (not (text_eq n (codes "thisContext"))) e in
        let other = and-true_right (is_declared (mean n)) (not (text_eq n (codes "thisContext"))) e in
        ap gives_value (sym (reference-scopes ps (g n) n)) ∙ meaning-gives (meant_by g ps n).meaning (meant_by g ps n).place n (ap is_declared (sym (h n)) ∙ known) other
    tree-plain mean (literal l) h e = sym (atom-told l) ∙ e
    tree-plain mean (send r u ts) h e = absurd (false≢true e)
    tree-plain mean (cascade r ms) h e = absurd (false≢true e)
    tree-plain mean (assign n t) h e = absurd (false≢true e)
    tree-plain mean (block qs ts ss n) h e = absurd (false≢true e)
    tree-plain mean (brace ts) h e = absurd (false≢true e)
    tree-plain mean (return t) h e = absurd (false≢true e)

    -- the node of a number
    nth-plain : (mean : Name → MeaningOf Name) → ((n : Name) → mean n ≡ (meant_by g ps n).meaning) → (ts : TreesOf Name) (j : ℕ) → passes_plain s j mean ts ≡ true → has_plain j (trees_in g (declared_in ps) ts) ≡ true
    nth-plain mean h no_trees j e = absurd (false≢true e)
    nth-plain mean h (more_trees t ts) zero e = tree-plain mean t h e
    nth-plain mean h (more_trees t ts) (suc j) e = nth-plain mean h ts j e

    -- the first of some messages, and the others
    first-passes : (mean : Name → MeaningOf Name) → ((n : Name) → mean n ≡ (meant_by g ps n).meaning) → (u : Name) (ts : TreesOf Name) (rest : List (TreesOf Name)) →
        list_all (passes_plain s k mean) (if text_eq s u then ts ∷ rest else rest) ≡ true → PassesPlain s k u (trees_in g (declared_in ps) ts)
    first-passes mean h u ts rest e q =
        nth-plain mean h ts k (and-true_left (passes_plain s k mean ts) (list_all (passes_plain s k mean) rest) (subst (λ b. list_all (passes_plain s k mean) (if b then ts ∷ rest else rest) ≡ true) q e))

    others-pass : (mean : Name → MeaningOf Name) (ts : TreesOf Name) (rest : List (TreesOf Name)) (b : Bool) → list_all (passes_plain s k mean) (if b then ts ∷ rest else rest) ≡ true → list_all (passes_plain s k mean) rest ≡ true
    others-pass mean ts rest true e = and-true_right (passes_plain s k mean ts) (list_all (passes_plain s k mean) rest) e
    others-pass mean ts rest false e = e

    -- a name in the gap
    gap-named : (gap : Option ℕ) → GapIs Gone gap ps → (n : Name) → is_pseudo_variable n ≡ false → is_gap gap (place_in (declared_in ps) n) ≡ true → (is_own_argument (meant_by g ps n).meaning && option_map_or (λ y. text_eq y n) (slice_get args k) false) ≡ true
    gap-named gap h n e q =
        let found = h n q in
        (λ i. is_own_argument (if e i then pseudo else means_by (if e i then NotLocal else found.0 i) (g n)) && found.1 i)

    -- reading
    name-leaves : (gap : Option ℕ) (at : MeantAt) (n : Name) → GapIs Gone gap ps → at [] n ≡ meant_by g ps n → Unread gap at [] (var n) → LeavesReference gap (reference_in (declared_in ps) (g n) n)
    name-leaves None at n h e f = read-leaves (May None) None (declared_in ps) (λ m p. p) (g n) n refl
    name-leaves (Some j) at n h e f =
        by_cases (is_pseudo_variable n)
        (λ t. subst (λ b. LeavesReference (Some j) (if b then of_word n else reference_by (kind_in (declared_in ps) n) (place_in (declared_in ps) n) (g n) n)) (sym t) tt)
        (λ t. by_cases (is_gap (Some j) (place_in (declared_in ps) n))
        (λ q. absurd (false≢true (sym f ∙ ap (λ (m : Meant). is_own_argument m.meaning && option_map_or (λ y. text_eq y n) (slice_get args k) false) e ∙ gap-named (Some j) h n t q)))
        (λ q. read-leaves (May (Some j)) (Some j) (declared_in ps) (λ m p. p) (g n) n q))

    -- assigning
    target-leaves : (gap : Option ℕ) (n : Name) → GapIs Gone gap ps → LeavesTarget gap (target_in (declared_in ps) (g n) n)
    target-leaves gap n h =
        by_cases (is_gap gap (place_in (declared_in ps) n))
        (λ q. by (is_pseudo_variable n) (kind-scopes ps n ∙ ap kind_of (h n q).0))
        (λ q. assigned-leaves (May gap) gap (declared_in ps) (λ m p. p) (g n) n q)
      where
        by : (b : Bool) → kind_in (declared_in ps) n ≡ Some false → LeavesTarget gap (if b then to_fixed n else target_by (kind_in (declared_in ps) n) (place_in (declared_in ps) n) (g n) n)
        by true e = tt
        by false e = subst (λ o. LeavesTarget gap (target_by o (place_in (declared_in ps) n) (g n) n)) (sym e) tt

  -- the gap goes inwards, and what is read stays what it is
  unread-on : (gap : Option ℕ) (n : ℕ) (at : MeantAt) (path : List ℕ) (u : TreeOf Name) → Unread gap at path u → Unread (inwards n gap) at path u
  unread-on None n at path u h = tt
  unread-on (Some j) n at path u h = h

  -- what is unread further in
  unread-below : (gap : Option ℕ) (j : ℕ) (at : MeantAt) (t : TreeOf Name) → Below (onward j (Unread gap at)) t → Below (Unread gap (below j at)) t
  unread-below None j at t h path u q = tt
  unread-below (Some n) j at t h path u q = h path u q

  unread-inside : (gap : Option ℕ) (n : ℕ) (at : MeantAt) (ts : TreesOf Name) (j : ℕ) → Among (Unread gap at) ts j → Among (Unread (inwards n gap) at) ts j
  unread-inside gap n at ts j h a m path u e q = unread-on gap n at (m ∷ path) u (h a m path u e q)

  mutual
    tree-may : (t : TreeOf Name) (gap : Option ℕ) (d : ℕ) (ps : List (PlacedScope Name)) (at : MeantAt) → IsInScopes g d t ps at → GapIs Gone gap ps → Below (Plain at) t → Below (Unread gap at) t → MayLose s k gap (tree_in g (declared_in ps) t)
    tree-may (var n) gap d ps at h c p f = name-leaves ps gap at n c (h [] n) (f [] (var n) refl)
    tree-may (literal l) gap d ps at h c p f = tt
    tree-may (send r u ts) gap d ps at h c p f =
        let x = below-node g d (send r u ts) ps at h in
        let y = below-children (Plain at) (send r u ts) p in
        let z = below-children (Unread gap at) (send r u ts) f in
        let others = other-nodes g (d + 1) r ts 0 ps at x in (
          tree-may r gap (d + 1) ps (below 0 at) (first-node g (d + 1) r ts 0 ps at x) c (first-below (Plain at) r ts 0 y) (unread-below gap 0 at r (first-below (Unread gap at) r ts 0 z)),
          trees-may ts gap (d + 1) 1 ps at others c (others-below (Plain at) r ts 0 y) (others-below (Unread gap at) r ts 0 z),
          first-passes ps (λ n. (at [] n).meaning) (λ n. ap (λ (m : Meant). m.meaning) (h [] n)) u ts [] (p [] (send r u ts) refl),
        )
    tree-may (cascade r ms) gap d ps at h c p f =
        let x = below-node g d (cascade r ms) ps at h in
        let y = below-children (Plain at) (cascade r ms) p in
        let z = below-children (Unread gap at) (cascade r ms) f in (
          tree-may r gap (d + 1) ps (below 0 at) (first-node g (d + 1) r (all_arguments ms) 0 ps at x) c (first-below (Plain at) r (all_arguments ms) 0 y) (unread-below gap 0 at r (first-below (Unread gap at) r (all_arguments ms) 0 z)),
          messages-may r ms gap (d + 1) 1 ps at (other-nodes g (d + 1) r (all_arguments ms) 0 ps at x) c (λ n. (at [] n).meaning) (λ n. ap (λ (m : Meant). m.meaning) (h [] n)) (p [] (cascade r ms) refl) (others-below (Plain at) r (all_arguments ms) 0 y) (others-below (Unread gap at) r (all_arguments ms) 0 z),
        )
    tree-may (assign n t) gap d ps at h c p f =
        let x = below-node g d (assign n t) ps at h in (
          target-leaves ps gap n c,
          tree-may t gap (d + 1) ps (below 0 at) (first-node g (d + 1) t no_trees 0 ps at x) c (first-below (Plain at) t no_trees 0 (below-children (Plain at) (assign n t) p)) (unread-below gap 0 at t (first-below (Unread gap at) t no_trees 0 (below-children (Unread gap at) (assign n t) f))),
        )
    tree-may (block qs ts ss e) gap d ps at h c p f =
        lines-may ss (inwards (length qs + length ts) gap) (d + 1) 0 (own_scope d (block qs ts ss e) ++ ps) at (below-node g d (block qs ts ss e) ps at h)
        (gap-inside Gone d (record { arguments = qs; temporaries = ts; statements = ss }) gap ps c) (below-children (Plain at) (block qs ts ss e) p)
        (unread-inside gap (length qs + length ts) at (statement_trees ss) 0 (below-children (Unread gap at) (block qs ts ss e) f))
    tree-may (brace ts) gap d ps at h c p f =
        trees-may ts gap (d + 1) 0 ps at (below-node g d (brace ts) ps at h) c (below-children (Plain at) (brace ts) p) (below-children (Unread gap at) (brace ts) f)
    tree-may (return t) gap d ps at h c p f =
        let x = below-node g d (return t) ps at h in
        tree-may t gap (d + 1) ps (below 0 at) (first-node g (d + 1) t no_trees 0 ps at x) c (first-below (Plain at) t no_trees 0 (below-children (Plain at) (return t) p)) (unread-below gap 0 at t (first-below (Unread gap at) t no_trees 0 (below-children (Unread gap at) (return t) f)))

    trees-may : (ts : TreesOf Name) (gap : Option ℕ) (d j : ℕ) (ps : List (PlacedScope Name)) (at : MeantAt) → AreInScopes g d ts j ps at → GapIs Gone gap ps → Among (Plain at) ts j → Among (Unread gap at) ts j → MayLoseEach s k gap (trees_in g (declared_in ps) ts)
    trees-may no_trees gap d j ps at h c p f = tt
    trees-may (more_trees t ts) gap d j ps at h c p f = (
      tree-may t gap d ps (below j at) (first-node g d t ts j ps at h) c (first-below (Plain at) t ts j p) (unread-below gap j at t (first-below (Unread gap at) t ts j f)),
      trees-may ts gap d (suc j) ps at (other-nodes g d t ts j ps at h) c (others-below (Plain at) t ts j p) (others-below (Unread gap at) t ts j f),
    )

    messages-may : (r : TreeOf Name) (ms : MessagesOf Name) (gap : Option ℕ) (d j : ℕ) (ps : List (PlacedScope Name)) (at : MeantAt) → AreInScopes g d (all_arguments ms) j ps at → GapIs Gone gap ps →
        (mean : Name → MeaningOf Name) → ((n : Name) → mean n ≡ (meant_by g ps n).meaning) → list_all (passes_plain s k mean) (passed_by text_eq s (cascade r ms)) ≡ true →
        Among (Plain at) (all_arguments ms) j → Among (Unread gap at) (all_arguments ms) j → MessagesMayLose s k gap (messages_in g (declared_in ps) ms)
    messages-may r no_messages gap d j ps at h c mean l e p f = tt
    messages-may r (more_messages u ts ms) gap d j ps at h c mean l e p f =
        let own = first-arguments g d ts (all_arguments ms) j ps at h in (
          trees-may ts gap d j ps at own c (first-message (Plain at) ts (all_arguments ms) j p) (first-message (Unread gap at) ts (all_arguments ms) j f),
          first-passes ps mean l u ts (passed_by text_eq s (cascade r ms)) e,
          messages-may r ms gap d (j + count ts) ps at (other-arguments g d ts (all_arguments ms) j ps at h) c mean l (others-pass ps mean ts (passed_by text_eq s (cascade r ms)) (text_eq s u) e)
              (other-messages (Plain at) ts (all_arguments ms) j p) (other-messages (Unread gap at) ts (all_arguments ms) j f),
        )

    pub lines-may : (ss : StatementsOf Name) (gap : Option ℕ) (d j : ℕ) (ps : List (PlacedScope Name)) (at : MeantAt) → AreInScopes g d (statement_trees ss) j ps at → GapIs Gone gap ps → Among (Plain at) (statement_trees ss) j → Among (Unread gap at) (statement_trees ss) j →
        LinesMayLose s k gap (statements_in g (declared_in ps) ss)
    lines-may no_statements gap d j ps at h c p f = tt
    lines-may (more_statements e t ss) gap d j ps at h c p f = (
      tree-may t gap d ps (below j at) (first-node g d t (statement_trees ss) j ps at h) c (first-below (Plain at) t (statement_trees ss) j p) (unread-below gap j at t (first-below (Unread gap at) t (statement_trees ss) j f)),
      lines-may ss gap d (suc j) ps at (other-nodes g d t (statement_trees ss) j ps at h) c (others-below (Plain at) t (statement_trees ss) j p) (others-below (Unread gap at) t (statement_trees ss) j f),
    )
