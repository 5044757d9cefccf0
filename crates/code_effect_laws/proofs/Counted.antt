-- A name that a method declares once, and that a block of it declares, is declared by no scope round that block.
use Rattle.std.proofs.Common.{◌≡◌, ℕ, zero, suc, ◌+◌, ◌≤◌, Bool, true, false, cond, List, [], ◌∷◌, ◌++◌, filter, length, Option, Some, None, option_and_then, option_map, refl, sym, ap, ◌∙◌, arith, true≢false}
use Rattle.std.specs.Prelude.{◌||◌, if◌then◌else◌, unwrap_or}
use Rattle.std.specs.List.{list_any, flat_map}
use Rattle.std.proofs.lemmas.Bool.{eqb-true}
use Rattle.std.proofs.lemmas.Grind.{flat_map-append}
use Rattle.std.proofs.lemmas.List.Folds.{flat_map-map}
use Rattle.rb_base.specs.Names.{text_eq}
use Rattle.tree_model.specs.Tree.{TreeOf, var, literal, send, cascade, assign, block, brace, return, TreesOf, no_trees, more_trees, StatementsOf, MethodOf}
use Rattle.tree_model.specs.Path.{nth, statement_trees, children, child, part_at, part_in}
use Rattle.tree_model.specs.Nodes.{Placed, below_step, tree_nodes, trees_nodes, statements_nodes, nodes}
use Rattle.tree_model.proofs.NodesLemmas.{tree_nodes-children}
use Rattle.grammar_model.specs.Checks.{Known, is_fixed}
use Rattle.reread_law.specs.Declarations.{known_names}
use Rattle.file_model.specs.Filing.{Text}
use Rattle.rename_model.specs.NamesThere.{declared_by}
use Rattle.command_model.specs.Asked.{text_asked}
use Rattle.command_model.specs.Temporaries.{is_declared_once}
use Rattle.code_effect_laws.proofs.Steps.{own_known}
use Rattle.code_effect_laws.proofs.Places.{known_at, known-step}
use Rattle.code_effect_laws.proofs.Methods.{known_in}
use Rattle.code_effect_laws.proofs.Known.{behind-both}

-- how often a name stands in a list
abbrev times : Text → List Text → ℕ
times x ns = length (filter (text_eq x) ns)

times-both : (x : Text) (ms ns : List Text) → times x (ms ++ ns) ≡ times x ms + times x ns
times-both x [] ns = let same : times x ns ≡ 0 + times x ns = omega arith in same
times-both x (m ∷ ms) ns = by (text_eq x m) (times-both x ms ns)
  where
    by : (b : Bool) → times x (ms ++ ns) ≡ times x ms + times x ns → length (cond b (m ∷ filter (text_eq x) (ms ++ ns)) (filter (text_eq x) (ms ++ ns))) ≡ length (cond b (m ∷ filter (text_eq x) ms) (filter (text_eq x) ms)) + times x ns
    by true e = let same : suc (times x (ms ++ ns)) ≡ suc (times x ms) + times x ns = omega (arith, e) in same
    by false e = e

-- it stands there, or not
pub stands_once : (x : Text) (ns : List Text) → list_any (text_eq x) ns ≡ true → 1 ≤ times x ns
stands_once x [] e = absurd (true≢false (sym e))
stands_once x (n ∷ ns) e = by (text_eq x n) e (stands_once x ns)
  where
    by : (b : Bool) → (b || list_any (text_eq x) ns) ≡ true → (list_any (text_eq x) ns ≡ true → 1 ≤ times x ns) → 1 ≤ length (cond b (n ∷ filter (text_eq x) ns) (filter (text_eq x) ns))
    by true h rest = let some : 1 ≤ suc (times x ns) = omega arith in some
    by false h rest = rest h

stands_never : (x : Text) (ns : List Text) → times x ns ≤ 0 → list_any (text_eq x) ns ≡ false
stands_never x [] e = refl
stands_never x (n ∷ ns) e = by (text_eq x n) e (stands_never x ns)
  where
    by : (b : Bool) → length (cond b (n ∷ filter (text_eq x) ns) (filter (text_eq x) ns)) ≤ 0 → (times x ns ≤ 0 → list_any (text_eq x) ns ≡ false) → (b || list_any (text_eq x) ns) ≡ false
    by true h rest = absurd (let none : suc (times x ns) ≤ 0 = h in omega (arith, none))
    by false h rest = rest h

-- what a tree declares
abbrev pub declared_below : TreeOf Text → List Text
declared_below t = flat_map (λ (e : Placed Text). declared_by e.1) (tree_nodes t)

abbrev declared_among : ℕ → TreesOf Text → List Text
declared_among k ts = flat_map (λ (e : Placed Text). declared_by e.1) (trees_nodes k ts)

first-among : (k : ℕ) (t : TreeOf Text) (ts : TreesOf Text) → declared_among k (more_trees t ts) ≡ declared_below t ++ declared_among (k + 1) ts
first-among k t ts =
    flat_map-append (λ (e : Placed Text). declared_by e.1) (below_step k (tree_nodes t)) (trees_nodes (k + 1) ts)
    ∙ ap (λ ns. ns ++ declared_among (k + 1) ts) (flat_map-map (λ (e : Placed Text). declared_by e.1) (λ (e : Placed Text). (k ∷ e.0, e.1)) (tree_nodes t))

module _ (x : Text) where
  -- of each of several trees among all of them
  among_all : (ts : TreesOf Text) (k j : ℕ) (d : TreeOf Text) → nth ts j ≡ Some d → times x (declared_below d) ≤ times x (declared_among k ts)
  among_all no_trees k j d e = absurd (cc)
  among_all (more_trees t ts) k zero d e =
      let same : t ≡ d = cc in
      let whole = ap (times x) (first-among k t ts) ∙ times-both x (declared_below t) (declared_among (k + 1) ts) in
      let here = ap (λ (u : TreeOf Text). times x (declared_below u)) same in
      omega (arith, whole, here)
  among_all (more_trees t ts) k (suc j) d e =
      let whole = ap (times x) (first-among k t ts) ∙ times-both x (declared_below t) (declared_among (k + 1) ts) in
      let rest = among_all ts (k + 1) j d e in
      omega (arith, whole, rest)

  -- a node declares its own names before those below it
  own_before : (t d : TreeOf Text) (k : ℕ) → child t k ≡ Some d → times x (declared_by t) + times x (declared_below d) ≤ times x (declared_below t)
  own_before t d k e =
      let whole =
      ap (λ es. times x (flat_map (λ (y : Placed Text). declared_by y.1) es)) (tree_nodes-children t) ∙ times-both x (declared_by t) (declared_among 0 (children t)) in
      let rest = among_all (children t) 0 k d e in
      omega (arith, whole, rest)

  -- a part declares no more than the whole
  part_below : (path : List ℕ) (t c : TreeOf Text) → part_at t path ≡ Some c → times x (declared_below c) ≤ times x (declared_below t)
  part_below [] t c e = let same : t ≡ c = cc in let here = ap (λ (u : TreeOf Text). times x (declared_below u)) same in omega (arith, here)
  part_below (k ∷ path) t c e = by (child t k) refl (λ d. part_below path d c)
    where
      by : (o : Option (TreeOf Text)) → child t k ≡ o → ((d : TreeOf Text) → part_at d path ≡ Some c → times x (declared_below c) ≤ times x (declared_below d)) → times x (declared_below c) ≤ times x (declared_below t)
      by None q below = let nowhere = ap (option_and_then (λ y. part_at y path)) (sym q) ∙ e in absurd (cc)
      by (Some d) q below =
          let inner = below d (ap (option_and_then (λ y. part_at y path)) (sym q) ∙ e) in
          let outer = own_before t d k q in
          omega (arith, inner, outer)

  -- a node that does not declare the name leaves it as it is known
  own_silent : (t : TreeOf Text) (ks : List Known) → times x (declared_by t) ≤ 0 → is_fixed (own_known t ++ ks) x ≡ is_fixed ks x
  own_silent (var n) ks h = refl
  own_silent (literal l) ks h = refl
  own_silent (send r s xs) ks h = refl
  own_silent (cascade r ms) ks h = refl
  own_silent (assign n t) ks h = refl
  own_silent (block ps ds ss c) ks h =
      let both = times-both x ps ds in
      behind-both ps ds ks x ∙ (λ i. if stands_never x ps (omega (arith, both, h)) i then true else if stands_never x ds (omega (arith, both, h)) i then false else is_fixed ks x)
  own_silent (brace ts) ks h = refl
  own_silent (return t) ks h = refl

  -- on the way to a part that declares it, nothing declares it
  pub way_silent : (path : List ℕ) (depth : ℕ) (t c : TreeOf Text) (ks : List Known) → part_at t path ≡ Some c → 1 ≤ times x (declared_below c) → times x (declared_below t) ≤ 1 → is_fixed (known_at depth t path ks) x ≡ is_fixed ks x
  way_silent [] depth t c ks e some one = refl
  way_silent (k ∷ path) depth t c ks e some one = by (child t k) refl (λ d. way_silent path (depth + 1) d c (own_known t ++ ks))
    where
      by : (o : Option (TreeOf Text)) → child t k ≡ o
          → ((d : TreeOf Text) → part_at d path ≡ Some c → 1 ≤ times x (declared_below c) → times x (declared_below d) ≤ 1 → is_fixed (known_at (depth + 1) d path (own_known t ++ ks)) x ≡ is_fixed (own_known t ++ ks) x)
          → is_fixed (known_at depth t (k ∷ path) ks) x ≡ is_fixed ks x
      by None q below = let nowhere = ap (option_and_then (λ y. part_at y path)) (sym q) ∙ e in absurd (cc)
      by (Some d) q below =
          let onward = ap (option_and_then (λ y. part_at y path)) (sym q) ∙ e in
          let outer = own_before t d k q in
          let inner = part_below path d c onward in
          ap (λ zs. is_fixed zs x) (known-step depth t d k path ks q) ∙ below d onward some (omega (arith, outer, one)) ∙ own_silent t ks (omega (arith, outer, one, inner, some))

-- the known names behind a block that declares a name which its method declares once
pub once_outside : (m : MethodOf Text) (x : Text) (k : ℕ) (path : List ℕ) (ps ts : List Text) (ss : StatementsOf Text) (e : _) → is_declared_once text_asked m x ≡ true → part_in m.body (k ∷ path) ≡ Some (block ps ts ss e) → list_any (text_eq x) ts ≡ true
    → is_fixed (known_in m (k ∷ path)) x ≡ false
once_outside m x k path ps ts ss e once found there = by (nth (statement_trees m.body.statements) k) refl
  where
    whole : TreeOf Text
    whole = block [] [] m.body.statements []

    own : List Text
    own = flat_map (λ (y : Placed Text). declared_by y.1) (nodes m.body)

    total : times x m.arguments + times x m.body.temporaries + times x (flat_map (λ (y : Placed Text). declared_by y.1) (nodes m.body)) ≡ 1
    total =
        let count : times x (m.arguments ++ m.body.temporaries ++ flat_map (λ (y : Placed Text). declared_by y.1) (nodes m.body)) ≡ 1 = eqb-true _ 1 once in
        let first = times-both x (m.arguments ++ m.body.temporaries) (flat_map (λ (y : Placed Text). declared_by y.1) (nodes m.body)) in
        let second = times-both x m.arguments m.body.temporaries in
        omega (arith, count, first, second)

    some : 1 ≤ times x (declared_below (block ps ts ss e))
    some =
        let here = stands_once x ts there in
        let both = times-both x ps ts in
        let before = times-both x (ps ++ ts) (flat_map (λ (y : Placed Text). declared_by y.1) (statements_nodes 0 ss)) in
        omega (arith, here, both, before)

    enough : 1 ≤ times x (flat_map (λ (y : Placed Text). declared_by y.1) (nodes m.body))
    enough =
        let part = part_below x (k ∷ path) (block [] [] m.body.statements []) (block ps ts ss e) found in
        let own_none = times-both x [] (flat_map (λ (y : Placed Text). declared_by y.1) (nodes m.body)) in
        omega (arith, part, own_none, some)

    by : (o : Option (TreeOf Text)) → nth (statement_trees m.body.statements) k ≡ o → is_fixed (known_in m (k ∷ path)) x ≡ false
    by None q = let nowhere = ap (option_and_then (λ y. part_at y path)) (sym q) ∙ found in absurd (cc)
    by (Some d) q =
        let outer : List Known = known_names m.arguments m.body.temporaries ++ [] in
        ap (λ (o : Option (TreeOf Text)). is_fixed (unwrap_or (option_map (λ c. known_at 1 c path outer) o) outer) x) q
        ∙ ap (λ zs. is_fixed zs x) (sym (known-step 0 (block [] [] m.body.statements []) d k path outer q))
        ∙ way_silent x (k ∷ path) 0 (block [] [] m.body.statements []) (block ps ts ss e) outer found some (omega (arith, total))
        ∙ behind-both m.arguments m.body.temporaries [] x
        ∙ (λ i. if stands_never x m.arguments (omega (arith, total, enough)) i then true else if stands_never x m.body.temporaries (omega (arith, total, enough)) i then false else false)
