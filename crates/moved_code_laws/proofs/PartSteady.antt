-- What the command says of the temporaries that a node of the part uses and that are declared outside it.
use Rattle.std.proofs.Common.{◌≡◌, ◌<◌, ◌≤◌, ℕ, List, [], ◌∷◌, ◌++◌, length, Option, Some, None, refl, sym, ap, ◌∙◌, subst, arith, append-nil}
use Rattle.std.specs.Prelude.{Bool, true, false, not, cond, ◌&&◌, ◌||◌, if◌then◌else◌, nat_eq, nat_lt, take, filter, option_and_then, option_map, unwrap_or}
use Rattle.std.specs.List.{AllByRecursion, list_any, list_all}
use Rattle.std.specs.Option.{option_map_or}
use Rattle.std.specs.Cmp.Lexicographic.{pointwise}
use Rattle.std.proofs.Math.Seq.{take-append_seam}
use Rattle.std.proofs.lemmas.Bool.{false≢true, lt-ltb}
use Rattle.std.proofs.lemmas.List.{take-append-le}
use Rattle.rb_base.specs.Names.{text_eq}
use Rattle.tree_model.specs.Tree.{TreeOf, var, literal, send, cascade, assign, block, brace, return, MethodOf}
use Rattle.tree_model.specs.Path.{nth, statement_trees, child, part_at, part_in}
use Rattle.tree_model.specs.Nodes.{Placed, nodes}
use Rattle.tree_model.proofs.NodesLemmas.{Contains-part_in}
use Rattle.scope_model.specs.declared.local.Local.{Local}
use Rattle.scope_model.specs.declared.local.Local.TheVariants.{Argument, Temporary, NotLocal}
use Rattle.scope_model.specs.SpecialNames.{is_pseudo_variable, control_form}
use Rattle.scope_model.specs.Control.{is_block, steps_in_place, is_closure_at}
use Rattle.scope_model.specs.Scope.{PlacedScope, method_scope, scopes_round, is_among, local_by, local_in}
use Rattle.scope_model.specs.FreeNames.{free_occurrences}
use Rattle.scope_model.specs.Uses.{UseOf, assigned_in_closure}
use Rattle.scope_model.proofs.UsesLemmas.{names_of-uses}
use Rattle.run_model.specs.Values.{Name}
use Rattle.run_model.proofs.Finite.{by_cases, and-true_left, and-true_right}
use Rattle.run_model.proofs.RenamingLemmas.{text-same}
use Rattle.rename_laws.proofs.Unnamed.{denied}
use Rattle.unfolded_calls.proofs.Running.{none-some, some-same}
use Rattle.unfolded_places.proofs.UsesApart.{uses_of, is_read_far, any-map, any-same}
use Rattle.command_model.specs.Asked.{text_asked}
use Rattle.command_model.specs.Parts.{Part, Expression, is_within, inside_from}
use Rattle.command_model.specs.Places.{is_in_place, is_closure_in, stands_in_closure}
use Rattle.command_model.specs.PartConditions.{is_assigned_in_the_open, assigns_no_outer, are_temporaries_steady}
use Rattle.code_command_laws.proofs.RunConditions.{filtered-none, same-path}
use Rattle.moved_code_laws.proofs.ScopesOn.{part-in-on}
use Rattle.moved_code_laws.proofs.BodyThere.{node-passes}
use Rattle.moved_code_laws.proofs.SteadyThere.{IsScopeThere, scopes-there}
use Rattle.moved_code_laws.proofs.UsesByPaths.{is_use, is_hidden, enters_closure, used_as, tree-apart}
use Rattle.moved_code_laws.proofs.PassedSteady.{stands-closed, local-on}

-- a path leads into the part where it goes on
pub within-part : (path q : List ℕ) → is_within (Expression path) (path ++ q) ≡ true
within-part path q = ap (pointwise nat_eq path) (take-append_seam path q) ∙ same-path path

-- what all items that are kept pass
all-kept : {X : Type 0} (p test : X → Bool) (xs : List X) → list_all p (filter test xs) ≡ true → list_all (λ x. not (test x) || p x) xs ≡ true
all-kept p test [] e = refl
all-kept p test (x ∷ xs) e = by (test x) e (all-kept p test xs)
  where
    by : (b : Bool) → list_all p (cond b (x ∷ filter test xs) (filter test xs)) ≡ true → (list_all p (filter test xs) ≡ true → list_all (λ x. not (test x) || p x) xs ≡ true) → ((not b || p x) && list_all (λ x. not (test x) || p x) xs) ≡ true
    by true e ih = (λ i. and-true_left (p x) (list_all p (filter test xs)) e i && ih (and-true_right (p x) (list_all p (filter test xs)) e) i)
    by false e ih = ih e

-- a temporary that is named at a place is declared inside the part, or no closure assigns it, and no closure of the part reads it
abbrev steady_local : MethodOf Name → ℕ → List ℕ → Name → (is_read : Bool) → Local → Bool
steady_local m inside path n is_read (Temporary scope) = not (nat_lt scope inside) || (is_assigned_in_the_open text_asked m path scope n && not (is_read && stands_in_closure control_form m inside path))
steady_local m inside path n is_read l = true

abbrev steady_node : MethodOf Name → ℕ → Placed Name → Bool
steady_node m inside (path, var n) = steady_local m inside path n true (local_in text_eq is_pseudo_variable m path n)
steady_node m inside (path, assign n t) = steady_local m inside path n false (local_in text_eq is_pseudo_variable m path n)
steady_node m inside (path, t) = true

-- a node assigns what is declared outside
abbrev declared_outside : ℕ → Local → Bool
declared_outside inside (Argument scope) = nat_lt scope inside
declared_outside inside (Temporary scope) = nat_lt scope inside
declared_outside inside NotLocal = false

abbrev assigns_outside : MethodOf Name → ℕ → Placed Name → Bool
assigns_outside m inside (path, assign n t) = declared_outside inside (local_in text_eq is_pseudo_variable m path n)
assigns_outside m inside (path, t) = false

node-used : (m : MethodOf Name) (inside : ℕ) (path : List ℕ) (v : TreeOf Name) (x : Name) (b : Bool) → used_as v ≡ Some (x, b) → steady_node m inside (path, v) ≡ true → steady_local m inside path x (not b) (local_in text_eq is_pseudo_variable m path x) ≡ true
node-used m inside path (var n) x b e h = subst (λ (z : Name × Bool). steady_local m inside path z.0 (not z.1) (local_in text_eq is_pseudo_variable m path z.0) ≡ true) (some-same e) h
node-used m inside path (literal l) x b e h = none-some e
node-used m inside path (send r s us) x b e h = none-some e
node-used m inside path (cascade r ms) x b e h = none-some e
node-used m inside path (assign n t) x b e h = subst (λ (z : Name × Bool). steady_local m inside path z.0 (not z.1) (local_in text_eq is_pseudo_variable m path z.0) ≡ true) (some-same e) h
node-used m inside path (block ps ts ss c) x b e h = none-some e
node-used m inside path (brace us) x b e h = none-some e
node-used m inside path (return t) x b e h = none-some e

-- whether closures that a path enters on are closures of the whole
pub closure-below : (ks : List ℕ) (flag : Bool) (t w : TreeOf Name) → part_at t ks ≡ Some w → (b : Bool) × ((r : List ℕ) → is_closure_at control_form flag t (ks ++ r) ≡ is_closure_at control_form b w r)
closure-below [] flag t w e = (flag, λ r. ap (λ x. is_closure_at control_form flag x r) (some-same e))
closure-below (k ∷ ks) flag t w e = by (child t k) e (λ c. closure-below ks (steps_in_place control_form t k) c w)
  where
    by : (o : Option (TreeOf Name)) → option_and_then (λ c. part_at c ks) o ≡ Some w → ((c : TreeOf Name) → part_at c ks ≡ Some w → (b : Bool) × ((r : List ℕ) → is_closure_at control_form (steps_in_place control_form t k) c (ks ++ r) ≡ is_closure_at control_form b w r)) →
        (b : Bool) × ((r : List ℕ) → unwrap_or (option_map (λ c. is_closure_at control_form (steps_in_place control_form t k) c (ks ++ r)) o) false ≡ is_closure_at control_form b w r)
    by None e ih = none-some e
    by (Some c) e ih = ih c e

-- a node that is no block of a control send
own-closure : (w : TreeOf Name) (b : Bool) → (is_block w && not (is_closure_at control_form b w [])) ≡ false → (r : List ℕ) → is_closure_at control_form b w r ≡ is_closure_at control_form false w r
own-closure w b h (k ∷ ks) = refl
own-closure w b h [] = by (is_block w) b h
  where
    by : (a b : Bool) → (a && not (a && not b)) ≡ false → (a && not b) ≡ (a && not false)
    by false b h = refl
    by true false h = refl
    by true true h = absurd (false≢true (sym h))

module _ (m : MethodOf Name) (path : List ℕ) (part : TreeOf Name) (there : part_in m.body path ≡ Some part) where
  abbrev round : List (PlacedScope Name)
  round = scopes_round (method_scope m) path

  -- closures inside the part
  pub closure-on : is_in_place control_form m.body path ≡ false → (r : List ℕ) → is_closure_in control_form m.body (path ++ r) ≡ is_closure_at control_form false part r
  closure-on h = by path there h
    where
      by : (q : List ℕ) → part_in m.body q ≡ Some part → is_in_place control_form m.body q ≡ false → (r : List ℕ) → is_closure_in control_form m.body (q ++ r) ≡ is_closure_at control_form false part r
      by [] e h r = none-some e
      by (k ∷ ks) e h r = at (nth (statement_trees m.body.statements) k) e (sym (ap (λ o. option_map_or is_block o false && not (is_closure_in control_form m.body (k ∷ ks))) e) ∙ h)
        where
          at : (o : Option (TreeOf Name)) → option_and_then (λ c. part_at c ks) o ≡ Some part → (is_block part && not (option_map_or (λ t. is_closure_at control_form false t ks) o false)) ≡ false → option_map_or (λ t. is_closure_at control_form false t (ks ++ r)) o false ≡ is_closure_at control_form false part r
          at None e h = none-some e
          at (Some c) e h =
              let below = closure-below ks false c part e in
              below.1 r ∙ own-closure part below.0 (ap (λ z. is_block part && not z) (sym (ap (is_closure_at control_form false c) (sym (append-nil ks)) ∙ below.1 [])) ∙ h) r

  -- a scope outside it
  pub low : (n : Name) (k : ℕ) → local_by text_eq round n ≡ Temporary k → k < length path
  low n k e = by round (scopes-there m path part there) e
    where
      by : (ps : List (PlacedScope Name)) → AllByRecursion (IsScopeThere m path) ps → local_by text_eq ps n ≡ Temporary k → k < length path
      by [] a e = absurd (cc)
      by (p ∷ ps) a e = at (is_among text_eq p.1.arguments n) (is_among text_eq p.1.temporaries n) e (by ps a.1)
        where
          depth : Temporary p.0 ≡ Temporary k → p.0 ≡ k
          depth q = cc

          at : (b c : Bool) → (if b then Argument p.0 else if c then Temporary p.0 else local_by text_eq ps n) ≡ Temporary k → (local_by text_eq ps n ≡ Temporary k → k < length path) → k < length path
          at true c e ih = absurd (cc)
          at false true e ih = let l = a.0.1 in let d = depth e in omega (arith, l, d)
          at false false e ih = ih e

  -- it is the part that the command takes, or a node of that
  module _ (taken : Part) (within : (q : List ℕ) → is_within taken (path ++ q) ≡ true) (from : inside_from taken ≡ length path) where
    abbrev is_taken : Placed Name → Bool
    is_taken x = is_within taken x.0

    -- what is assigned in it
    pub own-so : assigns_no_outer text_asked m taken ≡ true → (q : List ℕ) (n : Name) (v : TreeOf Name) → part_at part q ≡ Some (assign n v) → (k : ℕ) → local_in text_eq is_pseudo_variable m (path ++ q) n ≡ Temporary k → nat_lt k (length path) ≡ false
    own-so h q n v e k l =
        sym (ap (declared_outside (length path)) l)
        ∙ filtered-none is_taken (assigns_outside m (length path)) (nodes m.body) (path ++ q, assign n v) (denied _ (subst (λ d. not (list_any (assigns_outside m d) (filter is_taken (nodes m.body))) ≡ true) from h))
        (Contains-part_in m.body (path ++ q) (assign n v) (part-in-on m path q part (assign n v) there e)) (within q)

    module _ (temps : are_temporaries_steady text_asked m taken ≡ true) where
      node-steady : (q : List ℕ) (u : TreeOf Name) → part_at part q ≡ Some u → steady_node m (length path) (path ++ q, u) ≡ true
      node-steady q u e =
          sym (ap (λ b. not b || steady_node m (length path) (path ++ q, u)) (within q))
          ∙ node-passes (λ (x : Placed Name). not (is_taken x) || steady_node m (length path) x) m.body
          (all-kept (steady_node m (length path)) is_taken (nodes m.body) (subst (λ d. list_all (steady_node m d) (filter is_taken (nodes m.body)) ≡ true) from temps)) (path ++ q) u (part-in-on m path q part u there e)

      -- what it says of a temporary that is declared outside
      module _ (n : Name) (k : ℕ) (p : is_pseudo_variable n ≡ false) (local : local_by text_eq round n ≡ Temporary k) where
        used-so : (q : List ℕ) (v : TreeOf Name) (x : Name) (b : Bool) → part_at part q ≡ Some v → used_as v ≡ Some (x, b) → text_eq n x ≡ true → is_hidden n part q ≡ false → (closed : (r : List ℕ) → is_closure_in control_form m.body (path ++ r) ≡ is_closure_at control_form false part r) →
            (not (assigned_in_closure text_eq is_pseudo_variable control_form m (take k (path ++ q)) n) && not (not b && stands_in_closure control_form m (length path) (path ++ q))) ≡ true
        used-so q v x b e u s h closed =
            sym (ap (λ z. not z || (not (assigned_in_closure text_eq is_pseudo_variable control_form m (take k (path ++ q)) n) && not (not b && stands_in_closure control_form m (length path) (path ++ q)))) (lt-ltb k (length path) (low n k local)))
            ∙ sym (ap (steady_local m (length path) (path ++ q) n (not b)) (ap (λ c. if c then NotLocal else local_by text_eq (scopes_round (method_scope m) (path ++ q)) n) p ∙ local-on m path part there closed n p q h ∙ local))
            ∙ subst (λ y. steady_local m (length path) (path ++ q) y (not b) (local_in text_eq is_pseudo_variable m (path ++ q) y) ≡ true) (sym (text-same n x s)) (node-used m (length path) (path ++ q) v x b u (node-steady q v e))

        module _ (closed : (r : List ℕ) → is_closure_in control_form m.body (path ++ r) ≡ is_closure_at control_form false part r) where
          -- no closure assigns it
          pub open-so : is_among text_eq (free_occurrences text_eq is_pseudo_variable part) n ≡ true → assigned_in_closure text_eq is_pseudo_variable control_form m (take k path) n ≡ false
          open-so free = by_cases (assigned_in_closure text_eq is_pseudo_variable control_form m (take k path) n) (λ t. absurd (false≢true (sym (unused t) ∙ free))) (λ f. f)
            where
              shorter : (q : List ℕ) → take k (path ++ q) ≡ take k path
              shorter q = take-append-le k path q (let l = low n k local in omega (arith, l))

              always : (b : Bool) → b ≡ (b && true)
              always true = refl
              always false = refl

              unused : assigned_in_closure text_eq is_pseudo_variable control_form m (take k path) n ≡ true → is_among text_eq (free_occurrences text_eq is_pseudo_variable part) n ≡ false
              unused t =
                  ap (λ ns. list_any (text_eq n) ns) (sym (names_of-uses text_eq is_pseudo_variable control_form false part)) ∙ any-map (λ (u : UseOf Name). u.name) (text_eq n) (uses_of false part)
                  ∙ any-same (λ (u : UseOf Name). text_eq n u.name) (is_use n (λ b. true) true) (uses_of false part) (λ u. always (text_eq n u.name))
                  ∙ tree-apart n (λ b. true) true false part
                  (λ q v x b e u s r h.
                  absurd (false≢true (sym (denied _ (and-true_left (not (assigned_in_closure text_eq is_pseudo_variable control_form m (take k (path ++ q)) n)) _ (used-so q v x b e u s h closed))) ∙ ap (λ l. assigned_in_closure text_eq is_pseudo_variable control_form m l n) (shorter q) ∙ t)))

          -- and none of the part reads it
          pub near-so : list_any (is_read_far n) (uses_of false part) ≡ false
          near-so = tree-apart n not false false part
              (λ q v x b e u s r h.
              by_cases (enters_closure false part q)
              (λ t. absurd (false≢true (sym (denied _ (and-true_right (not (assigned_in_closure text_eq is_pseudo_variable control_form m (take k (path ++ q)) n)) _ (used-so q v x b e u s h closed))) ∙ (λ z. r z && stands-closed m path part there closed (length path) same q t z))))
              (λ f. f))
            where
              same : length path ≤ length path
              same = omega arith
