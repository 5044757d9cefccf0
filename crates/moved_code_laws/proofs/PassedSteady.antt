-- What a message passes is plain or a temporary that no closure assigns, and no closure reads the argument, where the command says so.
use Rattle.std.proofs.Common.{◌≡◌, ◌≤◌, ℕ, zero, suc, ◌+◌, List, [], ◌∷◌, ◌++◌, length, Some, refl, sym, ap, ◌∙◌, subst, arith}
use Rattle.std.specs.Prelude.{Bool, true, false, not, ◌&&◌, ◌||◌, if◌then◌else◌, nat_le, take, slice_get, filter}
use Rattle.std.specs.List.{list_any, list_all, enumerate_from}
use Rattle.std.specs.Option.{option_map_or}
use Rattle.std.proofs.lemmas.Bool.{false≢true, le-leb}
use Rattle.std.proofs.lemmas.List.Folds.{list_any-append}
use Rattle.std.proofs.Math.Seq.{take-append-add}
use Rattle.rb_base.specs.Names.{text_eq}
use Rattle.rb_base.proofs.NamesLemmas.{text_eq-refl}
use Rattle.tree_model.specs.Tree.{TreeOf, var, literal, send, cascade, assign, block, brace, return, TreesOf, no_trees, more_trees, MethodOf}
use Rattle.tree_model.specs.Path.{nth, count, part_in}
use Rattle.tree_model.specs.Nodes.{Placed, nodes}
use Rattle.tree_model.proofs.NodesLemmas.{Contains-part_in}
use Rattle.scope_model.specs.declared.local.Local.{Local}
use Rattle.scope_model.specs.declared.local.Local.TheVariants.{Argument, Temporary, NotLocal}
use Rattle.scope_model.specs.SpecialNames.{is_pseudo_variable, control_form}
use Rattle.scope_model.specs.Control.{is_plain_block, is_closure_at}
use Rattle.scope_model.specs.Scope.{PlacedScope, method_scope, entered, scopes_round, is_among, local_by, local_in}
use Rattle.scope_model.specs.Uses.{assigned_in_closure}
use Rattle.image_model.specs.Image.{EntryOf, ImageOf}
use Rattle.image_model.specs.Words.{text_words}
use Rattle.image_model.specs.Chain.{chain}
use Rattle.image_model.specs.Means.{MeaningOf, pseudo, argument, temporary, variable, a_class, transcript, undeclared, VariableKind, means_by, means_outside, means}
use Rattle.run_model.specs.Values.{Name}
use Rattle.run_model.proofs.Finite.{by_cases, and-true_left, and-true_right}
use Rattle.run_model.proofs.RenamingLemmas.{text-same}
use Rattle.resolved_model.specs.Environments.{Declared, kind_in, place_in, declared_in}
use Rattle.resolved_model.proofs.Environments.{kind_of, kind-scopes}
use Rattle.rename_laws.proofs.Unnamed.{denied}
use Rattle.reread_law.specs.WellFormed.{WellFormed, WellFormedTrees}
use Rattle.unfolded_calls.specs.Unfolding.{StandIn, a_lent}
use Rattle.unfolded_calls.specs.SameContexts.{IsOutside}
use Rattle.unfolded_calls.proofs.Running.{none-some, some-same}
use Rattle.unfolded_calls.proofs.Untouched.{means-outside}
use Rattle.unfolded_places.specs.Inlining.{passed_for, PlainActual, plain_self, plain_nil, plain_true, plain_false, plain_number, plain_string, plain_symbol, plain_char, plain_argument, plain_class}
use Rattle.unfolded_places.specs.Passed.{PassedActual, passed_plain, passed_temporary, PassedActuals, passed_none, passed_more}
use Rattle.unfolded_places.proofs.UsesApart.{uses_of, is_read_far, any-map}
use Rattle.unfolded_places.proofs.StandsThere.{keeps_in}
use Rattle.command_model.specs.Asked.{text_asked}
use Rattle.command_model.specs.Places.{is_return, is_formal, is_closure_in, stands_in_closure, SendOf}
use Rattle.command_model.specs.Plain.{is_plain}
use Rattle.command_model.specs.ParameterConditions.{formal_reads}
use Rattle.command_model.specs.InlineConditions.{are_actuals_plain}
use Rattle.code_command_laws.proofs.RunConditions.{filtered-none}
use Rattle.moved_code_laws.proofs.LocalsThere.{or_local, local-inside}
use Rattle.moved_code_laws.proofs.ScopesOn.{part-in-on, scopes-on}
use Rattle.moved_code_laws.proofs.PlainThere.{tree-plain}
use Rattle.moved_code_laws.proofs.SteadyThere.{scopes-there, keeps-open}
use Rattle.moved_code_laws.proofs.UsesByPaths.{IsApart, is_hidden, enters_closure, used_as, tree-apart, closure-entered, shown-local}

-- a number behind none
none-before : (j : ℕ) → 0 + j ≡ j
none-before j = omega arith

-- a test of each formal argument with what is passed for it
each-actual : (f : ℕ × Name → TreeOf Name → Bool) (args : TreesOf Name) (ps : List Name) (k : ℕ) → list_all (λ (x : ℕ × Name). option_map_or (f x) (nth args x.0) false) (enumerate_from k ps) ≡ true →
    (j : ℕ) (x : Name) (t : TreeOf Name) → slice_get ps j ≡ Some x → nth args (k + j) ≡ Some t → f (k + j, x) t ≡ true
each-actual f args [] k h j x t p q = none-some p
each-actual f args (y ∷ ps) k h zero x t p q =
    subst (λ n. f (n, x) t ≡ true) here (subst (λ n. f (k, n) t ≡ true) (some-same p) (sym (ap (λ o. option_map_or (f (k, y)) o false) (ap (nth args) here ∙ q)) ∙ and-true_left (option_map_or (f (k, y)) (nth args k) false) _ h))
  where
    here : k ≡ k + 0
    here = omega arith
each-actual f args (y ∷ ps) k h (suc j) x t p q = subst (λ n. f (n, x) t ≡ true) next (each-actual f args ps (k + 1) (and-true_right (option_map_or (f (k, y)) (nth args k) false) _ h) j x t p (ap (nth args) next ∙ q))
  where
    next : k + 1 + j ≡ k + suc j
    next = omega arith

-- the formal argument for which something is passed
pub passed-index : (ps : List Name) (args : TreesOf Name) (n : Name) (t : TreeOf Name) → passed_for ps args n ≡ Some t → (j : ℕ) × (slice_get ps j ≡ Some n) × (nth args j ≡ Some t)
passed-index [] args n t e = none-some e
passed-index (x ∷ ps) no_trees n t e = none-some e
passed-index (x ∷ ps) (more_trees u us) n t e = by (text_eq n x) refl e (passed-index ps us n t)
  where
    by : (b : Bool) → text_eq n x ≡ b → (if b then Some u else passed_for ps us n) ≡ Some t → (passed_for ps us n ≡ Some t → (j : ℕ) × (slice_get ps j ≡ Some n) × (nth us j ≡ Some t)) →
        (j : ℕ) × (slice_get (x ∷ ps) j ≡ Some n) × (nth (more_trees u us) j ≡ Some t)
    by true q e ih = (0, ap Some (sym (text-same n x q)), e)
    by false q e ih = let at = ih e in (suc at.0, at.1, at.2)

-- what is plain is no temporary, and neither a block nor a return
plain-kind : (f : Name → MeaningOf Name) (A : List Declared) (t : TreeOf Name) (a : StandIn) → PlainActual f A t a → (y : Name) → t ≡ var y → is_pseudo_variable y ≡ false → kind_in A y ≡ Some true → ⊥
unfolding is_pseudo_variable
plain-kind f A _ _ plain_self y e p k = false≢true (sym p ∙ ap is_pseudo_variable (named (sym e)))
  where
    named : {x z : Name} → var x ≡ var z → x ≡ z
    named q = cc
plain-kind f A _ _ plain_nil y e p k = false≢true (sym p ∙ ap is_pseudo_variable (named (sym e)))
  where
    named : {x z : Name} → var x ≡ var z → x ≡ z
    named q = cc
plain-kind f A _ _ plain_true y e p k = false≢true (sym p ∙ ap is_pseudo_variable (named (sym e)))
  where
    named : {x z : Name} → var x ≡ var z → x ≡ z
    named q = cc
plain-kind f A _ _ plain_false y e p k = false≢true (sym p ∙ ap is_pseudo_variable (named (sym e)))
  where
    named : {x z : Name} → var x ≡ var z → x ≡ z
    named q = cc
plain-kind f A _ _ (plain_number t z q) y e p k = cc
plain-kind f A _ _ (plain_string t) y e p k = cc
plain-kind f A _ _ (plain_symbol t) y e p k = cc
plain-kind f A _ _ (plain_char b) y e p k = cc
plain-kind f A _ _ (plain_argument n o q) y e p k = false≢true (some (sym q ∙ ap (kind_in A) (named e) ∙ k))
  where
    named : {x z : Name} → var x ≡ var z → x ≡ z
    named q = cc

    some : {x z : Bool} → Some x ≡ Some z → x ≡ z
    some q = cc
plain-kind f A _ _ (plain_class n c o q r) y e p k = none-some (sym q ∙ ap (kind_in A) (named e) ∙ k)
  where
    named : {x z : Name} → var x ≡ var z → x ≡ z
    named q = cc

module _ (i : ImageOf Name) (m : EntryOf Name) (path : List ℕ) where
  abbrev pub round : List (PlacedScope Name)
  round = scopes_round (method_scope m.tree) path

  abbrev pub outer : Name → MeaningOf Name
  outer n = means_outside text_words i m.class m.meta n

  -- a name of which a test says so that only temporaries pass
  record IsTemporary (G : MeaningOf Name → Bool) (n : Name) : Type 0 where
    scope : ℕ
    proper : is_pseudo_variable n ≡ false
    local : local_by text_eq round n ≡ Temporary scope
    passes : G (temporary scope) ≡ true

  temporary-so : (G : MeaningOf Name → Bool) (n : Name) → G pseudo ≡ false → ((k : ℕ) → G (argument k) ≡ false) → ((v : VariableKind) (c : Name) → G (variable v c) ≡ false) → ((c : Name) → G (a_class c) ≡ false) → G transcript ≡ false → G undeclared ≡ false →
      G (means text_words i m path n) ≡ true → IsTemporary G n
  temporary-so G n g1 g2 g3 g4 g5 g6 h = by (is_pseudo_variable n) refl h
    where
      outside : (x : MeaningOf Name) → IsOutside x → G x ≡ false
      outside pseudo o = g1
      outside (argument k) o = absurd o
      outside (temporary k) o = absurd o
      outside (variable v c) o = g3 v c
      outside (a_class c) o = g4 c
      outside transcript o = g5
      outside undeclared o = g6

      by-local : (l : Local) → local_by text_eq round n ≡ l → is_pseudo_variable n ≡ false → G (means_by l (outer n)) ≡ true → IsTemporary G n
      by-local (Argument k) e p h = absurd (false≢true (sym (g2 k) ∙ h))
      by-local (Temporary k) e p h = record { scope = k; proper = p; local = e; passes = h }
      by-local NotLocal e p h = absurd (false≢true (sym (outside (outer n) (means-outside i.classes (chain text_eq i.classes m.class) m.meta n)) ∙ h))

      by : (b : Bool) → is_pseudo_variable n ≡ b → G (if b then pseudo else means_by (if b then NotLocal else local_by text_eq round n) (outer n)) ≡ true → IsTemporary G n
      by true p h = absurd (false≢true (sym g1 ∙ h))
      by false p h = by-local (local_by text_eq round n) refl p h

  module _ (target : EntryOf Name) where
    -- what stands in for an actual, and what the command says of its formal argument where it is a temporary
    pub record IsPassed (x : Name) (t : TreeOf Name) : Type 0 where
      pub stand_in : StandIn
      pub passed : PassedActual outer (declared_in round) (keeps_in round) t stand_in
      pub unblocked : is_plain_block t ≡ false
      pub unreturned : is_return t ≡ false
      pub near : (y : Name) → t ≡ var y → is_pseudo_variable y ≡ false → kind_in (declared_in round) y ≡ Some true → list_any (stands_in_closure control_form target.tree 1) (formal_reads text_asked target.tree x) ≡ false

    plain-unreturned : (t : TreeOf Name) (a : StandIn) → PlainActual outer (declared_in round) t a → is_return t ≡ false
    plain-unreturned _ _ plain_self = refl
    plain-unreturned _ _ plain_nil = refl
    plain-unreturned _ _ plain_true = refl
    plain-unreturned _ _ plain_false = refl
    plain-unreturned _ _ (plain_number t z e) = refl
    plain-unreturned _ _ (plain_string t) = refl
    plain-unreturned _ _ (plain_symbol t) = refl
    plain-unreturned _ _ (plain_char b) = refl
    plain-unreturned _ _ (plain_argument n p e) = refl
    plain-unreturned _ _ (plain_class n c p e q) = refl

    plain-or : (x : Name) (t : TreeOf Name) (rest : Bool) → (is_plain text_asked i m path t || rest) ≡ true → (rest ≡ true → IsPassed x t) → WellFormed t → IsPassed x t
    plain-or x t rest h other w = by_cases (is_plain text_asked i m path t) plain (λ f. other (sym (ap (λ b. b || rest) f) ∙ h))
      where
        plain : is_plain text_asked i m path t ≡ true → IsPassed x t
        plain e =
            let at = tree-plain i m path t e w in
            record {
              stand_in = at.stand_in;
              passed = passed_plain at.plain;
              unblocked = at.unblocked;
              unreturned = plain-unreturned t at.stand_in at.plain;
              near = λ y q p k. absurd (plain-kind outer (declared_in round) t at.stand_in at.plain y q p k);
            }

    module _ (w : TreeOf Name) (there : part_in m.tree.body path ≡ Some w) where
      pub temporary-passed : (n x : Name) (scope : ℕ) → is_pseudo_variable n ≡ false → local_by text_eq round n ≡ Temporary scope →
          (not (assigned_in_closure text_eq is_pseudo_variable control_form m.tree (take scope path) n) && not (list_any (stands_in_closure control_form target.tree 1) (formal_reads text_asked target.tree x))) ≡ true → IsPassed x (var n)
      temporary-passed n x scope p l h = record {
        stand_in = a_lent (place_in (declared_in round) n);
        passed =
            passed_temporary n p (kind-scopes round n ∙ ap kind_of l)
            (keeps-open m.tree path n p round scope (scopes-there m.tree path w there) l (denied (assigned_in_closure text_eq is_pseudo_variable control_form m.tree (take scope path) n) (and-true_left (not (assigned_in_closure text_eq is_pseudo_variable control_form m.tree (take scope path) n)) _ h)));
        unblocked = refl;
        unreturned = refl;
        near = λ y q o k. denied (list_any (stands_in_closure control_form target.tree 1) (formal_reads text_asked target.tree x)) (and-true_right (not (assigned_in_closure text_eq is_pseudo_variable control_form m.tree (take scope path) n)) _ h);
      }

-- whether a node of a method reads that argument of it
abbrev reads_argument : MethodOf Name → Name → Placed Name → Bool
reads_argument m n (path, var x) = text_eq n x && is_formal (local_in text_eq is_pseudo_variable m path x)
reads_argument m n (path, t) = false

-- no closure reads an argument in a part of a method, where none reads it in the method
pub used-read : (v : TreeOf Name) (x : Name) (b : Bool) → used_as v ≡ Some (x, b) → not b ≡ true → v ≡ var x
used-read (var n) x b e r = ap (λ (z : Name × Bool). var z.0) (some-same e)
used-read (literal l) x b e r = none-some e
used-read (send s t us) x b e r = none-some e
used-read (cascade t ms) x b e r = none-some e
used-read (assign n t) x b e r = absurd (false≢true (ap (λ (z : Name × Bool). not z.1) (some-same e) ∙ r))
used-read (block ps ts ss c) x b e r = none-some e
used-read (brace us) x b e r = none-some e
used-read (return t) x b e r = none-some e

module _ (m : MethodOf Name) (base : List ℕ) (w : TreeOf Name) (there : part_in m.body base ≡ Some w) (closed : (r : List ℕ) → is_closure_in control_form m.body (base ++ r) ≡ is_closure_at control_form false w r) where
  -- a path on from the part enters a closure
  pub stands-closed : (from : ℕ) → from ≤ length base → (q : List ℕ) → enters_closure false w q ≡ true → stands_in_closure control_form m from (base ++ q) ≡ true
  stands-closed from deep q e =
      ap (list_any test) (scopes-on m base q w there) ∙ list_any-append test (entered (length base) w q) (scopes_round (method_scope m) base)
      ∙ ap (λ b. b || list_any test (scopes_round (method_scope m) base)) (closure-entered test q (length base) false w passes e)
    where
      test : PlacedScope Name → Bool
      test s = nat_le from s.0 && is_closure_in control_form m.body (take s.0 (base ++ q))

      passes : (s : PlacedScope Name) (j : ℕ) → s.0 ≡ length base + j → is_closure_at control_form false w (take j q) ≡ true → test s ≡ true
      passes s j d c =
          let far : from ≤ s.0 = omega (arith, deep, d) in
          (λ z. le-leb from s.0 far z && is_closure_in control_form m.body (take (d z) (base ++ q)))
          ∙ ap (λ r. is_closure_in control_form m.body r) (take-append-add base q j) ∙ closed (take j q) ∙ c

  -- what a name of the part is that no block of it declares
  pub local-on : (n : Name) → is_pseudo_variable n ≡ false → (q : List ℕ) → is_hidden n w q ≡ false → local_by text_eq (scopes_round (method_scope m) (base ++ q)) n ≡ local_by text_eq (scopes_round (method_scope m) base) n
  local-on n p q h =
      ap (λ ps. local_by text_eq ps n) (scopes-on m base q w there) ∙ local-inside (entered (length base) w q) (scopes_round (method_scope m) base) n
      ∙ ap (λ l. or_local l (local_by text_eq (scopes_round (method_scope m) base) n)) (shown-local n p q (length base) w h)

  pub near-at : 1 ≤ length base → (n : Name) → is_pseudo_variable n ≡ false → local_by text_eq (scopes_round (method_scope m) base) n ≡ Argument 0 → list_any (stands_in_closure control_form m 1) (formal_reads text_asked m n) ≡ false → list_any (is_read_far n) (uses_of false w) ≡ false
  near-at deep n p l none = tree-apart n not false false w apart
    where
      apart : IsApart n not false false w
      apart q v x b e u s r h =
          by_cases (enters_closure false w q)
          (λ t. absurd (false≢true (sym
          (filtered-none (reads_argument m n) (λ (y : Placed Name). stands_in_closure control_form m 1 y.0) (nodes m.body) (base ++ q, var x) (sym (any-map (λ (y : Placed Name). y.0) (stands_in_closure control_form m 1) (filter (reads_argument m n) (nodes m.body))) ∙ none)
          (Contains-part_in m.body (base ++ q) (var x) (part-in-on m base q w (var x) there (e ∙ ap Some (used-read v x b u r)))) reads) ∙ stands-closed 1 deep q t)))
          (λ f. f)
        where
          same : n ≡ x
          same = text-same n x s

          local : local_by text_eq (scopes_round (method_scope m) (base ++ q)) n ≡ Argument 0
          local = local-on n p q h ∙ l

          reads : (text_eq n x && is_formal (local_in text_eq is_pseudo_variable m (base ++ q) x)) ≡ true
          reads = subst (λ y. (text_eq n y && is_formal (local_in text_eq is_pseudo_variable m (base ++ q) y)) ≡ true) same (λ z. text_eq-refl n z && is_formal (if p z then NotLocal else local z))

-- a tree of well-formed ones
formed-nth : (ts : TreesOf Name) (j : ℕ) (t : TreeOf Name) → WellFormedTrees ts → nth ts j ≡ Some t → WellFormed t
formed-nth no_trees j t w e = none-some e
formed-nth (more_trees u ts) zero t w e = subst WellFormed (some-same e) w.0
formed-nth (more_trees u ts) (suc j) t w e = formed-nth ts j t w.2 e

-- what a message passes
module _ (i : ImageOf Name) (m : EntryOf Name) (e : SendOf Name) (target : EntryOf Name) where
  -- all of it
  pub record ArePassed (ts : TreesOf Name) : Type 0 where
    pub actuals : List StandIn
    pub passes : PassedActuals (outer i m e.path) (declared_in (round i m e.path)) (keeps_in (round i m e.path)) ts actuals
    pub counted : count ts ≡ length actuals
    pub unblocked : (t : TreeOf Name) → nth ts 0 ≡ Some t → is_plain_block t ≡ false

  pub all-passed : (ps : List Name) (ts : TreesOf Name) → length ps ≡ count ts → ((j : ℕ) (x : Name) (t : TreeOf Name) → slice_get ps j ≡ Some x → nth ts j ≡ Some t → WellFormed t → IsPassed i m e.path target x t) → WellFormedTrees ts → ArePassed ts
  all-passed ps no_trees c h w = record { actuals = []; passes = passed_none; counted = refl; unblocked = λ t q. none-some q }
  all-passed [] (more_trees t ts) c h w = absurd (omega (arith, c))
  all-passed (x ∷ ps) (more_trees t ts) c h w =
      let first = h 0 x t refl refl w.0 in
      let rest = all-passed ps ts (omega (arith, c)) (λ j y u p q o. h (suc j) y u p q o) w.2 in
      record {
        actuals = first.stand_in ∷ rest.actuals;
        passes = passed_more first.passed rest.passes;
        counted = (let n = rest.counted in omega (arith, n));
        unblocked = λ u q. subst (λ v. is_plain_block v ≡ false) (some-same q) first.unblocked;
      }

  -- whether a temporary may be passed for a formal argument, by what a name means
  abbrev may_be_lent : Name → Name → MeaningOf Name → Bool
  may_be_lent x n (temporary scope) =
      not (assigned_in_closure text_eq is_pseudo_variable control_form m.tree (take scope e.path) n) && not (list_any (stands_in_closure control_form target.tree 1) (formal_reads text_asked target.tree x))
  may_be_lent x n meaning = false

  module _ (w : TreeOf Name) (there : part_in m.tree.body e.path ≡ Some w) (h : are_actuals_plain text_asked i m e target ≡ true) where
    pub passed-one : (j : ℕ) (x : Name) (t : TreeOf Name) → slice_get target.tree.arguments j ≡ Some x → nth e.arguments j ≡ Some t → WellFormed t → IsPassed i m e.path target x t
    passed-one j x (var n) p q o =
        plain-or i m e.path target x (var n) _ (each-actual _ e.arguments target.tree.arguments 0 h j x (var n) p (ap (nth e.arguments) (none-before j) ∙ q))
        (λ r. let y = temporary-so i m e.path (may_be_lent x n) n refl (λ k. refl) (λ v c. refl) (λ c. refl) refl refl r in temporary-passed i m e.path target w there n x y.scope y.proper y.local y.passes) o
    passed-one j x (literal l) p q o = plain-or i m e.path target x (literal l) _ (each-actual _ e.arguments target.tree.arguments 0 h j x (literal l) p (ap (nth e.arguments) (none-before j) ∙ q)) (λ r. absurd (false≢true r)) o
    passed-one j x (send r s us) p q o = plain-or i m e.path target x (send r s us) _ (each-actual _ e.arguments target.tree.arguments 0 h j x (send r s us) p (ap (nth e.arguments) (none-before j) ∙ q)) (λ r. absurd (false≢true r)) o
    passed-one j x (cascade r ms) p q o = plain-or i m e.path target x (cascade r ms) _ (each-actual _ e.arguments target.tree.arguments 0 h j x (cascade r ms) p (ap (nth e.arguments) (none-before j) ∙ q)) (λ r. absurd (false≢true r)) o
    passed-one j x (assign n t) p q o = plain-or i m e.path target x (assign n t) _ (each-actual _ e.arguments target.tree.arguments 0 h j x (assign n t) p (ap (nth e.arguments) (none-before j) ∙ q)) (λ r. absurd (false≢true r)) o
    passed-one j x (block ps ts ss c) p q o = plain-or i m e.path target x (block ps ts ss c) _ (each-actual _ e.arguments target.tree.arguments 0 h j x (block ps ts ss c) p (ap (nth e.arguments) (none-before j) ∙ q)) (λ r. absurd (false≢true r)) o
    passed-one j x (brace us) p q o = plain-or i m e.path target x (brace us) _ (each-actual _ e.arguments target.tree.arguments 0 h j x (brace us) p (ap (nth e.arguments) (none-before j) ∙ q)) (λ r. absurd (false≢true r)) o
    passed-one j x (return t) p q o = plain-or i m e.path target x (return t) _ (each-actual _ e.arguments target.tree.arguments 0 h j x (return t) p (ap (nth e.arguments) (none-before j) ∙ q)) (λ r. absurd (false≢true r)) o

    -- what is passed for a name
    pub passed-for : WellFormedTrees e.arguments → (n : Name) (t : TreeOf Name) → passed_for target.tree.arguments e.arguments n ≡ Some t → (is_among text_eq target.tree.arguments n ≡ true) × IsPassed i m e.path target n t
    passed-for o n t q = let at = passed-index target.tree.arguments e.arguments n t q in (among target.tree.arguments at.0 at.1, passed-one at.0 n t at.1 at.2 (formed-nth e.arguments at.0 t o at.2))
      where
        among : (ps : List Name) (j : ℕ) → slice_get ps j ≡ Some n → is_among text_eq ps n ≡ true
        among [] j f = none-some f
        among (x ∷ ps) zero f = ap (λ b. b || is_among text_eq ps n) (ap (text_eq n) (some-same f) ∙ text_eq-refl n)
        among (x ∷ ps) (suc j) f = always (text_eq n x) (among ps j f)
          where
            always : (b : Bool) → is_among text_eq ps n ≡ true → (b || is_among text_eq ps n) ≡ true
            always true g = refl
            always false g = g
