-- The scopes round a place, as one way down the path finds them.
use Rattle.std.proofs.Common.{◌≡◌, ℕ, suc, ◌+◌, Bool, true, false, not, ◌&&◌, ◌||◌, nat_le, List, [], ◌∷◌, ◌++◌, take, slice_get, Option, None, Some, option_map, refl, sym, ap, ◌∙◌, append_assoc, arith}
use Rattle.std.specs.Prelude.{unwrap_or, if◌then◌else◌}
use Rattle.std.specs.List.{list_any}
use Rattle.std.specs.Option.{option_map_or}
use Rattle.std.proofs.lemmas.List.Folds.{list_any-append}
use Rattle.tree_model.specs.Tree.{TreeOf, var, literal, send, cascade, assign, block, brace, return, SequenceOf, MethodOf}
use Rattle.tree_model.specs.Path.{child, nth, statement_trees}
use Rattle.scope_model.specs.declared.local.ControlForm.{ControlForm}
use Rattle.scope_model.specs.Control.{is_block, steps_in_place, is_closure_at}
use Rattle.scope_model.specs.Scope.{PlacedScope, method_scope, own_scope, entered, scopes_round}
use Rattle.command_model.specs.Places.{innermost, is_closure_in, stands_in_closure}
use Rattle.part_questions.specs.Round.{closure_round, innermost_from}

or-swap : (a b : Bool) → (a || b) ≡ (b || a)
or-swap true true = refl
or-swap true false = refl
or-swap false true = refl
or-swap false false = refl

and-false : (b : Bool) → (b && false) ≡ false
and-false true = refl
and-false false = refl

or-false : (b : Bool) → (b || false) ≡ b
or-false true = refl
or-false false = refl

module _ (form : ℕ → ControlForm) (from : ℕ) where
  -- what a test says of the scopes that are entered at so many steps behind the node
  abbrev Tells : (PlacedScope ℕ → Bool) → (depth : ℕ) → (in_place : Bool) → TreeOf ℕ → List ℕ → Type 0
  Tells test depth in_place t ks =
      (i n : ℕ) (s : Rattle.scope_model.specs.Scope.ScopeOf ℕ) → n ≡ depth + i → test (n, s) ≡ (nat_le from n && is_closure_at form in_place t (take i ks))

  -- the block itself
  own-told : (test : PlacedScope ℕ → Bool) (depth : ℕ) (in_place : Bool) (t : TreeOf ℕ) (ks : List ℕ) → Tells test depth in_place t ks
      → list_any test (own_scope depth t) ≡ (nat_le from depth && (is_block t && not in_place))
  own-told test depth in_place (var n) ks h = sym (and-false (nat_le from depth))
  own-told test depth in_place (literal l) ks h = sym (and-false (nat_le from depth))
  own-told test depth in_place (send r s args) ks h = sym (and-false (nat_le from depth))
  own-told test depth in_place (cascade r ms) ks h = sym (and-false (nat_le from depth))
  own-told test depth in_place (assign n t) ks h = sym (and-false (nat_le from depth))
  own-told test depth in_place (block ps ts ss e) ks h =
      or-false (test (depth, record { arguments = ps; temporaries = ts; statements = ss }))
      ∙ h 0 depth (record { arguments = ps; temporaries = ts; statements = ss }) (omega arith)
  own-told test depth in_place (brace ts) ks h = sym (and-false (nat_le from depth))
  own-told test depth in_place (return t) ks h = sym (and-false (nat_le from depth))

  -- all that are entered
  entered-told : (test : PlacedScope ℕ → Bool) (depth : ℕ) (in_place : Bool) (t : TreeOf ℕ) (ks : List ℕ) → Tells test depth in_place t ks
      → list_any test (entered depth t ks) ≡ closure_round form from in_place depth t ks
  entered-told test depth in_place t [] h = refl
  entered-told test depth in_place t (k ∷ ks) h =
      by (child t k) (λ i n s e. h (suc i) n s (omega (arith, e))) (λ c g. entered-told test (depth + 1) (steps_in_place form t k) c ks g)
    where
      own : Bool
      own = nat_le from depth && (is_block t && not in_place)

      by : (o : Option (TreeOf ℕ))
          → ((i n : ℕ) (s : Rattle.scope_model.specs.Scope.ScopeOf ℕ) → n ≡ depth + 1 + i → test (n, s) ≡ (nat_le from n && unwrap_or (option_map (λ c. is_closure_at form (steps_in_place form t k) c (take i ks)) o) false))
          → ((c : TreeOf ℕ) → Tells test (depth + 1) (steps_in_place form t k) c ks → list_any test (entered (depth + 1) c ks) ≡ closure_round form from (steps_in_place form t k) (depth + 1) c ks)
          → list_any test (unwrap_or (option_map (λ c. entered (depth + 1) c ks) o) [] ++ own_scope depth t)
          ≡ ((nat_le from depth && (is_block t && not in_place)) || option_map_or (λ c. closure_round form from (steps_in_place form t k) (depth + 1) c ks) o false)
      by None g later = own-told test depth in_place t (k ∷ ks) h ∙ sym (or-false (nat_le from depth && (is_block t && not in_place)))
      by (Some c) g later =
          list_any-append test (entered (depth + 1) c ks) (own_scope depth t)
          ∙ (λ j. later c g j || own-told test depth in_place t (k ∷ ks) h j)
          ∙ or-swap (closure_round form from (steps_in_place form t k) (depth + 1) c ks) (nat_le from depth && (is_block t && not in_place))

  -- those round a place in a method
  pub stands-round : (m : MethodOf ℕ) (k : ℕ) (ks : List ℕ) → option_map_or (λ t. closure_round form from false 1 t ks) (nth (statement_trees m.body.statements) k) false ≡ stands_in_closure form m from (k ∷ ks)
  stands-round m k ks = by (nth (statement_trees m.body.statements) k) refl
    where
      test : PlacedScope ℕ → Bool
      test s = nat_le from s.0 && is_closure_in form m.body (take s.0 (k ∷ ks))

      by : (o : Option (TreeOf ℕ)) → nth (statement_trees m.body.statements) k ≡ o
          → option_map_or (λ t. closure_round form from false 1 t ks) o false
          ≡ list_any (λ (s : PlacedScope ℕ). nat_le from s.0 && is_closure_in form m.body (take s.0 (k ∷ ks))) (unwrap_or (option_map (λ c. entered 1 c ks) o) [] ++ (0, method_scope m) ∷ [])
      by None e = sym (or-false (nat_le from 0 && false) ∙ and-false (nat_le from 0))
      by (Some t) e =
          sym
          (list_any-append (λ (s : PlacedScope ℕ). nat_le from s.0 && is_closure_in form m.body (take s.0 (k ∷ ks))) (entered 1 t ks) ((0, method_scope m) ∷ [])
          ∙ (λ j. list_any (λ (s : PlacedScope ℕ). nat_le from s.0 && is_closure_in form m.body (take s.0 (k ∷ ks))) (entered 1 t ks) || (or-false (nat_le from 0 && false) ∙ and-false (nat_le from 0)) j)
          ∙ or-false (list_any (λ (s : PlacedScope ℕ). nat_le from s.0 && is_closure_in form m.body (take s.0 (k ∷ ks))) (entered 1 t ks))
          ∙ entered-told (λ (s : PlacedScope ℕ). nat_le from s.0 && is_closure_in form m.body (take s.0 (k ∷ ks))) 1 false t ks
          (λ i n s g. (λ j. nat_le from n && is_closure_in form m.body (take ((g ∙ one-more i) j) (k ∷ ks))) ∙ (λ j. nat_le from n && option_map_or (λ u. is_closure_at form false u (take i ks)) (e j) false)))
        where
          one-more : (i : ℕ) → 1 + i ≡ suc i
          one-more i = omega arith

-- the number of the first scope
abbrev first_number : List (PlacedScope ℕ) → ℕ
first_number xs = option_map_or (λ (s : PlacedScope ℕ). s.0) (slice_get xs 0) 0

-- the block itself, and else what is behind
first-own : (depth : ℕ) (t : TreeOf ℕ) (rest : List (PlacedScope ℕ)) → first_number (own_scope depth t ++ rest) ≡ (if is_block t then depth else first_number rest)
first-own depth (var n) rest = refl
first-own depth (literal l) rest = refl
first-own depth (send r s args) rest = refl
first-own depth (cascade r ms) rest = refl
first-own depth (assign n t) rest = refl
first-own depth (block ps ts ss e) rest = refl
first-own depth (brace ts) rest = refl
first-own depth (return t) rest = refl

first-entered : (depth : ℕ) (t : TreeOf ℕ) (ks : List ℕ) (rest : List (PlacedScope ℕ)) → first_number (entered depth t ks ++ rest) ≡ innermost_from (first_number rest) depth t ks
first-entered depth t [] rest = refl
first-entered depth t (k ∷ ks) rest =
    by (child t k) (λ c. first-entered (depth + 1) c ks (own_scope depth t ++ rest))
  where
    by : (o : Option (TreeOf ℕ))
        → ((c : TreeOf ℕ) → first_number (entered (depth + 1) c ks ++ (own_scope depth t ++ rest)) ≡ innermost_from (first_number (own_scope depth t ++ rest)) (depth + 1) c ks)
        → first_number ((unwrap_or (option_map (λ c. entered (depth + 1) c ks) o) [] ++ own_scope depth t) ++ rest)
        ≡ option_map_or (λ c. innermost_from (if is_block t then depth else first_number rest) (depth + 1) c ks) o (if is_block t then depth else first_number rest)
    by None later = first-own depth t rest
    by (Some c) later =
        ap first_number (append_assoc (entered (depth + 1) c ks) (own_scope depth t) rest)
        ∙ later c
        ∙ ap (λ (n : ℕ). innermost_from n (depth + 1) c ks) (first-own depth t rest)

-- the innermost one round a place in a method
pub innermost-round : (m : MethodOf ℕ) (k : ℕ) (ks : List ℕ) → option_map_or (λ t. innermost_from 0 1 t ks) (nth (statement_trees m.body.statements) k) 0 ≡ innermost m (k ∷ ks)
innermost-round m k ks = by (nth (statement_trees m.body.statements) k)
  where
    by : (o : Option (TreeOf ℕ)) → option_map_or (λ t. innermost_from 0 1 t ks) o 0 ≡ first_number (unwrap_or (option_map (λ c. entered 1 c ks) o) [] ++ (0, method_scope m) ∷ [])
    by None = refl
    by (Some t) = sym (first-entered 1 t ks ((0, method_scope m) ∷ []))

-- by what is found at the first step
pub innermost-found : (m : MethodOf ℕ) (path ks : List ℕ) (k : ℕ) (o : Option (TreeOf ℕ)) → path ≡ k ∷ ks → o ≡ nth (statement_trees m.body.statements) k → option_map_or (λ t. innermost_from 0 1 t ks) o 0 ≡ innermost m path
innermost-found m path ks k o e f = (λ j. option_map_or (λ t. innermost_from 0 1 t ks) (f j) 0) ∙ innermost-round m k ks ∙ (λ j. innermost m (sym e j))

pub stands-found : (form : ℕ → ControlForm) (from : ℕ) (m : MethodOf ℕ) (path ks : List ℕ) (k : ℕ) (o : Option (TreeOf ℕ)) → path ≡ k ∷ ks → o ≡ nth (statement_trees m.body.statements) k
    → option_map_or (λ t. closure_round form from false 1 t ks) o false ≡ stands_in_closure form m from path
stands-found form from m path ks k o e f =
    (λ j. option_map_or (λ t. closure_round form from false 1 t ks) (f j) false) ∙ stands-round form from m k ks ∙ (λ j. stands_in_closure form m from (sym e j))

pub closure-found : (form : ℕ → ControlForm) (b : SequenceOf ℕ) (path ks : List ℕ) (k : ℕ) (o : Option (TreeOf ℕ)) → path ≡ k ∷ ks → o ≡ nth (statement_trees b.statements) k
    → option_map_or (λ t. is_closure_at form false t ks) o false ≡ is_closure_in form b path
closure-found form b path ks k o e f = (λ j. option_map_or (λ t. is_closure_at form false t ks) (f j) false) ∙ (λ j. is_closure_in form b (sym e j))
