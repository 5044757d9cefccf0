-- A temporary that the command says to be assigned in no closure is kept.
use Rattle.std.proofs.Common.{◌≡◌, ◌<◌, ℕ, suc, ◌+◌, List, [], ◌∷◌, ◌++◌, length, Option, Some, None, refl, sym, ap, ◌∙◌, arith}
use Rattle.std.specs.Prelude.{Bool, true, false, not, ◌&&◌, ◌||◌, if◌then◌else◌, take, option_map, option_and_then, unwrap_or}
use Rattle.std.specs.List.{AllByRecursion}
use Rattle.std.proofs.lemmas.Bool.{false≢true}
use Rattle.rb_base.specs.Names.{text_eq}
use Rattle.tree_model.specs.Tree.{TreeOf, var, literal, send, cascade, assign, block, brace, return, MethodOf}
use Rattle.tree_model.specs.Path.{nth, statement_trees, child, part_at, part_in}
use Rattle.scope_model.specs.declared.local.Local.TheVariants.{Argument, Temporary, NotLocal}
use Rattle.scope_model.specs.SpecialNames.{is_pseudo_variable, control_form}
use Rattle.scope_model.specs.Scope.{PlacedScope, method_scope, block_scope, scope_at, own_scope, entered, scopes_round, is_among, local_by}
use Rattle.scope_model.specs.Uses.{assigned_in_closure_of, assigned_in_closure}
use Rattle.run_model.specs.Values.{Name}
use Rattle.resolved_model.specs.Environments.{opened, kind_in}
use Rattle.resolved_model.proofs.Environments.{kind_of, kind-scopes}
use Rattle.unfolded_calls.proofs.Running.{none-some}
use Rattle.unfolded_places.proofs.Slots.{kept_by}
use Rattle.unfolded_places.proofs.StandsThere.{captures, keeps_in}

-- a block that a path enters, so many steps on
pub record IsScopeOn (d : ℕ) (t : TreeOf Name) (path : List ℕ) (p : PlacedScope Name) : Type 0 where
  pub steps : ℕ
  pub depth : p.0 ≡ d + steps
  pub less : steps < length path
  pub there : option_and_then block_scope (part_at t (take steps path)) ≡ Some p.1

-- facts of two lists
all-both : {X : Type 0} (P : X → Type 0) (xs ys : List X) → AllByRecursion P xs → AllByRecursion P ys → AllByRecursion P (xs ++ ys)
all-both P [] ys a b = b
all-both P (x ∷ xs) ys a b = (a.0, all-both P xs ys a.1 b)

all-follow : {X : Type 0} (P Q : X → Type 0) → ((x : X) → P x → Q x) → (xs : List X) → AllByRecursion P xs → AllByRecursion Q xs
all-follow P Q f [] a = tt
all-follow P Q f (x ∷ xs) a = (f x a.0, all-follow P Q f xs a.1)

pub entered-scopes : (path : List ℕ) (d : ℕ) (t : TreeOf Name) → AllByRecursion (IsScopeOn d t path) (entered d t path)
entered-scopes [] d t = tt
entered-scopes (k ∷ ks) d t = by (child t k) refl (λ c. entered-scopes ks (d + 1) c)
  where
    none-off : d ≡ d + 0
    none-off = omega arith

    next : (j : ℕ) → d + 1 + j ≡ d + suc j
    next j = omega arith

    some-first : 0 < length (k ∷ ks)
    some-first = omega arith

    own : (u : TreeOf Name) → option_and_then block_scope (part_at t []) ≡ block_scope u → AllByRecursion (IsScopeOn d t (k ∷ ks)) (own_scope d u)
    own (var n) e = tt
    own (literal l) e = tt
    own (send r s args) e = tt
    own (cascade r ms) e = tt
    own (assign n u) e = tt
    own (block ps ts ss c) e = (record { steps = 0; depth = none-off; less = some-first; there = e }, tt)
    own (brace ts) e = tt
    own (return u) e = tt

    by : (o : Option (TreeOf Name)) → child t k ≡ o → ((c : TreeOf Name) → AllByRecursion (IsScopeOn (d + 1) c ks) (entered (d + 1) c ks)) → AllByRecursion (IsScopeOn d t (k ∷ ks)) (unwrap_or (option_map (λ c. entered (d + 1) c ks) o) [] ++ own_scope d t)
    by None e ih = own t refl
    by (Some c) e ih =
        all-both (IsScopeOn d t (k ∷ ks)) (entered (d + 1) c ks) (own_scope d t)
        (all-follow (IsScopeOn (d + 1) c ks) (IsScopeOn d t (k ∷ ks)) (λ p h. record { steps = suc h.steps; depth = h.depth ∙ next h.steps; less = (let l = h.less in omega (arith, l)); there = ap (λ o. option_and_then block_scope (option_and_then (λ x. part_at x (take h.steps ks)) o)) e ∙ h.there }) (entered (d + 1) c ks) (ih c))
        (own t refl)

-- the scope of a method at a path, and how many steps lead there
abbrev pub IsScopeThere : MethodOf Name → List ℕ → PlacedScope Name → Type 0
IsScopeThere m path p = (scope_at (method_scope m) (take p.0 path) ≡ Some p.1) × (p.0 < length path)

pub scopes-there : (m : MethodOf Name) (path : List ℕ) (w : TreeOf Name) → part_in m.body path ≡ Some w → AllByRecursion (IsScopeThere m path) (scopes_round (method_scope m) path)
scopes-there m [] w e = none-some e
scopes-there m (k ∷ ks) w e = by (nth (statement_trees m.body.statements) k) refl
  where
    next : (j : ℕ) → 1 + j ≡ suc j
    next j = omega arith

    some-first : 0 < length (k ∷ ks)
    some-first = omega arith

    own : AllByRecursion (IsScopeThere m (k ∷ ks)) ((0, method_scope m) ∷ [])
    own = ((refl, some-first), tt)

    by : (o : Option (TreeOf Name)) → nth (statement_trees m.body.statements) k ≡ o → AllByRecursion (IsScopeThere m (k ∷ ks)) (unwrap_or (option_map (λ c. entered 1 c ks) o) [] ++ (0, method_scope m) ∷ [])
    by None q = own
    by (Some c) q =
        all-both (IsScopeThere m (k ∷ ks)) (entered 1 c ks) ((0, method_scope m) ∷ [])
        (all-follow (IsScopeOn 1 c ks) (IsScopeThere m (k ∷ ks))
        (λ p h. (
          ap (λ n. scope_at (method_scope m) (take n (k ∷ ks))) (h.depth ∙ next h.steps) ∙ ap (λ o. option_and_then block_scope (option_and_then (λ x. part_at x (take h.steps ks)) o)) q ∙ h.there,
          (let l = h.less in let e = h.depth in omega (arith, l, e)),
        ))
        (entered 1 c ks) (entered-scopes ks 1 c)) own

-- the innermost scope that declares a temporary
keeps-by : (own outer : Bool) (o : Option Bool) → o ≡ Some true → kept_by o own outer ≡ own
keeps-by own outer o e = ap (λ z. kept_by z own outer) e

module _ (m : MethodOf Name) (path : List ℕ) (n : Name) (p : is_pseudo_variable n ≡ false) where
  scope-keeps : (s : PlacedScope Name) → IsScopeThere m path s → (is_among text_eq s.1.arguments n || is_among text_eq s.1.temporaries n) ≡ true → assigned_in_closure text_eq is_pseudo_variable control_form m (take s.0 path) n ≡ false → captures s.1.statements n ≡ false
  scope-keeps s h d e = second (ap (λ b. not b && (is_among text_eq s.1.arguments n || is_among text_eq s.1.temporaries n)) p ∙ d) (sym (ap (λ o. unwrap_or (option_map (λ inner. assigned_in_closure_of text_eq is_pseudo_variable control_form inner n) o) false) h.0) ∙ e)
    where
      second : {a b : Bool} → a ≡ true → (a && b) ≡ false → b ≡ false
      second {a = true} q e = e
      second {a = false} q e = absurd (false≢true q)

  pub keeps-open : (ps : List (PlacedScope Name)) (k : ℕ) → AllByRecursion (IsScopeThere m path) ps → local_by text_eq ps n ≡ Temporary k → assigned_in_closure text_eq is_pseudo_variable control_form m (take k path) n ≡ false → keeps_in ps n ≡ true
  keeps-open [] k a l e = absurd (cc)
  keeps-open (s ∷ ps) k a l e = by (is_among text_eq s.1.arguments n) (is_among text_eq s.1.temporaries n) refl refl (kind-scopes (s ∷ []) n) l (λ q. keeps-open ps k a.1 q e)
    where
      depth-so : (j : ℕ) → Temporary j ≡ Temporary k → j ≡ k
      depth-so j q = cc

      by : (b c : Bool) → is_among text_eq s.1.arguments n ≡ b → is_among text_eq s.1.temporaries n ≡ c → kind_in (opened s.1.arguments s.1.temporaries []) n ≡ kind_of (if is_among text_eq s.1.arguments n then Argument s.0 else if is_among text_eq s.1.temporaries n then Temporary s.0 else NotLocal) →
          (if b then Argument s.0 else if c then Temporary s.0 else local_by text_eq ps n) ≡ Temporary k → (local_by text_eq ps n ≡ Temporary k → keeps_in ps n ≡ true) → keeps_in (s ∷ ps) n ≡ true
      by true c x y z q ih = absurd (cc)
      by false true x y z q ih =
          keeps-by (not (captures s.1.statements n)) (keeps_in ps n) (kind_in (opened s.1.arguments s.1.temporaries []) n) (z ∙ (λ i. kind_of (if x i then Argument s.0 else if y i then Temporary s.0 else NotLocal)))
          ∙ ap not (scope-keeps s a.0 (λ i. x i || y i) (ap (λ j. assigned_in_closure text_eq is_pseudo_variable control_form m (take j path) n) (depth-so s.0 q) ∙ e))
      by false false x y z q ih = ap (λ o. kept_by o (not (captures s.1.statements n)) (keeps_in ps n)) (z ∙ (λ i. kind_of (if x i then Argument s.0 else if y i then Temporary s.0 else NotLocal))) ∙ ih q
