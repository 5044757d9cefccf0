-- The one assignment to a temporary that only one place declares.
use Rattle.std.proofs.Common.{◌≡◌, ℕ, zero, suc, List, [], ◌∷◌, ◌++◌, length, take, slice_get, filter, Contains, Bool, true, false, is_some, ◌==◌, Option, Some, None, option_and_then, option_map, refl, sym, ap, ◌∙◌, subst, arith, ◌⊎◌, inl, inr}
use Rattle.std.specs.Prelude.{if◌then◌else◌}
use Rattle.std.proofs.lemmas.Bool.{false≢true, eqb-true}
use Rattle.tree_model.specs.Tree.{TreeOf, var, literal, send, cascade, assign, block, brace, return, MethodOf}
use Rattle.tree_model.specs.Path.{part_in}
use Rattle.tree_model.specs.Nodes.{Placed, nodes}
use Rattle.tree_model.proofs.NodesLemmas.{part_in-Contains, Contains-part_in}
use Rattle.scope_model.specs.declared.local.Local.{Local}
use Rattle.scope_model.specs.Scope.{local_in}
use Rattle.command_model.specs.Asked.{AskedOf}
use Rattle.command_model.specs.Places.{temporary_scope}
use Rattle.command_model.specs.Temporaries.{LetOf, only, is_declared_once, let_of}

-- an item of a list is the first one, or one of the others
pub cons-cases : {X : Type 0} (x : X) (xs : List X) (y : X) → Contains (x ∷ xs) y → (x ≡ y) ⊎ Contains xs y
cons-cases x xs y (zero, l, e) = inl e
cons-cases x xs y (suc k, l, e) = inr (k, omega (arith, l), e)

first-item : {X : Type 0} (x : X) (xs : List X) → Contains (x ∷ xs) x
first-item x xs = (0, omega arith, refl)

other-item : {X : Type 0} (x : X) (xs : List X) (y : X) → Contains xs y → Contains (x ∷ xs) y
other-item x xs y (k, l, e) = (suc k, omega (arith, l), e)

pub none-there : {X : Type 0} (y : X) → Contains [] y → ⊥
none-there y (k, l, e) = omega (arith, l)

some-item : {X : Type 0} (x : X) (xs : List X) → x ∷ xs ≡ [] → ⊥
some-item x xs e = cc

module _ {X : Type 0} (p : X → Bool) where
  -- nothing passes
  none-passes : (xs : List X) → filter p xs ≡ [] → (y : X) → Contains xs y → p y ≡ true → ⊥
  none-passes [] e y c t = none-there y c
  none-passes (x ∷ xs) e y c t = by (p x) refl e (cons-cases x xs y c) (λ f k. none-passes xs f y k t)
    where
      by : (b : Bool) → p x ≡ b → (if b then x ∷ filter p xs else filter p xs) ≡ [] → (x ≡ y) ⊎ Contains xs y → (filter p xs ≡ [] → Contains xs y → ⊥) → ⊥
      by true q f k ih = some-item x (filter p xs) f
      by false q f (inl s) ih = false≢true (sym q ∙ ap p s ∙ t)
      by false q f (inr k) ih = ih f k

  -- one item passes, and it stands in the list
  pub one-passes : (xs : List X) (e : X) → filter p xs ≡ e ∷ [] → Contains xs e × (p e ≡ true)
  one-passes [] e h = absurd (cc)
  one-passes (x ∷ xs) e h = by (p x) refl h (one-passes xs e)
    where
      by : (b : Bool) → p x ≡ b → (if b then x ∷ filter p xs else filter p xs) ≡ e ∷ [] → (filter p xs ≡ e ∷ [] → Contains xs e × (p e ≡ true)) → Contains (x ∷ xs) e × (p e ≡ true)
      by true q f ih = let same : x ≡ e = cc in (subst (λ z. Contains (x ∷ xs) z) same (first-item x xs), ap p (sym same) ∙ q)
      by false q f ih = let r = ih f in (other-item x xs e r.0, r.1)

  -- and no other one does
  pub only-passes : (xs : List X) (e : X) → filter p xs ≡ e ∷ [] → (y : X) → Contains xs y → p y ≡ true → y ≡ e
  only-passes [] e h y c t = absurd (cc)
  only-passes (x ∷ xs) e h y c t = by (p x) refl h (cons-cases x xs y c) (λ f k. only-passes xs e f y k t)
    where
      by : (b : Bool) → p x ≡ b → (if b then x ∷ filter p xs else filter p xs) ≡ e ∷ [] → (x ≡ y) ⊎ Contains xs y → (filter p xs ≡ e ∷ [] → Contains xs y → y ≡ e) → y ≡ e
      by true q f (inl s) ih = let same : x ≡ e = cc in sym s ∙ same
      by true q f (inr k) ih = let rest : filter p xs ≡ [] = cc in absurd (none-passes xs rest y k t)
      by false q f (inl s) ih = absurd (false≢true (sym q ∙ ap p s ∙ t))
      by false q f (inr k) ih = ih f k

-- a list that has one item
one-item : {X : Type 0} (xs : List X) (e : X) → only xs ≡ Some e → xs ≡ e ∷ []
one-item [] e h = absurd (cc)
one-item (x ∷ []) e h = let same : x ≡ e = cc in ap (λ z. z ∷ []) same
one-item (x ∷ y ∷ xs) e h = absurd (cc)

-- a path with its last step apart
last-apart : (path : List ℕ) (n k : ℕ) → length path ≡ suc n → slice_get path n ≡ Some k → (path ≡ take n path ++ k ∷ []) × (length (take n path) ≡ n)
last-apart [] n k l e = absurd (cc)
last-apart (j ∷ []) zero k l e = let same : j ≡ k = cc in (ap (λ z. z ∷ []) same, refl)
last-apart (j ∷ i ∷ path) zero k l e = absurd (omega (arith, l))
last-apart (j ∷ path) (suc n) k l e = let r = last-apart path n k (less l) e in (ap (λ z. j ∷ z) r.0, ap suc r.1)
  where
    less : suc (length path) ≡ suc (suc n) → length path ≡ suc n
    less q = omega (arith, q)

module _ {N : Type 0} (a : AskedOf N) (m : MethodOf N) (x : N) where
  abbrev local : List ℕ → N → Local
  local path n = local_in a.words.tests.same a.words.tests.is_pseudo m path n

  -- how many steps lead to the scope of a temporary x that a node assigns
  abbrev scope_assigned : Placed N → Option ℕ
  scope_assigned (path, assign n t) = if a.words.tests.same x n then temporary_scope (local path n) else None
  scope_assigned (path, t) = None

  abbrev assigns_it : Placed N → Bool
  assigns_it e = is_some (scope_assigned e)

  abbrev let_there : Placed N → ℕ → Option (LetOf N)
  let_there (path, assign n t) scope =
      if length path == suc scope
      then option_map (λ k. record { sequence = take scope path; number = k; value = t }) (slice_get path scope)
      else None
  let_there (path, t) scope = None

  -- the assignment of a temporary where it stands
  pub record LetStands (e : LetOf N) : Type 0 where
    pub name : N
    pub told : a.words.tests.same x name ≡ true
    pub there : part_in m.body (e.sequence ++ e.number ∷ []) ≡ Some (assign name e.value)
    pub scope : temporary_scope (local (e.sequence ++ e.number ∷ []) name) ≡ Some (length e.sequence)
    pub alone : (path : List ℕ) (n : N) (t : TreeOf N) → part_in m.body path ≡ Some (assign n t) → a.words.tests.same x n ≡ true → is_some (temporary_scope (local path n)) ≡ true → path ≡ e.sequence ++ e.number ∷ []
    pub once : is_declared_once a m x ≡ true

  -- by the node
  at-node : (path : List ℕ) (u : TreeOf N) (n : ℕ) (e : LetOf N) → scope_assigned (path, u) ≡ Some n → let_there (path, u) n ≡ Some e →
      (name : N) × (u ≡ assign name e.value) × (a.words.tests.same x name ≡ true) × (temporary_scope (local path name) ≡ Some n) × (path ≡ e.sequence ++ e.number ∷ []) × (length e.sequence ≡ n)
  at-node path (var y) n e s l = absurd (cc)
  at-node path (literal y) n e s l = absurd (cc)
  at-node path (send r y args) n e s l = absurd (cc)
  at-node path (cascade r ms) n e s l = absurd (cc)
  at-node path (assign y t) n e s l = by (a.words.tests.same x y) (length path == suc n) (slice_get path n) refl refl refl s l
    where
      by : (b d : Bool) (o : Option ℕ) → a.words.tests.same x y ≡ b → (length path == suc n) ≡ d → slice_get path n ≡ o → (if b then temporary_scope (local path y) else None) ≡ Some n →
          (if d then option_map (λ k. record { sequence = take n path; number = k; value = t }) o else None) ≡ Some e →
          (name : N) × (assign y t ≡ assign name e.value) × (a.words.tests.same x name ≡ true) × (temporary_scope (local path name) ≡ Some n) × (path ≡ e.sequence ++ e.number ∷ []) × (length e.sequence ≡ n)
      by false d o p q r s l = absurd (cc)
      by true false o p q r s l = absurd (cc)
      by true true None p q r s l = absurd (cc)
      by true true (Some k) p q r s l =
          let same : record { sequence = take n path; number = k; value = t } ≡ e = cc in
          let split = last-apart path n k (eqb-true (length path) (suc n) q) r in
          (y, ap (λ (z : LetOf N). assign y z.value) same, p, s, split.0 ∙ ap (λ (z : LetOf N). z.sequence ++ z.number ∷ []) same, ap (λ (z : LetOf N). length z.sequence) (sym same) ∙ split.1)
  at-node path (block ps ts ss k) n e s l = absurd (cc)
  at-node path (brace ts) n e s l = absurd (cc)
  at-node path (return t) n e s l = absurd (cc)

  pub let-stands : (e : LetOf N) → let_of a m x ≡ Some e → LetStands e
  let-stands e h = by (is_declared_once a m x) refl h
    where
      told-so : (n : N) → a.words.tests.same x n ≡ true → (path : List ℕ) (t : TreeOf N) → is_some (temporary_scope (local path n)) ≡ true → assigns_it (path, assign n t) ≡ true
      told-so n p path t q = ap (λ b. is_some (if b then temporary_scope (local path n) else None)) p ∙ q

      further : (path : List ℕ) (u : TreeOf N) (o : Option ℕ) → filter assigns_it (nodes m.body) ≡ (path, u) ∷ [] → is_declared_once a m x ≡ true → scope_assigned (path, u) ≡ o → option_and_then (let_there (path, u)) o ≡ Some e → LetStands e
      further path u None q d s l = absurd (cc)
      further path u (Some n) q d s l =
          let r = at-node path u n e s l in
          record {
            name = r.0;
            told = r.2;
            there = ap (part_in m.body) (sym r.4) ∙ part_in-Contains m.body path u (one-passes assigns_it (nodes m.body) (path, u) q).0 ∙ ap Some r.1;
            scope = ap (λ z. temporary_scope (local z r.0)) (sym r.4) ∙ r.3 ∙ ap Some (sym r.5);
            alone = λ z y t at p b. ap (λ (w : Placed N). w.0) (only-passes assigns_it (nodes m.body) (path, u) q (z, assign y t) (Contains-part_in m.body z (assign y t) at) (told-so y p z t b)) ∙ r.4;
            once = d;
          }

      found : (o : Option (Placed N)) → only (filter assigns_it (nodes m.body)) ≡ o → is_declared_once a m x ≡ true → option_and_then (λ z. option_and_then (let_there z) (scope_assigned z)) o ≡ Some e → LetStands e
      found None q d l = absurd (cc)
      found (Some (path, u)) q d l = further path u (scope_assigned (path, u)) (one-item (filter assigns_it (nodes m.body)) (path, u) q) d refl l

      by : (b : Bool) → is_declared_once a m x ≡ b → (if b then option_and_then (λ z. option_and_then (let_there z) (scope_assigned z)) (only (filter assigns_it (nodes m.body))) else None) ≡ Some e → LetStands e
      by true d l = found (only (filter assigns_it (nodes m.body))) refl d l
      by false d l = absurd (cc)
