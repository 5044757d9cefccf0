-- The one assignment to a temporary, and the sequence in which it is a statement.
use Rattle.std.proofs.Common.{◌≡◌, inl, ℕ, zero, suc, ◌≤◌, Bool, true, false, List, [], ◌∷◌, ◌++◌, filter, length, take, slice_get, Option, Some, None, is_some, option_and_then, option_map, refl, sym, ap, subst, ◌∙◌, arith}
use Rattle.std.specs.Prelude.{if◌then◌else◌, ◌==◌}
use Rattle.std.proofs.lemmas.Bool.{eqb-true}
use Rattle.rb_base.specs.Names.{text_eq}
use Rattle.tree_model.specs.Tree.{TreeOf, var, literal, send, cascade, assign, block, brace, return, SequenceOf, MethodOf}
use Rattle.tree_model.specs.Path.{count, statement_trees, part_in}
use Rattle.tree_model.specs.Nodes.{Placed, nodes}
use Rattle.tree_model.proofs.NodesLemmas.{part_in-Contains}
use Rattle.scope_model.specs.FreeNames.{statements_at}
use Rattle.scope_model.specs.SpecialNames.{is_pseudo_variable}
use Rattle.scope_model.specs.Scope.{local_in}
use Rattle.grammar_model.specs.Checks.{Known}
use Rattle.file_model.specs.Filing.{Text}
use Rattle.command_model.specs.Asked.{text_asked}
use Rattle.command_model.specs.LetConditions.{let_path}
use Rattle.command_model.specs.Places.{temporary_scope}
use Rattle.command_model.specs.Temporaries.{LetOf, only, is_declared_once, let_of}
use Rattle.code_command_laws.proofs.PutBackRun.{statements_of}
use Rattle.effect_laws.proofs.Items.{In, filter_in, contains_in}
use Rattle.code_effect_laws.proofs.Methods.{IsSequenceAt, IsBody, IsInBlock}

-- the sequence where a path leads, which has a statement
pub record HasSequence (m : MethodOf Text) (path : List ℕ) : Type 0 where
  pub known : List Known
  pub parameters : List Text
  pub sequence : SequenceOf Text
  pub there : IsSequenceAt m path known parameters sequence
  pub same : statements_at m.body path ≡ sequence.statements

pub has_sequence : (m : MethodOf Text) (path : List ℕ) → 1 ≤ count (statement_trees (statements_at m.body path)) → HasSequence m path
has_sequence m [] some = record { known = []; parameters = m.arguments; sequence = m.body; there = IsBody; same = refl }
has_sequence m (k ∷ ks) some = by (part_in m.body (k ∷ ks)) refl some
  where
    by : (o : Option (TreeOf Text)) → part_in m.body (k ∷ ks) ≡ o → 1 ≤ count (statement_trees (statements_of o)) → HasSequence m (k ∷ ks)
    by None e r = absurd (omega (arith, r))
    by (Some (var n)) e r = absurd (omega (arith, r))
    by (Some (literal l)) e r = absurd (omega (arith, r))
    by (Some (send q s xs)) e r = absurd (omega (arith, r))
    by (Some (cascade q ms)) e r = absurd (omega (arith, r))
    by (Some (assign n t)) e r = absurd (omega (arith, r))
    by (Some (block ps ts ss tail)) e r = record { known = _; parameters = ps; sequence = record { temporaries = ts; statements = ss; tail = tail }; there = IsInBlock e; same = ap statements_of e }
    by (Some (brace ts)) e r = absurd (omega (arith, r))
    by (Some (return t)) e r = absurd (omega (arith, r))

-- how many steps lead to the scope of a temporary that a node assigns
abbrev assigned_scope : MethodOf Text → Text → Placed Text → Option ℕ
assigned_scope m x (path, assign n t) = if text_eq x n then temporary_scope (local_in text_eq is_pseudo_variable m path n) else None
assigned_scope m x (path, t) = None

-- an assignment as a statement of the sequence to which so many steps lead
abbrev let_at : Placed Text → ℕ → Option (LetOf Text)
let_at (path, assign n t) scope = if length path == suc scope then option_map (λ k. record { sequence = take scope path; number = k; value = t }) (slice_get path scope) else None
let_at (path, t) scope = None

-- the one item of a list is one
only_in : {X : Type 0} (xs : List X) (x : X) → only xs ≡ Some x → In xs x
only_in [] x e = absurd (cc)
only_in (y ∷ []) x e = inl (let same : y ≡ x = cc in same)
only_in (y ∷ z ∷ xs) x e = absurd (cc)

-- the last step of a path
last_step : (path : List ℕ) (scope k : ℕ) → length path ≡ suc scope → slice_get path scope ≡ Some k → take scope path ++ k ∷ [] ≡ path
last_step [] scope k long e = absurd (cc)
last_step (j ∷ []) zero k long e = let same : j ≡ k = cc in ap (λ n. n ∷ []) (sym same)
last_step (j ∷ l ∷ path) zero k long e = absurd (omega (arith, long))
last_step (j ∷ path) (suc scope) k long e = ap (λ (xs : List ℕ). j ∷ xs) (last_step path scope k (let same : length path ≡ suc scope = omega (arith, long) in same) e)

-- the assignment stands in the method, which declares the temporary once
pub record IsLet (m : MethodOf Text) (x : Text) (e : LetOf Text) : Type 0 where
  pub once : is_declared_once text_asked m x ≡ true
  pub name : Text
  pub there : part_in m.body (let_path e) ≡ Some (assign name e.value)

module _ (m : MethodOf Text) (x : Text) (e : LetOf Text) where
  assigned_there : (once : is_declared_once text_asked m x ≡ true) (path : List ℕ) (n : Text) (t : TreeOf Text) → part_in m.body path ≡ Some (assign n t) → (o : Option ℕ)
      → option_and_then (λ scope. if length path == suc scope then option_map (λ k. record { sequence = take scope path; number = k; value = t }) (slice_get path scope) else None) o ≡ Some e → IsLet m x e
  assigned_there once path n t found None h = absurd (cc)
  assigned_there once path n t found (Some scope) h = by (length path == suc scope) refl (slice_get path scope) refl h
    where
      by : (b : Bool) → (length path == suc scope) ≡ b → (s : Option ℕ) → slice_get path scope ≡ s
          → (if b then option_map (λ k. record { sequence = take scope path; number = k; value = t }) s else None) ≡ Some e → IsLet m x e
      by false q s r g = absurd (cc)
      by true q None r g = absurd (cc)
      by true q (Some k) r g =
          let same : record { sequence = take scope path; number = k; value = t } ≡ e = cc in
          let whole : take scope path ++ k ∷ [] ≡ path = last_step path scope k (eqb-true (length path) (suc scope) q) r in
          subst (IsLet m x) same (record { once = once; name = n; there = ap (part_in m.body) whole ∙ found })

  placed : (once : is_declared_once text_asked m x ≡ true) (p : Placed Text) → In (nodes m.body) p → option_and_then (let_at p) (assigned_scope m x p) ≡ Some e → IsLet m x e
  placed once (path, assign n t) there h =
      assigned_there once path n t (part_in-Contains m.body path (assign n t) (contains_in (nodes m.body) (path, assign n t) there)) (if text_eq x n then temporary_scope (local_in text_eq is_pseudo_variable m path n) else None) h
  placed once (path, var n) there h = absurd (cc)
  placed once (path, literal l) there h = absurd (cc)
  placed once (path, send r s xs) there h = absurd (cc)
  placed once (path, cascade r ms) there h = absurd (cc)
  placed once (path, block ps ts ss c) there h = absurd (cc)
  placed once (path, brace ts) there h = absurd (cc)
  placed once (path, return t) there h = absurd (cc)

  pub is_let : let_of text_asked m x ≡ Some e → IsLet m x e
  is_let h = by (is_declared_once text_asked m x) refl (only (filter (λ p. is_some (assigned_scope m x p)) (nodes m.body))) refl h
    where
      by : (b : Bool) → is_declared_once text_asked m x ≡ b → (o : Option (Placed Text)) → only (filter (λ p. is_some (assigned_scope m x p)) (nodes m.body)) ≡ o
          → (if b then option_and_then (λ p. option_and_then (let_at p) (assigned_scope m x p)) o else None) ≡ Some e → IsLet m x e
      by false q o r g = absurd (cc)
      by true q None r g = absurd (cc)
      by true q (Some p) r g = placed q p (filter_in (λ y. is_some (assigned_scope m x y)) (nodes m.body) p (only_in (filter (λ y. is_some (assigned_scope m x y)) (nodes m.body)) p r)).0 g
