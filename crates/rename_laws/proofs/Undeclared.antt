-- A name that no scope declares is no local.
use Rattle.std.proofs.Common.{◌≡◌, ℕ, ◌+◌, List, [], ◌∷◌, Option, Some, None, refl, ap, ◌∙◌}
use Rattle.std.specs.Prelude.{false, if◌then◌else◌, option_and_then, option_map, unwrap_or}
use Rattle.std.specs.List.{AllByRecursion, list_any}
use Rattle.rb_base.specs.Names.{text_eq}
use Rattle.tree_model.specs.Tree.{TreeOf, var, literal, send, cascade, assign, block, brace, return}
use Rattle.tree_model.specs.Path.{nth, part_at, part_among, statement_trees, child}
use Rattle.scope_model.specs.declared.local.Local.TheVariants.{Argument, Temporary, NotLocal}
use Rattle.scope_model.specs.Scope.{ScopeOf, PlacedScope, own_scope, entered, scopes_round, is_among, local_by}
use Rattle.scope_model.proofs.ListsOfNames.{AllByRecursion-append}
use Rattle.run_model.specs.Values.{Name}
use Rattle.run_model.proofs.Finite.{any-left, any-right}
use Rattle.rename_model.specs.NamesThere.{declared_by}

module _ (d : Name) where
  -- a scope does not declare the name
  abbrev Lacks : PlacedScope Name → Type 0
  Lacks p = (is_among text_eq p.1.arguments d ≡ false) × (is_among text_eq p.1.temporaries d ≡ false)

  -- a node does not
  abbrev pub Undeclared : TreeOf Name → Type 0
  Undeclared u = list_any (text_eq d) (declared_by u) ≡ false

  -- the block that a node is
  own-lacks : (depth : ℕ) (t : TreeOf Name) → Undeclared t → AllByRecursion Lacks (own_scope depth t)
  own-lacks depth (var n) h = tt
  own-lacks depth (literal l) h = tt
  own-lacks depth (send r s args) h = tt
  own-lacks depth (cascade r ms) h = tt
  own-lacks depth (assign n t) h = tt
  own-lacks depth (block ps ts ss e) h = ((any-left (text_eq d) ps ts h, any-right (text_eq d) ps ts h), tt)
  own-lacks depth (brace ts) h = tt
  own-lacks depth (return t) h = tt

  -- the blocks on from a node that there may be
  from-lacks : (depth : ℕ) (ks : List ℕ) (o : Option (TreeOf Name)) → ((c : TreeOf Name) → o ≡ Some c → AllByRecursion Lacks (entered depth c ks)) → AllByRecursion Lacks (unwrap_or (option_map (λ c. entered depth c ks) o) [])
  from-lacks depth ks None h = tt
  from-lacks depth ks (Some c) h = h c refl

  -- the blocks that a path enters
  entered-lacks : (path : List ℕ) (depth : ℕ) (t : TreeOf Name) → ((p : List ℕ) (u : TreeOf Name) → part_at t p ≡ Some u → Undeclared u) → AllByRecursion Lacks (entered depth t path)
  entered-lacks [] depth t h = tt
  entered-lacks (k ∷ ks) depth t h =
      AllByRecursion-append Lacks (unwrap_or (option_map (λ c. entered (depth + 1) c ks) (child t k)) []) (own_scope depth t)
      (from-lacks (depth + 1) ks (child t k) (λ c e. entered-lacks ks (depth + 1) c (λ p u q. h (k ∷ p) u (ap (option_and_then (λ x. part_at x p)) e ∙ q))))
      (own-lacks depth t (h [] t refl))

  -- the scopes round the end of a path
  round-lacks : (s : ScopeOf Name) → is_among text_eq s.arguments d ≡ false → is_among text_eq s.temporaries d ≡ false → ((p : List ℕ) (u : TreeOf Name) → part_among (statement_trees s.statements) p ≡ Some u → Undeclared u) → (path : List ℕ) → AllByRecursion Lacks (scopes_round s path)
  round-lacks s a t h [] = ((a, t), tt)
  round-lacks s a t h (k ∷ ks) =
      AllByRecursion-append Lacks (unwrap_or (option_map (λ c. entered 1 c ks) (nth (statement_trees s.statements) k)) []) ((0, s) ∷ [])
      (from-lacks 1 ks (nth (statement_trees s.statements) k) (λ c e. entered-lacks ks 1 c (λ p u q. h (k ∷ p) u (ap (option_and_then (λ x. part_at x p)) e ∙ q))))
      ((a, t), tt)

  -- such scopes say nothing of it
  lacks-local : (ps : List (PlacedScope Name)) → AllByRecursion Lacks ps → local_by text_eq ps d ≡ NotLocal
  lacks-local [] h = refl
  lacks-local (p ∷ ps) h =
      (λ i. if h.0.0 i then Argument p.0 else if h.0.1 i then Temporary p.0 else local_by text_eq ps d) ∙ lacks-local ps h.1

  -- so the name is no local
  pub no-local : (s : ScopeOf Name) → is_among text_eq s.arguments d ≡ false → is_among text_eq s.temporaries d ≡ false → ((p : List ℕ) (u : TreeOf Name) → part_among (statement_trees s.statements) p ≡ Some u → Undeclared u) → (path : List ℕ) → local_by text_eq (scopes_round s path) d ≡ NotLocal
  no-local s a t h path = lacks-local (scopes_round s path) (round-lacks s a t h path)
