-- Changes of trees that leave alone what blocks declare: names stand for the same locals before and after.
use Rattle.std.proofs.Common.{◌≡◌, ℕ, ◌+◌, List, [], ◌∷◌, ◌++◌, Option, Some, None, refl, sym, ap, ◌∙◌}
use Rattle.std.specs.Prelude.{map, option_map, unwrap_or, if◌then◌else◌}
use Rattle.std.specs.List.{position_or_len}
use Rattle.std.proofs.lemmas.List.{map-append}
use Rattle.rb_base.specs.Names.{text_eq}
use Rattle.tree_model.specs.Tree.{TreeOf, no_statements}
use Rattle.tree_model.specs.Path.{nth, child, statement_trees}
use Rattle.scope_model.specs.declared.local.Local.TheVariants.{Argument, Temporary}
use Rattle.scope_model.specs.Scope.{ScopeOf, PlacedScope, own_scope, entered, scopes_round, is_among, local_by}
use Rattle.run_model.specs.Values.{Name}
use Rattle.resolved_model.specs.Resolving.{declared_by, place_at}

-- what a scope declares, and where
abbrev pub declarations : PlacedScope Name → PlacedScope Name
declarations p = (p.0, record p.1 { statements = no_statements })

-- what scopes say of a name, by what they declare
local-declared : (ps : List (PlacedScope Name)) (n : Name) → local_by text_eq (map declarations ps) n ≡ local_by text_eq ps n
local-declared [] n = refl
local-declared (p ∷ ps) n =
    ap (λ l. if is_among text_eq p.1.arguments n then Argument p.0 else if is_among text_eq p.1.temporaries n then Temporary p.0 else l) (local-declared ps n)

-- the names that scopes declare, by what they declare
names-declared : (ps : List (PlacedScope Name)) → declared_by (map declarations ps) ≡ declared_by ps
names-declared [] = refl
names-declared (p ∷ ps) = ap (λ ns. (p.1.arguments ++ p.1.temporaries) ++ ns) (names-declared ps)

-- scopes that declare the same say the same of a name
pub same-local : (ps qs : List (PlacedScope Name)) (n : Name) → map declarations ps ≡ map declarations qs → local_by text_eq ps n ≡ local_by text_eq qs n
same-local ps qs n e = sym (local-declared ps n) ∙ ap (λ x. local_by text_eq x n) e ∙ local-declared qs n

-- and a name has the same place in them
pub same-place : (s t : ScopeOf Name) (path : List ℕ) (n : Name) → map declarations (scopes_round s path) ≡ map declarations (scopes_round t path) → place_at s path n ≡ place_at t path n
same-place s t path n e =
    ap (position_or_len (text_eq n)) (sym (names-declared (scopes_round s path)) ∙ ap declared_by e ∙ names-declared (scopes_round t path))

-- a change of nodes: `go` changes a node, and each step below it leads to the node there, changed as `next` says; blocks declare what they declared
module _ {X : Type 0} (go : X → TreeOf Name → TreeOf Name) (next : X → ℕ → X)
    (steps : (x : X) (t : TreeOf Name) (k : ℕ) → child (go x t) k ≡ option_map (go (next x k)) (child t k))
    (blocks : (x : X) (d : ℕ) (t : TreeOf Name) → map declarations (own_scope d (go x t)) ≡ map declarations (own_scope d t)) where
  -- what the blocks declare on from a step, if it leads somewhere
  after-step : (x : X) (went came : TreeOf Name → List (PlacedScope Name)) → ((c : TreeOf Name) → map declarations (went (go x c)) ≡ map declarations (came c)) → (o : Option (TreeOf Name)) →
      map declarations (unwrap_or (option_map went (option_map (go x) o)) []) ≡ map declarations (unwrap_or (option_map came o) [])
  after-step x went came h None = refl
  after-step x went came h (Some c) = h c

  -- what the blocks declare that a path enters
  entered-same : (path : List ℕ) (x : X) (d : ℕ) (t : TreeOf Name) → map declarations (entered d (go x t) path) ≡ map declarations (entered d t path)
  entered-same [] x d t = refl
  entered-same (k ∷ ks) x d t =
      ap (λ o. map declarations (unwrap_or (option_map (λ c. entered (d + 1) c ks) o) [] ++ own_scope d (go x t))) (steps x t k)
      ∙ map-append declarations (unwrap_or (option_map (λ c. entered (d + 1) c ks) (option_map (go (next x k)) (child t k))) []) (own_scope d (go x t))
      ∙ (λ i. after-step (next x k) (λ c. entered (d + 1) c ks) (λ c. entered (d + 1) c ks) (λ c. entered-same ks (next x k) (d + 1) c) (child t k) i ++ blocks x d t i)
      ∙ sym (map-append declarations (unwrap_or (option_map (λ c. entered (d + 1) c ks) (child t k)) []) (own_scope d t))

  -- what the scopes round a place declare, where the statements of a scope are changed
  pub round-same : (first : ℕ → X) (s after : ScopeOf Name) → declarations (0, after) ≡ declarations (0, s) →
      ((k : ℕ) → nth (statement_trees after.statements) k ≡ option_map (go (first k)) (nth (statement_trees s.statements) k)) →
      (path : List ℕ) → map declarations (scopes_round after path) ≡ map declarations (scopes_round s path)
  round-same first s after own h [] = ap (λ p. p ∷ []) own
  round-same first s after own h (k ∷ ks) =
      ap (λ o. map declarations (unwrap_or (option_map (λ c. entered 1 c ks) o) [] ++ (0, after) ∷ [])) (h k)
      ∙ map-append declarations (unwrap_or (option_map (λ c. entered 1 c ks) (option_map (go (first k)) (nth (statement_trees s.statements) k))) []) ((0, after) ∷ [])
      ∙ (λ i. after-step (first k) (λ c. entered 1 c ks) (λ c. entered 1 c ks) (λ c. entered-same ks (first k) 1 c) (nth (statement_trees s.statements) k) i ++ own i ∷ [])
      ∙ sym (map-append declarations (unwrap_or (option_map (λ c. entered 1 c ks) (nth (statement_trees s.statements) k)) []) ((0, s) ∷ []))
