-- The scopes round a place to which a path leads on from another one.
use Rattle.std.proofs.Common.{◌≡◌, ℕ, ◌+◌, List, [], ◌∷◌, ◌++◌, length, Option, Some, None, sym, ap, ◌∙◌, arith, append_assoc}
use Rattle.std.specs.Prelude.{option_map, option_and_then, unwrap_or}
use Rattle.std.proofs.lemmas.List.{append-nil}
use Rattle.tree_model.specs.Tree.{TreeOf, MethodOf}
use Rattle.tree_model.specs.Path.{nth, statement_trees, child, part_at, part_in}
use Rattle.scope_model.specs.Scope.{method_scope, own_scope, entered, scopes_round}
use Rattle.run_model.specs.Values.{Name}
use Rattle.resolved_model.proofs.ResolvingLemmas.{meant_by, IsInScopes}
use Rattle.resolved_model.specs.Resolving.{MeantAt}
use Rattle.unfolded_calls.proofs.Running.{none-some}
use Rattle.code_command_laws.proofs.PutBackRun.{part_in-append}
use Rattle.moved_code_laws.proofs.Saying.{alone, within}

-- the part to which a path leads on
pub part-in-on : (m : MethodOf Name) (path q : List ℕ) (u w : TreeOf Name) → part_in m.body path ≡ Some u → part_at u q ≡ Some w → part_in m.body (path ++ q) ≡ Some w
part-in-on m [] q u w e h = none-some e
part-in-on m (k ∷ ks) q u w e h = part_in-append m.body k ks q ∙ ap (option_and_then (λ c. part_at c q)) e ∙ h

-- the blocks that a path enters on
pub entered-on : (path q : List ℕ) (d : ℕ) (t u : TreeOf Name) → part_at t path ≡ Some u → entered d t (path ++ q) ≡ entered (d + length path) u q ++ entered d t path
entered-on [] q d t u e =
    let same : t ≡ u = cc in
    let none : d ≡ d + 0 = omega arith in
    (λ k. entered (none k) (same k) q) ∙ sym (append-nil (entered (d + 0) u q))
entered-on (k ∷ ks) q d t u e = by (child t k) e (λ c f. entered-on ks q (d + 1) c u f)
  where
    next : d + 1 + length ks ≡ d + length (k ∷ ks)
    next = omega arith

    by : (o : Option (TreeOf Name)) → option_and_then (λ c. part_at c ks) o ≡ Some u → ((c : TreeOf Name) → part_at c ks ≡ Some u → entered (d + 1) c (ks ++ q) ≡ entered (d + 1 + length ks) u q ++ entered (d + 1) c ks) →
        unwrap_or (option_map (λ c. entered (d + 1) c (ks ++ q)) o) [] ++ own_scope d t ≡ entered (d + length (k ∷ ks)) u q ++ (unwrap_or (option_map (λ c. entered (d + 1) c ks) o) [] ++ own_scope d t)
    by None e ih = none-some e
    by (Some c) e ih = ap (λ l. l ++ own_scope d t) (ih c e ∙ ap (λ n. entered n u q ++ entered (d + 1) c ks) next) ∙ append_assoc (entered (d + length (k ∷ ks)) u q) (entered (d + 1) c ks) (own_scope d t)

-- the scopes round the place where it leads
pub scopes-on : (m : MethodOf Name) (path q : List ℕ) (u : TreeOf Name) → part_in m.body path ≡ Some u → scopes_round (method_scope m) (path ++ q) ≡ entered (length path) u q ++ scopes_round (method_scope m) path
scopes-on m [] q u e = none-some e
scopes-on m (k ∷ ks) q u e = by (nth (statement_trees m.body.statements) k) e
  where
    next : 1 + length ks ≡ length (k ∷ ks)
    next = omega arith

    by : (o : Option (TreeOf Name)) → option_and_then (λ c. part_at c ks) o ≡ Some u →
        unwrap_or (option_map (λ c. entered 1 c (ks ++ q)) o) [] ++ (0, method_scope m) ∷ [] ≡ entered (length (k ∷ ks)) u q ++ (unwrap_or (option_map (λ c. entered 1 c ks) o) [] ++ (0, method_scope m) ∷ [])
    by None e = none-some e
    by (Some c) e =
        ap (λ l. l ++ (0, method_scope m) ∷ []) (entered-on ks q 1 c u e ∙ ap (λ n. entered n u q ++ entered 1 c ks) next)
        ∙ append_assoc (entered (length (k ∷ ks)) u q) (entered 1 c ks) ((0, method_scope m) ∷ [])

-- what names stand for below a node of a method
abbrev pub on_from : List ℕ → MeantAt → MeantAt
on_from path at q n = at (path ++ q) n

pub in-part : (m : MethodOf Name) (path : List ℕ) (u : TreeOf Name) → part_in m.body path ≡ Some u → IsInScopes alone (length path) u (scopes_round (method_scope m) path) (on_from path (within m))
in-part m path u e q n = ap (λ ps. meant_by alone ps n) (scopes-on m path q u e)
