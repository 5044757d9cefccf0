-- Changes of a table of names, and what undoes them.
use Rattle.std.proofs.Common.{◌≡◌, ℕ, Bool, true, false, cond, if◌then◌else◌, List, [], ◌∷◌, ◌++◌, reverse, Option, Some, refl, sym, ap, subst, ◌∙◌, true≢false}
use Rattle.std.specs.Prelude.{Vec, unwrap_or}
use Rattle.std.specs.Map.{lookup}
use Rattle.std.specs.Str.{bytes_eq}
use Rattle.std.specs.declared.alloc.Global.{Global}
use Rattle.std.proofs.lemmas.List.{reverse-append}
use Rattle.std.proofs.lemmas.Slice.Eq.{bytes_eq-Decides}
use Rattle.indexmap.specs.IndexMap.{insert_entry}
use Rattle.grammar_model.specs.Terminal.{Text}
use Rattle.grammar_model.specs.Checks.{Known, is_fixed}
use Rattle.event_checks.specs.declared.scopes.Change.{Change}
use Rattle.event_checks.specs.declared.scopes.Change.TheVariants.{Entered, Declared as Changed}
use Rattle.event_checks.specs.declared.scopes.Scopes.{Scopes}
use Rattle.event_checks.specs.Scopes.{left, fixed_at, FixedTable, changed, Restores, IsScopes}

-- a key of the table
abbrev pub Key : Type 0
Key = Vec ℕ Global

-- two keys have the same bytes
abbrev pub same_key : Key → Key → Bool
same_key x y = bytes_eq x.items y.items

-- what a name has where two keys with the same bytes stand for it
found_first : (b : Bool) (v w : Bool) (o : Option Bool) → cond b (Some v) o ≡ cond b (Some v) (cond b (Some w) o)
found_first true v w o = refl
found_first false v w o = refl

-- what a name has where two keys differ
found_other : (b d : Bool) (v w : Bool) (o : Option Bool) → (b ≡ true → d ≡ true → ⊥) → cond d (Some w) (cond b (Some v) o) ≡ cond b (Some v) (cond d (Some w) o)
found_other true true v w o apart = absurd (apart refl refl)
found_other true false v w o apart = refl
found_other false true v w o apart = refl
found_other false false v w o apart = refl

-- what a name has behind an insert
found_inserted : (n : Text) (k : Key) (v : Bool) (es : List (Key × Bool)) →
    lookup (λ x. bytes_eq n x.items) (insert_entry same_key es k v) ≡ cond (bytes_eq n k.items) (Some v) (lookup (λ x. bytes_eq n x.items) es)
found_inserted n k v [] = refl
found_inserted n k v (e ∷ es) = by (same_key k e.0) refl (found_inserted n k v es)
  where
    found : List (Key × Bool) → Option Bool
    found = lookup (λ x. bytes_eq n x.items)

    by : (b : Bool) → same_key k e.0 ≡ b → lookup (λ x. bytes_eq n x.items) (insert_entry same_key es k v) ≡ cond (bytes_eq n k.items) (Some v) (lookup (λ x. bytes_eq n x.items) es) →
        lookup (λ x. bytes_eq n x.items) (if b then (e.0, v) ∷ es else e ∷ insert_entry same_key es k v) ≡ cond (bytes_eq n k.items) (Some v) (lookup (λ x. bytes_eq n x.items) (e ∷ es))
    by true q more =
        let same : k.items ≡ e.0.items = (bytes_eq-Decides k.items e.0.items).0 q in
        let here : bytes_eq n k.items ≡ bytes_eq n e.0.items = ap (bytes_eq n) same in
        let rest : Option Bool = lookup (λ x. bytes_eq n x.items) es in
        found_first (bytes_eq n e.0.items) v e.1 rest ∙ ap (λ (b : Bool). cond b (Some v) (cond (bytes_eq n e.0.items) (Some e.1) rest)) (sym here)
    by false q more =
        let rest : Option Bool = lookup (λ x. bytes_eq n x.items) es in
        let apart : bytes_eq n k.items ≡ true → bytes_eq n e.0.items ≡ true → ⊥ = λ a b.
        true≢false (sym ((bytes_eq-Decides k.items e.0.items).1 (sym ((bytes_eq-Decides n k.items).0 a) ∙ (bytes_eq-Decides n e.0.items).0 b)) ∙ q) in
        ap (λ (o : Option Bool). cond (bytes_eq n e.0.items) (Some e.1) o) more ∙ found_other (bytes_eq n k.items) (bytes_eq n e.0.items) v e.1 rest apart

-- whether a choice is fixed
choose : (b v : Bool) (o : Option Bool) → unwrap_or (cond b (Some v) o) false ≡ if b then v else unwrap_or o false
choose true v o = refl
choose false v o = refl

-- which names are fixed behind an insert
pub fixed_after : (old new : FixedTable) (key : Key) (t : Text) (v : Bool) → key.items ≡ t → new.entries ≡ insert_entry same_key old.entries key v →
    (n : Text) → fixed_at new n ≡ if bytes_eq n t then v else fixed_at old n
fixed_after old new key t v same e n =
    ap (λ (es : List (Key × Bool)). unwrap_or (lookup (λ x. bytes_eq n x.items) es) false) e ∙
    ap (λ (o : Option Bool). unwrap_or o false) (found_inserted n key v old.entries) ∙
    choose (bytes_eq n key.items) v (lookup (λ x. bytes_eq n x.items) old.entries) ∙
    ap (λ (u : Text). if bytes_eq n u then v else fixed_at old n) same

-- tables that have the same names as fixed are restored alike
pub restores_same : (cs : List Change) (f g : Text → Bool) (outer : List (List Known)) → ((n : Text) → f n ≡ g n) → Restores cs f outer → Restores cs g outer
restores_same [] f g [] same r = λ n. sym (same n) ∙ r n
restores_same [] f g (ks ∷ outer) same r = absurd r
restores_same (Entered ∷ cs) f g [] same r = absurd r
restores_same (Entered ∷ cs) f g (ks ∷ outer) same r = (λ n. sym (same n) ∙ r.0 n, restores_same cs f g outer same r.1)
restores_same (Changed name b ∷ cs) f g outer same r =
    restores_same cs (changed f name.items b) (changed g name.items b) outer (λ n. ap (λ (x : Bool). if bytes_eq n name.items then b else x) (same n)) r

-- a change that is undone
undone : (f g : Text → Bool) (k : Text) (now before : Bool) → before ≡ f k → ((n : Text) → g n ≡ if bytes_eq n k then now else f n) → (n : Text) → f n ≡ changed g k before n
undone f g k now before was after n = by (bytes_eq n k) refl
  where
    by : (b : Bool) → bytes_eq n k ≡ b → f n ≡ if b then before else g n
    by true q = ap f ((bytes_eq-Decides n k).0 q) ∙ sym was
    by false q = sym (after n ∙ ap (λ (b : Bool). if b then now else f n) q)

-- a name is declared
pub declares : (old new : Scopes) (name : Key) (k : Text) (now before : Bool) (ks : List Known) (outer : List (List Known)) →
    name.items ≡ k → before ≡ fixed_at old.fixed k → ((n : Text) → fixed_at new.fixed n ≡ if bytes_eq n k then now else fixed_at old.fixed n) →
    new.changes.items ≡ old.changes.items ++ Changed name before ∷ [] → IsScopes old ks outer → IsScopes new (record { name = k; fixed = now } ∷ ks) outer
declares old new name k now before ks outer same was after more s = record {
  now = λ n. after n ∙ ap (λ (x : Bool). if bytes_eq n k then now else x) (s.now n);
  before = subst (λ (cs : List Change). Restores cs (fixed_at new.fixed) outer) (sym (ap reverse more ∙ reverse-append old.changes.items (Changed name before ∷ [])))
      (subst (λ (t : Text). Restores (reverse old.changes.items) (changed (fixed_at new.fixed) t before) outer) (sym same)
      (restores_same (reverse old.changes.items) (fixed_at old.fixed) (changed (fixed_at new.fixed) k before) outer (undone (fixed_at old.fixed) (fixed_at new.fixed) k now before was after) s.before));
}

-- a scope is entered
pub enters : (old new : Scopes) (ks : List Known) (outer : List (List Known)) → new.fixed ≡ old.fixed → new.changes.items ≡ old.changes.items ++ Entered ∷ [] → IsScopes old ks outer → IsScopes new ks (ks ∷ outer)
enters old new ks outer same more s =
    let t = subst (λ (f : FixedTable). (n : Text) → fixed_at f n ≡ is_fixed ks n) (sym same) s.now in
    record {
      now = t;
      before = subst (λ (cs : List Change). Restores cs (fixed_at new.fixed) (ks ∷ outer)) (sym (ap reverse more ∙ reverse-append old.changes.items (Entered ∷ [])))
          (t, subst (λ (f : FixedTable). Restores (reverse old.changes.items) (fixed_at f) outer) (sym same) s.before);
    }

-- what is restored before the last change
pub restores_last : (all some : List Change) (change : Change) (f : Text → Bool) (outer : List (List Known)) → all ≡ some ++ change ∷ [] → Restores (reverse all) f outer → Restores (change ∷ reverse some) f outer
restores_last all some change f outer e r = subst (λ (cs : List Change). Restores cs f outer) (ap reverse e ∙ reverse-append some (change ∷ [])) r

-- a scope is left where it was entered
pub leaves : (s : Scopes) (outer : List (List Known)) → Restores (Entered ∷ reverse s.changes.items) (fixed_at s.fixed) outer → IsScopes s (left outer).now (left outer).outer
leaves s [] r = absurd r
leaves s (ks ∷ outer) r = record { now = r.0; before = r.1 }

-- nothing is left
pub leaves_none : (s : Scopes) (outer : List (List Known)) → s.changes.items ≡ [] → Restores [] (fixed_at s.fixed) outer → IsScopes s (left outer).now (left outer).outer
leaves_none s [] none r = record { now = r; before = subst (λ (cs : List Change). Restores (reverse cs) (fixed_at s.fixed) []) (sym none) r }
leaves_none s (ks ∷ outer) none r = absurd r
