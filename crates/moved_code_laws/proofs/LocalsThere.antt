-- What is declared round a place, and what a name stands for inside further scopes.
use Rattle.std.proofs.Common.{◌≡◌, ◌≤◌, ℕ, ◌+◌, List, [], ◌∷◌, ◌++◌, Option, Some, None, refl, sym, ap, ◌∙◌, append_assoc, arith}
use Rattle.std.specs.Prelude.{Bool, true, false, if◌then◌else◌, option_map, option_and_then, unwrap_or, ◌==◌}
use Rattle.std.specs.List.{AllByRecursion}
use Rattle.std.proofs.lemmas.Bool.Decides.{nat_tests}
use Rattle.rb_base.specs.Names.{text_eq}
use Rattle.tree_model.specs.Tree.{TreeOf, var, literal, send, cascade, assign, block, brace, return, MethodOf}
use Rattle.tree_model.specs.Path.{nth, statement_trees, child, part_at, part_in}
use Rattle.scope_model.specs.declared.local.Local.{Local}
use Rattle.scope_model.specs.declared.local.Local.TheVariants.{Argument, Temporary, NotLocal}
use Rattle.scope_model.specs.Scope.{PlacedScope, method_scope, own_scope, entered, scopes_round, is_among, local_by}
use Rattle.run_model.specs.Values.{Name}
use Rattle.resolved_model.specs.Environments.{kind_in, declared_in, opened}
use Rattle.resolved_model.proofs.Environments.{kind_of, kind-scopes}
use Rattle.unfolded_calls.proofs.Running.{none-some}
use Rattle.unfolded_places.specs.PartsReplaced.{declared_inside, declared_round, declared_among}

-- what is declared inside a node
inside-scopes : (d : ℕ) (t : TreeOf Name) (ps : List (PlacedScope Name)) → declared_inside (declared_in ps) t ≡ declared_in (own_scope d t ++ ps)
inside-scopes d (var n) ps = refl
inside-scopes d (literal l) ps = refl
inside-scopes d (send r s args) ps = refl
inside-scopes d (cascade r ms) ps = refl
inside-scopes d (assign n t) ps = refl
inside-scopes d (block qs ts ss e) ps = refl
inside-scopes d (brace ts) ps = refl
inside-scopes d (return t) ps = refl

-- what is declared round a node below another one
round-scopes : (path : List ℕ) (d : ℕ) (t u : TreeOf Name) (ps : List (PlacedScope Name)) → part_at t path ≡ Some u → declared_round (declared_in ps) t path ≡ declared_in (entered d t path ++ ps)
round-scopes [] d t u ps e = refl
round-scopes (k ∷ ks) d t u ps e = by (child t k) e (λ c q. round-scopes ks (d + 1) c u (own_scope d t ++ ps) q)
  where
    by : (o : Option (TreeOf Name)) → option_and_then (λ c. part_at c ks) o ≡ Some u →
        ((c : TreeOf Name) → part_at c ks ≡ Some u → declared_round (declared_in (own_scope d t ++ ps)) c ks ≡ declared_in (entered (d + 1) c ks ++ (own_scope d t ++ ps))) →
        unwrap_or (option_map (λ c. declared_round (declared_inside (declared_in ps) t) c ks) o) (declared_in ps) ≡ declared_in ((unwrap_or (option_map (λ c. entered (d + 1) c ks) o) [] ++ own_scope d t) ++ ps)
    by None e ih = none-some e
    by (Some c) e ih = ap (λ A. declared_round A c ks) (inside-scopes d t ps) ∙ ih c e ∙ ap declared_in (sym (append_assoc (entered (d + 1) c ks) (own_scope d t) ps))

-- what is declared round a place of a method is what the scopes round it declare
pub among-scopes : (m : MethodOf Name) (path : List ℕ) (u : TreeOf Name) → part_in m.body path ≡ Some u → declared_among (opened m.arguments m.body.temporaries []) m.body.statements path ≡ declared_in (scopes_round (method_scope m) path)
among-scopes m [] u e = none-some e
among-scopes m (k ∷ ks) u e = by (nth (statement_trees m.body.statements) k) e
  where
    by : (o : Option (TreeOf Name)) → option_and_then (λ c. part_at c ks) o ≡ Some u →
        unwrap_or (option_map (λ c. declared_round (opened m.arguments m.body.temporaries []) c ks) o) (opened m.arguments m.body.temporaries []) ≡ declared_in (unwrap_or (option_map (λ c. entered 1 c ks) o) [] ++ (0, method_scope m) ∷ [])
    by None e = none-some e
    by (Some c) e = round-scopes ks 1 c u ((0, method_scope m) ∷ []) e

-- what the first of two says, or else the second
abbrev pub or_local : Local → Local → Local
or_local (Argument scope) l = Argument scope
or_local (Temporary scope) l = Temporary scope
or_local NotLocal l = l

-- scopes inside others come first
pub local-inside : (inner ps : List (PlacedScope Name)) (n : Name) → local_by text_eq (inner ++ ps) n ≡ or_local (local_by text_eq inner n) (local_by text_eq ps n)
local-inside [] ps n = refl
local-inside (p ∷ inner) ps n = by (is_among text_eq p.1.arguments n) (is_among text_eq p.1.temporaries n) (local-inside inner ps n)
  where
    by : (b c : Bool) → local_by text_eq (inner ++ ps) n ≡ or_local (local_by text_eq inner n) (local_by text_eq ps n) →
        (if b then Argument p.0 else if c then Temporary p.0 else local_by text_eq (inner ++ ps) n) ≡ or_local (if b then Argument p.0 else if c then Temporary p.0 else local_by text_eq inner n) (local_by text_eq ps n)
    by true c ih = refl
    by false true ih = refl
    by false false ih = ih

-- a number that is one at least
pub not-zero : (k : ℕ) → 1 ≤ k → (k == 0) ≡ false
not-zero k h = grind (arith, nat_tests)

-- so many steps at least lead to a scope
abbrev pub IsDeep : ℕ → PlacedScope Name → Type 0
IsDeep k p = k ≤ p.0

-- and to where a local is declared
abbrev pub IsOfDeep : ℕ → Local → Type 0
IsOfDeep k (Argument scope) = k ≤ scope
IsOfDeep k (Temporary scope) = k ≤ scope
IsOfDeep k NotLocal = Unit {0}

pub local-deep : (k : ℕ) (inner : List (PlacedScope Name)) (n : Name) → AllByRecursion (IsDeep k) inner → IsOfDeep k (local_by text_eq inner n)
local-deep k [] n a = tt
local-deep k (p ∷ inner) n a = by (is_among text_eq p.1.arguments n) (is_among text_eq p.1.temporaries n) (local-deep k inner n a.1)
  where
    by : (b c : Bool) → IsOfDeep k (local_by text_eq inner n) → IsOfDeep k (if b then Argument p.0 else if c then Temporary p.0 else local_by text_eq inner n)
    by true c ih = a.0
    by false true ih = a.0
    by false false ih = ih

-- what is declared nowhere is no local
pub no-local : (l : Local) → kind_of l ≡ None → l ≡ NotLocal
no-local (Argument scope) e = absurd (cc)
no-local (Temporary scope) e = absurd (cc)
no-local NotLocal e = refl

pub undeclared-outer : (inner ps : List (PlacedScope Name)) (n : Name) → kind_in (declared_in inner) n ≡ None → local_by text_eq (inner ++ ps) n ≡ local_by text_eq ps n
undeclared-outer inner ps n e = local-inside inner ps n ∙ ap (λ l. or_local l (local_by text_eq ps n)) (no-local (local_by text_eq inner n) (sym (kind-scopes inner n) ∙ e))
