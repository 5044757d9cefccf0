-- Events that assign only names that can be assigned.
use Rattle.std.proofs.Common.{◌≡◌, ℕ, Bool, true, false, ◌||◌, if◌then◌else◌, List, [], ◌∷◌, ◌++◌, Option, Some, None, refl, sym, ap, ◌∙◌}
use Rattle.std.specs.List.{list_any}
use Rattle.std.specs.Option.{option_or}
use Rattle.std.specs.Str.{bytes_eq}
use Rattle.std.proofs.lemmas.Bool.{or_parts}
use Rattle.std.proofs.lemmas.List.{append-nil}
use Rattle.std.proofs.lemmas.List.Folds.{list_any-append}
use Rattle.grammar_model.specs.Terminal.{Text}
use Rattle.grammar_model.specs.Words.{is_pseudo}
use Rattle.grammar_model.specs.Checks.{Known, known_of, is_fixed}
use Rattle.parse_events.specs.declared.event.Declaration.{Declaration}
use Rattle.parse_events.specs.declared.event.Event.{Event}
use Rattle.parse_events.specs.declared.event.Event.TheVariants as event
use Rattle.event_checks.specs.Lists.{declared, names_of}
use Rattle.event_checks.specs.Scopes.{Scoped, left, behind, assigned_at, first_fixed_in, known_as}
use Rattle.event_checks.specs.FixedNames.{parameters_at, parameters_in, assigns_at, assigns_in, is_target}

-- an event that is no assignment assigns nothing
no_target : (ks : List Known) (e : Event) → is_target e ≡ false → assigned_at ks e ≡ None
no_target ks (event.Target f n) none = cc
no_target ks e none = refl

-- events without an assignment assign nothing
pub no_targets : (s : Scoped) (es : List Event) → list_any is_target es ≡ false → first_fixed_in s es ≡ None
no_targets s [] none = refl
no_targets s (e ∷ es) none =
    let parts = or_parts (is_target e) (list_any is_target es) none in
    ap (λ (a : Option ℕ). option_or a (first_fixed_in (behind e s) es)) (no_target s.now e parts.0) ∙ no_targets (behind e s) es parts.1

-- a list without a name has it in neither part
in_neither : (n : Text) (first second : List Text) → list_any (bytes_eq n) (first ++ second) ≡ false → (list_any (bytes_eq n) first ≡ false) × (list_any (bytes_eq n) second ≡ false)
in_neither n first second e = or_parts (list_any (bytes_eq n) first) (list_any (bytes_eq n) second) (sym (list_any-append (bytes_eq n) first second) ∙ e)

-- a condition that tells nothing apart
either_false : (b : Bool) (x : Bool) → x ≡ false → (if b then false else x) ≡ false
either_false true x e = refl
either_false false x e = e

-- a temporary does not fix a name
free_temporaries : (ds : List Declaration) (ks : List Known) (n : Text) → is_fixed ks n ≡ false → is_fixed (known_as false (declared ds) ++ ks) n ≡ false
free_temporaries [] ks n e = e
free_temporaries (d ∷ ds) ks n e = either_false (bytes_eq n d.name) (is_fixed (known_as false (declared ds) ++ ks) n) (free_temporaries ds ks n e)

-- a list fixes the names of its parameters only
free_list : (ps ds : List Declaration) (ks : List Known) (n : Text) → list_any (bytes_eq n) (names_of ps) ≡ false → is_fixed ks n ≡ false → is_fixed (known_of (declared ps) (declared ds) ++ ks) n ≡ false
free_list [] ds ks n none e = free_temporaries ds ks n e
free_list (p ∷ ps) ds ks n none e =
    let parts = or_parts (bytes_eq n p.name) (list_any (bytes_eq n) (names_of ps)) none in
    let rest : List Known = known_of (declared ps) (declared ds) ++ ks in
    ap (λ (b : Bool). if b then true else is_fixed rest n) parts.0 ∙ free_list ps ds ks n parts.1 e

-- only some names are fixed
abbrev FixedBy : List Text → List Known → Type 0
FixedBy names ks = (n : Text) → list_any (bytes_eq n) names ≡ false → is_fixed ks n ≡ false

-- the same in each scope
abbrev AllFixedBy : List Text → List (List Known) → Type 0
AllFixedBy names [] = Unit {0}
AllFixedBy names (ks ∷ outer) = FixedBy names ks × AllFixedBy names outer

-- some names are all that others are
abbrev Among : List Text → List Text → Type 0
Among names others = (n : Text) → list_any (bytes_eq n) names ≡ false → list_any (bytes_eq n) others ≡ false

-- behind a scope
fixed_left : (names : List Text) (outer : List (List Known)) → AllFixedBy names outer → FixedBy names (left outer).now × AllFixedBy names (left outer).outer
fixed_left names [] h = (λ n free. refl, tt)
fixed_left names (ks ∷ outer) h = h

-- behind an event
fixed_behind : (names : List Text) (e : Event) (s : Scoped) → Among names (parameters_at e) → FixedBy names s.now → AllFixedBy names s.outer → FixedBy names (behind e s).now × AllFixedBy names (behind e s).outer
fixed_behind names (event.Enter ps ds) s among now outer = (λ n free. free_list ps ds s.now n (among n free) (now n free), (now, outer))
fixed_behind names (event.Block f e n c) s among now outer = fixed_left names s.outer outer
fixed_behind names e s among now outer = (now, outer)

-- an event that assigns none of the names that are fixed
none_assigned_at : (names : List Text) (ks : List Known) (e : Event) → FixedBy names ks → assigns_at names e ≡ false → assigned_at ks e ≡ None
none_assigned_at names ks (event.Target f n) now none =
    let parts = or_parts (is_pseudo n) (list_any (bytes_eq n) names) none in
    let free : is_fixed ks n ≡ false = now n parts.1 in
    λ i. if parts.0 i || free i then Some f else None
none_assigned_at names ks e now none = refl

-- events that assign none of them
none_assigned_in : (names : List Text) (s : Scoped) (es : List Event) → Among names (parameters_in es) → FixedBy names s.now → AllFixedBy names s.outer → assigns_in names es ≡ false → first_fixed_in s es ≡ None
none_assigned_in names s [] among now outer none = refl
none_assigned_in names s (e ∷ es) among now outer none =
    let parts = or_parts (assigns_at names e) (assigns_in names es) none in
    let inner = fixed_behind names e s (λ n free. (in_neither n (parameters_at e) (parameters_in es) (among n free)).0) now outer in
    ap (λ (a : Option ℕ). option_or a (first_fixed_in (behind e s) es)) (none_assigned_at names s.now e now parts.0) ∙
    none_assigned_in names (behind e s) es (λ n free. (in_neither n (parameters_at e) (parameters_in es) (among n free)).1) inner.0 inner.1 parts.1

-- events that assign none of the arguments and parameters
pub none_assigned : (names : List Text) (ps ds : List Declaration) (es : List Event) → names ≡ names_of ps ++ parameters_in es → assigns_in names es ≡ false →
    first_fixed_in (record { now = known_of (declared ps) (declared ds); outer = [] }) es ≡ None
none_assigned names ps ds es is none =
    let parts : (n : Text) → list_any (bytes_eq n) names ≡ false → (list_any (bytes_eq n) (names_of ps) ≡ false) × (list_any (bytes_eq n) (parameters_in es) ≡ false) =
    λ n free. in_neither n (names_of ps) (parameters_in es) (ap (list_any (bytes_eq n)) (sym is) ∙ free) in
    none_assigned_in names (record { now = known_of (declared ps) (declared ds); outer = [] }) es (λ n free. (parts n free).1)
    (λ n free. ap (λ (ks : List Known). is_fixed ks n) (sym (append-nil (known_of (declared ps) (declared ds)))) ∙ free_list ps ds [] n (parts n free).0 refl)
    tt none
