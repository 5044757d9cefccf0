-- What the known names of the grammar say of a name, and what the scopes round a place say of it.
use Rattle.std.proofs.Common.{◌≡◌, ℕ, List, [], ◌∷◌, ◌++◌, refl, sym, ap, ◌∙◌}
use Rattle.std.specs.Prelude.{Bool, true, false, ◌||◌, if◌then◌else◌, map}
use Rattle.rb_base.specs.Names.{text_eq}
use Rattle.scope_model.specs.declared.local.Local.{Local}
use Rattle.scope_model.specs.declared.local.Local.TheVariants.{Argument, Temporary, NotLocal}
use Rattle.scope_model.specs.Scope.{PlacedScope, is_among, local_by}
use Rattle.grammar_model.specs.Terminal.{Text}
use Rattle.grammar_model.specs.Spanned.{Declared, names_of}
use Rattle.grammar_model.specs.Checks.{Known, known_of, is_fixed}

-- whether scopes make a name an argument or a parameter, and behind them the known names
abbrev pub makes_fixed : List (PlacedScope Text) → List Known → Text → Bool
makes_fixed [] ks n = is_fixed ks n
makes_fixed (p ∷ ps) ks n = if is_among text_eq p.1.arguments n then true else if is_among text_eq p.1.temporaries n then false else makes_fixed ps ks n

-- temporaries before known names
behind-temporaries : (ds : List Declared) (ks : List Known) (n : Text) → is_fixed (map (λ (d : Declared). record { name = d.name; fixed = false }) ds ++ ks) n ≡ (if is_among text_eq (names_of ds) n then false else is_fixed ks n)
behind-temporaries [] ks n = refl
behind-temporaries (d ∷ ds) ks n = ap (λ b. if text_eq n d.name then false else b) (behind-temporaries ds ks n) ∙ by (text_eq n d.name) (is_among text_eq (names_of ds) n)
  where
    by : (a b : Bool) → (if a then false else if b then false else is_fixed ks n) ≡ (if a || b then false else is_fixed ks n)
    by true b = refl
    by false b = refl

-- arguments before temporaries, and both before known names
pub behind-both : (ps ds : List Declared) (ks : List Known) (n : Text) → is_fixed (known_of ps ds ++ ks) n ≡ (if is_among text_eq (names_of ps) n then true else if is_among text_eq (names_of ds) n then false else is_fixed ks n)
behind-both [] ds ks n = behind-temporaries ds ks n
behind-both (p ∷ ps) ds ks n = ap (λ b. if text_eq n p.name then true else b) (behind-both ps ds ks n) ∙ by (text_eq n p.name) (is_among text_eq (names_of ps) n)
  where
    by : (a b : Bool) → (if a then true else if b then true else if is_among text_eq (names_of ds) n then false else is_fixed ks n) ≡ (if a || b then true else if is_among text_eq (names_of ds) n then false else is_fixed ks n)
    by true b = refl
    by false b = refl

-- a scope behind other scopes has the names of one list that is known
pub scope-known : (xs : List (PlacedScope Text)) (p : PlacedScope Text) (ps ds : List Declared) (ks : List Known) (n : Text) → p.1.arguments ≡ names_of ps → p.1.temporaries ≡ names_of ds → makes_fixed (xs ++ p ∷ []) ks n ≡ makes_fixed xs (known_of ps ds ++ ks) n
scope-known [] p ps ds ks n a t = (λ i. if is_among text_eq (a i) n then true else if is_among text_eq (t i) n then false else is_fixed ks n) ∙ sym (behind-both ps ds ks n)
scope-known (x ∷ xs) p ps ds ks n a t = ap (λ b. if is_among text_eq x.1.arguments n then true else if is_among text_eq x.1.temporaries n then false else b) (scope-known xs p ps ds ks n a t)

-- whether a scope makes a name an argument or a parameter
abbrev pub is_argument : Local → Bool
is_argument (Argument s) = true
is_argument (Temporary s) = false
is_argument NotLocal = false

-- what the first scope says
first-fixed : (k : ℕ) (l : Local) (a b c : Bool) → is_argument l ≡ c → is_argument (if a then Argument k else if b then Temporary k else l) ≡ (if a then true else if b then false else c)
first-fixed k l true b c e = refl
first-fixed k l false true c e = refl
first-fixed k l false false c e = e

-- what scopes alone say
pub local-fixed : (xs : List (PlacedScope Text)) (n : Text) → is_argument (local_by text_eq xs n) ≡ makes_fixed xs [] n
local-fixed [] n = refl
local-fixed (x ∷ xs) n = first-fixed x.0 (local_by text_eq xs n) (is_among text_eq x.1.arguments n) (is_among text_eq x.1.temporaries n) (makes_fixed xs [] n) (local-fixed xs n)
