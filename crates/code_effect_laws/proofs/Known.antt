-- What known names say of a name, and what the scopes round a place say of it.
use Rattle.std.proofs.Common.{◌≡◌, ℕ, Bool, true, false, List, [], ◌∷◌, ◌++◌, map, Option, Some, None, option_map, refl, sym, ap, ◌∙◌, true≢false}
use Rattle.std.specs.Prelude.{◌||◌, if◌then◌else◌, unwrap_or}
use Rattle.std.specs.List.{AllByRecursion, list_any}
use Rattle.rb_base.specs.Names.{text_eq}
use Rattle.tree_model.specs.Tree.{TreeOf, MethodOf}
use Rattle.tree_model.specs.Path.{nth, statement_trees}
use Rattle.scope_model.specs.declared.local.Local.{Local}
use Rattle.scope_model.specs.declared.local.Local.TheVariants.{Argument, Temporary, NotLocal}
use Rattle.scope_model.specs.SpecialNames.{pseudo_variables, is_pseudo_variable}
use Rattle.scope_model.specs.Scope.{PlacedScope, method_scope, entered, scopes_round, is_among, local_by, local_in}
use Rattle.grammar_model.specs.Words.{is_pseudo}
use Rattle.grammar_model.specs.Checks.{Known, is_fixed}
use Rattle.reread_law.specs.Declarations.{known_names}
use Rattle.file_model.specs.Filing.{Text}
use Rattle.file_laws.proofs.Moves.{text_equal}
use Rattle.code_effect_laws.proofs.Places.{known_by, known_both}
use Rattle.code_effect_laws.proofs.Methods.{known_in}

-- temporaries before known names
behind-temporaries : (ds : List Text) (ks : List Known) (n : Text) → is_fixed (map (λ (d : Text). record { name = d; fixed = false }) ds ++ ks) n ≡ (if is_among text_eq ds n then false else is_fixed ks n)
behind-temporaries [] ks n = refl
behind-temporaries (d ∷ ds) ks n = ap (λ b. if text_eq n d then false else b) (behind-temporaries ds ks n) ∙ by (text_eq n d) (is_among text_eq ds n)
  where
    by : (a b : Bool) → (if a then false else if b then false else is_fixed ks n) ≡ (if a || b then false else is_fixed ks n)
    by true b = refl
    by false b = refl

-- arguments before temporaries, and both before known names
pub behind-both : (ps ds : List Text) (ks : List Known) (n : Text) → is_fixed (known_names ps ds ++ ks) n ≡ (if is_among text_eq ps n then true else if is_among text_eq ds n then false else is_fixed ks n)
behind-both [] ds ks n = behind-temporaries ds ks n
behind-both (p ∷ ps) ds ks n = ap (λ b. if text_eq n p then true else b) (behind-both ps ds ks n) ∙ by (text_eq n p) (is_among text_eq ps n)
  where
    by : (a b : Bool) → (if a then true else if b then true else if is_among text_eq ds n then false else is_fixed ks n) ≡ (if a || b then true else if is_among text_eq ds n then false else is_fixed ks n)
    by true b = refl
    by false b = refl

-- whether a scope makes a name an argument or a parameter
abbrev pub is_argument : Local → Bool
is_argument (Argument s) = true
is_argument (Temporary s) = false
is_argument NotLocal = false

-- what the first scope says
first-fixed : (k : ℕ) (l : Local) (a b c : Bool) → c ≡ is_argument l → (if a then true else if b then false else c) ≡ is_argument (if a then Argument k else if b then Temporary k else l)
first-fixed k l true b c e = refl
first-fixed k l false true c e = refl
first-fixed k l false false c e = e

-- what scopes say
pub known-local : (xs : List (PlacedScope Text)) (n : Text) → is_fixed (known_by xs) n ≡ is_argument (local_by text_eq xs n)
known-local [] n = refl
known-local (x ∷ xs) n =
    behind-both x.1.arguments x.1.temporaries (known_by xs) n
    ∙ first-fixed x.0 (local_by text_eq xs n) (is_among text_eq x.1.arguments n) (is_among text_eq x.1.temporaries n) (is_fixed (known_by xs) n) (known-local xs n)

-- the scopes round a place in a method
pub known-round : (m : MethodOf Text) (path : List ℕ) → known_in m path ≡ known_by (scopes_round (method_scope m) path)
known-round m [] = refl
known-round m (k ∷ path) = by (nth (statement_trees m.body.statements) k)
  where
    by : (o : Option (TreeOf Text))
        → unwrap_or (option_map (λ c. known_by (entered 1 c path) ++ (known_names m.arguments m.body.temporaries ++ [])) o) (known_names m.arguments m.body.temporaries ++ [])
        ≡ known_by (unwrap_or (option_map (λ c. entered 1 c path) o) [] ++ (0, method_scope m) ∷ [])
    by None = refl
    by (Some c) = sym (known_both (entered 1 c path) ((0, method_scope m) ∷ []))

-- a name that the grammar takes for no pseudo-variable is none of those that it takes for one
none-of : (ws : List Text) (n : Text) → AllByRecursion (λ w. is_pseudo w ≡ true) ws → is_pseudo n ≡ false → list_any (text_eq n) ws ≡ false
none-of [] n a e = refl
none-of (w ∷ ws) n a e = by (text_eq n w) refl (none-of ws n a.1 e)
  where
    by : (b : Bool) → text_eq n w ≡ b → list_any (text_eq n) ws ≡ false → (text_eq n w || list_any (text_eq n) ws) ≡ false
    by true q rest = absurd (true≢false (sym a.0 ∙ ap is_pseudo (sym (text_equal n w q)) ∙ e))
    by false q rest = (λ i. q i || rest i)

pub no-pseudo : (n : Text) → is_pseudo n ≡ false → is_pseudo_variable n ≡ false
unfolding is_pseudo_variable
no-pseudo n e = none-of pseudo_variables n (refl, (refl, (refl, (refl, (refl, (refl, tt)))))) e

-- what a method says of a name at a place
pub fixed-local : (m : MethodOf Text) (path : List ℕ) (n : Text) → is_pseudo n ≡ false → is_fixed (known_in m path) n ≡ is_argument (local_in text_eq is_pseudo_variable m path n)
fixed-local m path n ordinary =
    ap (λ zs. is_fixed zs n) (known-round m path) ∙ known-local (scopes_round (method_scope m) path) n
    ∙ ap (λ b. is_argument (if b then NotLocal else local_by text_eq (scopes_round (method_scope m) path) n)) (sym (no-pseudo n ordinary))
