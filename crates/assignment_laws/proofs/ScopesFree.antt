-- What assigned names mean in methods and do-its without a fault of the grammar.
use Rattle.std.proofs.Common.{◌≡◌, ℕ, List, [], ◌∷◌, ◌++◌, Option, Some, None, refl, sym, ap, ◌∙◌}
use Rattle.std.specs.Prelude.{Bool, true, false, ◌||◌, if◌then◌else◌, option_map, option_and_then, unwrap_or}
use Rattle.std.proofs.lemmas.Bool.{false≢true}
use Rattle.std.proofs.lemmas.List.{append-nil}
use Rattle.std.specs.List.{AllByRecursion, list_any}
use Rattle.rb_base.specs.Names.{text_eq}
use Rattle.tree_model.specs.Tree.{TreeOf, assign, StatementsOf, no_statements, more_statements, MethodOf}
use Rattle.tree_model.specs.Path.{nth, part_at, part_among, statement_trees}
use Rattle.tree_model.specs.Normal.{without_leading_of, normal_by}
use Rattle.scope_model.specs.declared.local.Local.{Local}
use Rattle.scope_model.specs.declared.local.Local.TheVariants.{Argument, Temporary, NotLocal}
use Rattle.scope_model.specs.SpecialNames.{pseudo_variables, is_pseudo_variable}
use Rattle.scope_model.specs.Scope.{ScopeOf, PlacedScope, entered, scopes_round, local_by, local_in_scope}
use Rattle.image_model.specs.Image.{ImageOf}
use Rattle.image_model.specs.Words.{text_words}
use Rattle.image_model.specs.Means.{MeaningOf, pseudo, means_by, means_outside}
use Rattle.run_model.proofs.Finite.{by_cases}
use Rattle.run_model.proofs.RenamingLemmas.{text-same}
use Rattle.grammar_model.specs.Terminal.{Text}
use Rattle.grammar_model.specs.Words.{is_pseudo}
use Rattle.grammar_model.specs.Spanned.{Declared, names_of}
use Rattle.grammar_model.specs.Checks.{known_of}
use Rattle.rename_laws.specs.BehindKernel.{is_fixed}
use Rattle.rename_laws.proofs.OutsideLoose.{outside-loose}
use Rattle.assignment_laws.proofs.KnownNames.{makes_fixed, scope-known, is_argument, local-fixed}
use Rattle.assignment_laws.proofs.AssignedNames.{MayAssign, EachAssignsFreely}

-- a name that the grammar takes for no pseudo-variable is none of those that it takes for one
none-of : (ws : List Text) (n : Text) → AllByRecursion (λ w. is_pseudo w ≡ true) ws → is_pseudo n ≡ false → list_any (text_eq n) ws ≡ false
none-of [] n a e = refl
none-of (w ∷ ws) n a e =
    by_cases (text_eq n w) (λ t. absurd (false≢true (sym e ∙ ap is_pseudo (text-same n w t) ∙ a.0)))
    (λ t. ap (λ b. b || list_any (text_eq n) ws) t ∙ none-of ws n a.1 e)

no-pseudo : (n : Text) → is_pseudo n ≡ false → is_pseudo_variable n ≡ false
unfolding is_pseudo_variable
no-pseudo n e = none-of pseudo_variables n (refl, (refl, (refl, (refl, (refl, (refl, tt)))))) e

-- what it means by scopes that make it no argument is not fixed, where what it means behind them is not
local-loose : (p : Bool) (l : Local) (g : MeaningOf Text) → p ≡ false → is_argument l ≡ false → is_fixed g ≡ false → is_fixed (if p then pseudo else means_by (if p then NotLocal else l) g) ≡ false
local-loose true l g e h k = absurd (false≢true (sym e))
local-loose false (Argument s) g e h k = absurd (false≢true (sym h))
local-loose false (Temporary s) g e h k = refl
local-loose false NotLocal g e h k = k

-- the scopes round a place where a name is assigned
round-free : (s : ScopeOf Text) (ps ds : List Declared) → s.arguments ≡ names_of ps → s.temporaries ≡ names_of ds → EachAssignsFreely (known_of ps ds) (statement_trees s.statements) → (path : List ℕ) (n : Text) (u : TreeOf Text) → part_among (statement_trees s.statements) path ≡ Some (assign n u) → MayAssign (scopes_round s path) [] n
round-free s ps ds a t free [] n u e = absurd (cc)
round-free s ps ds a t free (k ∷ path) n u e = by (nth (statement_trees s.statements) k) refl
  where
    by : (o : Option (TreeOf Text)) → nth (statement_trees s.statements) k ≡ o → MayAssign (scopes_round s (k ∷ path)) [] n
    by None q = let nowhere = ap (option_and_then (λ x. part_at x path)) (sym q) ∙ e in absurd (cc)
    by (Some c) q =
        let inside = free k c q path n u 1 (ap (option_and_then (λ x. part_at x path)) (sym q) ∙ e) in
        let scope : PlacedScope Text = (0, s) in
        let there : unwrap_or (option_map (λ x. entered 1 x path) (nth (statement_trees s.statements) k)) [] ≡ entered 1 c path = ap (λ o. unwrap_or (option_map (λ x. entered 1 x path) o) []) q in
        record {
          ordinary = inside.ordinary;
          loose = ap (λ xs. makes_fixed (xs ++ scope ∷ []) [] n) there ∙ scope-known (entered 1 c path) scope ps ds [] n a t ∙ ap (λ ks. makes_fixed (entered 1 c path) ks n) (append-nil (known_of ps ds)) ∙ inside.loose;
        }

-- what an assigned name means in a scope
pub scope-free : (s : ScopeOf Text) (ps ds : List Declared) → s.arguments ≡ names_of ps → s.temporaries ≡ names_of ds → EachAssignsFreely (known_of ps ds) (statement_trees s.statements) → (i : ImageOf Text) (home : Option Text) (meta : Bool) (path : List ℕ) (n : Text) (u : TreeOf Text) → part_among (statement_trees s.statements) path ≡ Some (assign n u) →
    is_fixed (if is_pseudo_variable n then pseudo else means_by (local_in_scope text_eq is_pseudo_variable s path n) (means_outside text_words i home meta n)) ≡ false
scope-free s ps ds a t free i home meta path n u e =
    let may = round-free s ps ds a t free path n u e in
    local-loose (is_pseudo_variable n) (local_by text_eq (scopes_round s path) n) (means_outside text_words i home meta n) (no-pseudo n may.ordinary) (local-fixed (scopes_round s path) n ∙ may.loose) (outside-loose i home meta n)

-- the comments of a method in normal form stand elsewhere, and its names and nodes where they stood
leading-trees : (ts : List Text) (ss : StatementsOf Text) (tail : List (List ℕ)) → statement_trees (without_leading_of ts ss tail).statements ≡ statement_trees ss
leading-trees ts no_statements tail = refl
leading-trees ts (more_statements c t ss) tail = refl

leading-temporaries : (ts : List Text) (ss : StatementsOf Text) (tail : List (List ℕ)) → (without_leading_of ts ss tail).temporaries ≡ ts
leading-temporaries ts no_statements tail = refl
leading-temporaries ts (more_statements c t ss) tail = refl

pub normal-trees : (ns : List Text) (m : MethodOf Text) → statement_trees (normal_by ns m).body.statements ≡ statement_trees m.body.statements
normal-trees [] m = leading-trees m.body.temporaries m.body.statements m.body.tail
normal-trees (n ∷ ns) m = refl

pub normal-temporaries : (ns : List Text) (m : MethodOf Text) → (normal_by ns m).body.temporaries ≡ m.body.temporaries
normal-temporaries [] m = leading-temporaries m.body.temporaries m.body.statements m.body.tail
normal-temporaries (n ∷ ns) m = refl

pub normal-arguments : (ns : List Text) (m : MethodOf Text) → (normal_by ns m).arguments ≡ m.arguments
normal-arguments [] m = refl
normal-arguments (n ∷ ns) m = refl
