-- A name in code means a class or a variable where it is free, and means it outside all blocks.
use Rattle.std.proofs.Common.{◌≡◌, ℕ, Bool, true, false, cond, ◌&&◌, List, [], ◌∷◌, Option, None, Some, option_map, unwrap_or, refl, sym, ap, ◌∙◌, true≢false}
use Rattle.std.specs.Prelude.{nat_eq}
use Rattle.std.specs.List.{list_any}
use Rattle.std.specs.Option.{option_map_or, option_or}
use Rattle.std.proofs.Math.Bool.{and_assoc, and_comm}
use Rattle.std.proofs.lemmas.Bool.{eqb-true, and_right}
use Rattle.tree_model.specs.Nodes.{Placed, statements_nodes}
use Rattle.scope_model.specs.declared.local.Local.{Local}
use Rattle.scope_model.specs.declared.local.Local.TheVariants.{Argument, Temporary, NotLocal}
use Rattle.scope_model.specs.Scope.{ScopeOf, scopes_round, local_by, local_in_scope}
use Rattle.scope_model.specs.FreeNames.{free_in_statements}
use Rattle.image_model.specs.Image.{ClassOf}
use Rattle.image_model.specs.Words.{number_words}
use Rattle.image_model.specs.Chain.{class_named}
use Rattle.image_model.specs.Means.{of_class, MeaningOf, pseudo, argument, temporary, variable, a_class, transcript, undeclared, definer, side_kind, means_along, means_by}
use Rattle.image_model.specs.Uses.{name_used, is_that_class}
use Rattle.use_questions.proofs.Tests.{alike, beside}
use Rattle.use_questions.proofs.Scopes.{is_outside, is_open, names_it, free-scope}

-- a test of names that passes at one name, beside a test of that name
at-name : (x n : ℕ) (p : ℕ → Bool) → (nat_eq x n && p n) ≡ (nat_eq x n && p x)
at-name x n p = by (nat_eq x n) refl
  where
    by : (b : Bool) → nat_eq x n ≡ b → (b && p n) ≡ (b && p x)
    by true e = ap p (sym (eqb-true x n e))
    by false e = refl

used-at-name : (x : ℕ) (o : Option ℕ) (p : ℕ → Bool) → option_map_or (λ n. nat_eq x n && p n) o false ≡ (option_map_or (nat_eq x) o false && p x)
used-at-name x None p = refl
used-at-name x (Some n) p = at-name x n p

-- no item passes
none : {X : Type 0} (xs : List X) → list_any (λ (x : X). false) xs ≡ false
none [] = refl
none (x ∷ xs) = none xs

-- a test of meanings that no pseudo-variable, argument or temporary passes
pub record IsOfGlobals (test : MeaningOf ℕ → Bool) : Type 0 where
  pub no_pseudo : test pseudo ≡ false
  pub no_argument : (scope : ℕ) → test (argument scope) ≡ false
  pub no_temporary : (scope : ℕ) → test (temporary scope) ≡ false

-- what a name stands for in a scope at the place to which a path leads, where it is told what names stand for behind all scopes
abbrev pub meaning_at : (ℕ → Bool) → ScopeOf ℕ → (ℕ → MeaningOf ℕ) → List ℕ → ℕ → MeaningOf ℕ
meaning_at is_pseudo s outside path n = cond (is_pseudo n) pseudo (means_by (local_in_scope nat_eq is_pseudo s path n) (outside n))

module _ (is_pseudo : ℕ → Bool) (test : MeaningOf ℕ → Bool) (globals : IsOfGlobals test) where
  -- a name means what it does behind all scopes where no scope declares it
  passes-by : (l : Local) (outside : MeaningOf ℕ) → test (means_by l outside) ≡ (is_outside l && test outside)
  passes-by (Argument scope) outside = globals.no_argument scope
  passes-by (Temporary scope) outside = globals.no_temporary scope
  passes-by NotLocal outside = refl

  -- what passes in a scope passes behind it
  pub passes-outside : (s : ScopeOf ℕ) (outside : ℕ → MeaningOf ℕ) (path : List ℕ) (n : ℕ) → test (meaning_at is_pseudo s outside path n) ≡ true → test (outside n) ≡ true
  passes-outside s outside path n = by (is_pseudo n) (local_in_scope nat_eq is_pseudo s path n)
    where
      by : (b : Bool) (l : Local) → test (cond b pseudo (means_by l (outside n))) ≡ true → test (outside n) ≡ true
      by true l e = absurd (true≢false (sym e ∙ globals.no_pseudo))
      by false (Argument scope) e = absurd (true≢false (sym e ∙ globals.no_argument scope))
      by false (Temporary scope) e = absurd (true≢false (sym e ∙ globals.no_temporary scope))
      by false NotLocal e = e

  module _ (s : ScopeOf ℕ) (outside : ℕ → MeaningOf ℕ) (x : ℕ) where
    -- the nodes, and whether the name is free in them
    abbrev es : List (Placed ℕ)
    es = statements_nodes 0 s.statements

    abbrev free : Bool
    free = list_any (nat_eq x) (free_in_statements nat_eq is_pseudo s.statements)

    -- whether a node has the name
    abbrev has : Placed ℕ → Bool
    has e = option_map_or (nat_eq x) (name_used e.1) false

    -- the test at a path, by whether the name is that of a pseudo-variable
    abbrev passes : Bool → List ℕ → Bool
    passes b path = test (cond b pseudo (means_by (cond b NotLocal (local_by nat_eq (scopes_round s path) x)) (outside x)))

    pseudo-free : list_any (λ (e : Placed ℕ). has e && passes true e.0) es ≡ (passes true [] && free)
    pseudo-free =
        alike (λ (e : Placed ℕ). has e && passes true e.0) (λ (e : Placed ℕ). false) es (λ e. and_right (has e) (test pseudo) globals.no_pseudo)
        ∙ none es ∙ ap (λ (b : Bool). b && free) (sym globals.no_pseudo)

    ordinary-free : is_pseudo x ≡ false → list_any (λ (e : Placed ℕ). has e && passes false e.0) es ≡ (passes false [] && free)
    ordinary-free p =
        let open_at : List ℕ → Bool = λ path. is_open is_pseudo x p (scopes_round s path) in
        let there : Placed ℕ → Bool = λ e. names_it is_pseudo x p open_at e in
        alike (λ (e : Placed ℕ). has e && passes false e.0) (λ (e : Placed ℕ). there e && test (outside x)) es
        (λ e. ap (λ (b : Bool). has e && b) (passes-by (local_by nat_eq (scopes_round s e.0) x) (outside x)) ∙ sym (and_assoc (has e) (open_at e.0) (test (outside x))))
        ∙ beside there (test (outside x)) es
        ∙ ap (λ (b : Bool). b && test (outside x)) (free-scope is_pseudo x p s)
        ∙ and_assoc free (open_at []) (test (outside x))
        ∙ and_comm free (open_at [] && test (outside x))
        ∙ ap (λ (b : Bool). b && free) (sym (passes-by (local_by nat_eq ((0, s) ∷ []) x) (outside x)))

    -- where a node uses a name that passes, the name is free and passes outside all blocks
    pub used-free : list_any (λ (e : Placed ℕ). option_map_or (λ n. nat_eq x n && test (meaning_at is_pseudo s outside e.0 n)) (name_used e.1) false) es ≡ (test (meaning_at is_pseudo s outside [] x) && free)
    used-free =
        alike (λ (e : Placed ℕ). option_map_or (λ n. nat_eq x n && test (meaning_at is_pseudo s outside e.0 n)) (name_used e.1) false) (λ (e : Placed ℕ). has e && test (meaning_at is_pseudo s outside e.0 x)) es
        (λ e. used-at-name x (name_used e.1) (λ n. test (meaning_at is_pseudo s outside e.0 n)))
        ∙ by (is_pseudo x) refl
      where
        by : (b : Bool) → is_pseudo x ≡ b → list_any (λ (e : Placed ℕ). has e && passes b e.0) es ≡ (passes b [] && free)
        by true p = pseudo-free
        by false p = ordinary-free p

-- a name that means a class behind all scopes is the name of the class
module _ (names : List (List ℕ)) (classes above : List (ClassOf ℕ)) (meta : Bool) (c n : ℕ) where
  class-found : (ds : List (ClassOf ℕ)) → option_map_or (λ (e : ClassOf ℕ). nat_eq c e.name) (class_named nat_eq ds n) false ≡ true → nat_eq c n ≡ true
  class-found [] h = absurd (true≢false (sym h))
  class-found (e ∷ ds) h = by (nat_eq n e.name) refl (class-found ds) h
    where
      by : (b : Bool) → nat_eq n e.name ≡ b → (option_map_or (λ (d : ClassOf ℕ). nat_eq c d.name) (class_named nat_eq ds n) false ≡ true → nat_eq c n ≡ true)
          → option_map_or (λ (d : ClassOf ℕ). nat_eq c d.name) (cond b (Some e) (class_named nat_eq ds n)) false ≡ true → nat_eq c n ≡ true
      by true is rest k = ap (nat_eq c) (eqb-true n e.name is) ∙ k
      by false is rest k = rest k

  pub class-name : is_that_class nat_eq c (means_along (number_words names) classes above meta n) ≡ true → nat_eq c n ≡ true
  class-name h = class-found classes (by (definer nat_eq (side_kind meta) above n) (definer nat_eq of_class above n) (class_named nat_eq classes n) ((number_words names).is_transcript n) h)
    where
      by : (o p r : Option (ClassOf ℕ)) (b : Bool)
          → is_that_class nat_eq c (unwrap_or (option_or (option_map (λ (e : ClassOf ℕ). variable (side_kind meta) e.name) o) (option_or (option_map (λ (e : ClassOf ℕ). variable of_class e.name) p) (option_or (option_map (λ (e : ClassOf ℕ). a_class e.name) r) (cond b (Some transcript) None)))) undeclared) ≡ true
          → option_map_or (λ (e : ClassOf ℕ). nat_eq c e.name) r false ≡ true
      by (Some e) p r b k = absurd (true≢false (sym k))
      by None (Some e) r b k = absurd (true≢false (sym k))
      by None None (Some e) b k = k
      by None None None true k = k
      by None None None false k = k
