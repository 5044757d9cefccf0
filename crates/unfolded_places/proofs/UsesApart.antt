-- Uses of names in parts of code, and in code that stands in a closure.
use Rattle.std.proofs.Common.{◌≡◌, List, [], ◌∷◌, ◌++◌, refl, sym, ap, ◌∙◌}
use Rattle.std.specs.Prelude.{Bool, true, false, not, cond, ◌&&◌, ◌||◌, if◌then◌else◌, None, map, filter}
use Rattle.std.specs.List.{list_any}
use Rattle.std.proofs.lemmas.Bool.{false≢true}
use Rattle.std.proofs.lemmas.List.Folds.{list_any-append}
use Rattle.rb_base.specs.Names.{text_eq}
use Rattle.tree_model.specs.Tree.{TreeOf, TreesOf, MessagesOf, StatementsOf}
use Rattle.scope_model.specs.SpecialNames.{is_pseudo_variable, control_form}
use Rattle.scope_model.specs.declared.local.Local.TheVariants.{Argument, Temporary, NotLocal}
use Rattle.scope_model.specs.Scope.{is_among, declares}
use Rattle.scope_model.specs.Uses.{UseOf, enclosed, is_captured, uses, trees_uses, messages_uses, statements_uses}
use Rattle.run_model.specs.Values.{Name}
use Rattle.run_model.proofs.Finite.{by_cases}
use Rattle.run_model.proofs.RenamingLemmas.{text-same}
use Rattle.resolved_model.specs.Environments.{opened, kind_in}
use Rattle.resolved_model.proofs.Environments.{kind_of, kind-scopes}

-- the uses in code; `in_place` says that it is run in place where it is a block
abbrev pub uses_of : Bool → TreeOf Name → List (UseOf Name)
uses_of in_place t = uses text_eq is_pseudo_variable control_form in_place t

abbrev pub uses_of_all : Bool → TreesOf Name → List (UseOf Name)
uses_of_all in_place ts = trees_uses text_eq is_pseudo_variable control_form in_place ts

abbrev pub uses_of_messages : MessagesOf Name → List (UseOf Name)
uses_of_messages ms = messages_uses text_eq is_pseudo_variable control_form ms

abbrev pub uses_of_lines : StatementsOf Name → List (UseOf Name)
uses_of_lines ss = statements_uses text_eq is_pseudo_variable control_form ss

-- a use of a name that no block declares which declares these
abbrev pub is_use_outside : List Name → List Name → UseOf Name → Bool
is_use_outside ps ts u = not (declares text_eq is_pseudo_variable ps ts u.name)

-- a use that assigns a name, wherever it stands
abbrev pub is_set : Name → UseOf Name → Bool
is_set n u = text_eq n u.name && u.is_assignment

-- a use that reads it, and one that does so in a closure
abbrev pub is_read : Name → UseOf Name → Bool
is_read n u = text_eq n u.name && not u.is_assignment

abbrev pub is_read_far : Name → UseOf Name → Bool
is_read_far n u = text_eq n u.name && (not u.is_assignment && u.in_closure)

-- what none of the first uses passes, none of the others does
abbrev pub IsLess : List (UseOf Name) → List (UseOf Name) → Type 0
IsLess us vs = (p : UseOf Name → Bool) → list_any p us ≡ false → list_any p vs ≡ false

pub or-left : (a b : Bool) → (a || b) ≡ false → a ≡ false
or-left true b e = absurd (false≢true (sym e))
or-left false b e = refl

pub or-right : (a b : Bool) → (a || b) ≡ false → b ≡ false
or-right true b e = absurd (false≢true (sym e))
or-right false b e = e

pub less-left : (us vs : List (UseOf Name)) → IsLess (us ++ vs) us
less-left us vs p e = or-left (list_any p us) (list_any p vs) (sym (list_any-append p us vs) ∙ e)

pub less-right : (us vs : List (UseOf Name)) → IsLess (us ++ vs) vs
less-right us vs p e = or-right (list_any p us) (list_any p vs) (sym (list_any-append p us vs) ∙ e)

pub less-rest : (u : UseOf Name) (us : List (UseOf Name)) → IsLess (u ∷ us) us
less-rest u us p e = or-right (p u) (list_any p us) e

pub less-none : (us : List (UseOf Name)) → IsLess us []
less-none us p e = refl

-- a test that passes less
pub any-implies : {X : Type 0} (p q : X → Bool) (xs : List X) → ((x : X) → q x ≡ true → p x ≡ true) → list_any p xs ≡ false → list_any q xs ≡ false
any-implies p q [] h e = refl
any-implies p q (x ∷ xs) h e = by_cases (q x) (λ t. absurd (false≢true (sym (or-left (p x) (list_any p xs) e) ∙ h x t))) (λ f. ap (λ b. b || list_any q xs) f ∙ any-implies p q xs h (or-right (p x) (list_any p xs) e))

pub any-map : {X Y : Type 0} (f : X → Y) (p : Y → Bool) (xs : List X) → list_any p (map f xs) ≡ list_any (λ x. p (f x)) xs
any-map f p [] = refl
any-map f p (x ∷ xs) = ap (λ b. p (f x) || b) (any-map f p xs)

-- a test of which only what is kept can pass
pub any-filtered : {X : Type 0} (p test : X → Bool) (xs : List X) → ((x : X) → p x ≡ true → test x ≡ true) → list_any p (filter test xs) ≡ false → list_any p xs ≡ false
any-filtered p test [] h e = refl
any-filtered p test (x ∷ xs) h e = by (test x) refl e (any-filtered p test xs h)
  where
    by : (b : Bool) → test x ≡ b → list_any p (cond b (x ∷ filter test xs) (filter test xs)) ≡ false → (list_any p (filter test xs) ≡ false → list_any p xs ≡ false) → (p x || list_any p xs) ≡ false
    by true q e ih = (λ i. or-left (p x) (list_any p (filter test xs)) e i || list_any p xs) ∙ ih (or-right (p x) (list_any p (filter test xs)) e)
    by false q e ih = by_cases (p x) (λ t. absurd (false≢true (sym q ∙ h x t))) (λ f. ap (λ b. b || list_any p xs) f ∙ ih e)

both-left : (a b : Bool) → (a && b) ≡ true → a ≡ true
both-left true b e = refl
both-left false b e = absurd (false≢true e)

and-more : (a b : Bool) → (a && (b && true)) ≡ (a && b)
and-more true true = refl
and-more true false = refl
and-more false b = refl

first-two : (a b c : Bool) → (a && (b && c)) ≡ true → (a && b) ≡ true
first-two true true c e = refl
first-two true false c e = absurd (false≢true e)
first-two false b c e = absurd (false≢true e)

pub any-same : {X : Type 0} (p q : X → Bool) (xs : List X) → ((x : X) → p x ≡ q x) → list_any p xs ≡ list_any q xs
any-same p q [] h = refl
any-same p q (x ∷ xs) h = λ i. h x i || any-same p q xs h i

-- what is assigned in a closure there, is assigned
pub captured-inside : (n : Name) (us : List (UseOf Name)) → list_any (is_captured text_eq n) (map enclosed us) ≡ false → list_any (is_set n) us ≡ false
captured-inside n us e = sym (any-map enclosed (is_captured text_eq n) us ∙ any-same (λ u. is_captured text_eq n (enclosed u)) (is_set n) us (λ u. and-more (text_eq n u.name) u.is_assignment)) ∙ e

pub set-inside : (n : Name) (us : List (UseOf Name)) → list_any (is_set n) (map enclosed us) ≡ false → list_any (is_set n) us ≡ false
set-inside n us e = sym (any-map enclosed (is_set n) us) ∙ e

pub captured-set : (n : Name) (us : List (UseOf Name)) → list_any (is_set n) us ≡ false → list_any (is_captured text_eq n) us ≡ false
captured-set n us e = any-implies (is_set n) (is_captured text_eq n) us (λ u. first-two (text_eq n u.name) u.is_assignment u.in_closure) e

-- and what is read there
pub read-inside : (n : Name) (us : List (UseOf Name)) → list_any (is_read_far n) (map enclosed us) ≡ false → list_any (is_read n) us ≡ false
read-inside n us e = sym (any-map enclosed (is_read_far n) us ∙ any-same (λ u. is_read_far n (enclosed u)) (is_read n) us (λ u. and-more (text_eq n u.name) (not u.is_assignment))) ∙ e

pub none-read-inside : (n : Name) (us : List (UseOf Name)) → list_any (is_read n) (map enclosed us) ≡ false → list_any (is_read n) us ≡ false
none-read-inside n us e = sym (any-map enclosed (is_read n) us) ∙ e

pub read-far : (n : Name) (us : List (UseOf Name)) → list_any (is_read n) us ≡ false → list_any (is_read_far n) us ≡ false
read-far n us e = any-implies (is_read n) (is_read_far n) us (λ u. first-two (text_eq n u.name) (not u.is_assignment) u.in_closure) e

-- a name that a block does not declare
pub undeclared-there : (ps ts : List Name) (n : Name) → kind_in (opened ps ts []) n ≡ None → declares text_eq is_pseudo_variable ps ts n ≡ false
undeclared-there ps ts n e =
    let both = none (is_among text_eq ps n) (is_among text_eq ts n) (sym (kind-scopes ((0, record { arguments = ps; temporaries = ts; statements = Rattle.tree_model.specs.Tree.no_statements }) ∷ []) n) ∙ e) in
    (λ i. not (is_pseudo_variable n) && (both.0 i || both.1 i)) ∙ last (not (is_pseudo_variable n))
  where
    none : (b c : Bool) → kind_of (if b then Argument 0 else if c then Temporary 0 else NotLocal) ≡ None → (b ≡ false) × (c ≡ false)
    none true c e = absurd (cc)
    none false true e = absurd (cc)
    none false false e = (refl, refl)

    last : (b : Bool) → (b && (false || false)) ≡ false
    last true = refl
    last false = refl

-- so uses of it go on outside
pub outside-block : (ps ts : List Name) (n : Name) (p : UseOf Name → Bool) (us : List (UseOf Name)) → kind_in (opened ps ts []) n ≡ None → ((u : UseOf Name) → p u ≡ true → text_eq n u.name ≡ true) → list_any p (filter (is_use_outside ps ts) us) ≡ false → list_any p us ≡ false
outside-block ps ts n p us none named e =
    any-filtered p (is_use_outside ps ts) us (λ u q. ap (λ x. not (declares text_eq is_pseudo_variable ps ts x)) (sym (text-same n u.name (named u q))) ∙ ap not (undeclared-there ps ts n none)) e

pub captured-named : (n : Name) (u : UseOf Name) → is_captured text_eq n u ≡ true → text_eq n u.name ≡ true
captured-named n u e = both-left (text_eq n u.name) _ e

pub set-named : (n : Name) (u : UseOf Name) → is_set n u ≡ true → text_eq n u.name ≡ true
set-named n u e = both-left (text_eq n u.name) _ e

pub read-named : (n : Name) (u : UseOf Name) → is_read n u ≡ true → text_eq n u.name ≡ true
read-named n u e = both-left (text_eq n u.name) _ e

pub read-far-named : (n : Name) (u : UseOf Name) → is_read_far n u ≡ true → text_eq n u.name ≡ true
read-far-named n u e = both-left (text_eq n u.name) _ e
