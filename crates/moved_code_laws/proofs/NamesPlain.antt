-- Names passed for themselves: arguments, block parameters, and temporaries that no closure assigns.
use Rattle.std.proofs.Common.{◌≡◌, ℕ, suc, List, [], ◌∷◌, length, Some, refl, sym, ap, ◌∙◌, arith}
use Rattle.std.specs.Prelude.{Bool, true, false, not, ◌||◌, cond, if◌then◌else◌, filter}
use Rattle.std.specs.List.{AllByRecursion, list_any}
use Rattle.std.proofs.lemmas.Bool.{false≢true}
use Rattle.rb_base.specs.Names.{text_eq}
use Rattle.rb_base.proofs.NamesLemmas.{text_eq-refl}
use Rattle.tree_model.specs.Tree.{TreeOf, var}
use Rattle.tree_model.specs.Path.{count, nth}
use Rattle.scope_model.specs.SpecialNames.{is_pseudo_variable}
use Rattle.scope_model.specs.Control.{is_plain_block}
use Rattle.scope_model.specs.declared.local.Local.{Local}
use Rattle.scope_model.specs.declared.local.Local.TheVariants.{Argument, Temporary, NotLocal}
use Rattle.scope_model.specs.Scope.{PlacedScope, is_among, local_by}
use Rattle.scope_model.specs.FreeNames.{each_once}
use Rattle.image_model.specs.Means.{MeaningOf}
use Rattle.run_model.specs.Values.{Name}
use Rattle.run_model.proofs.Finite.{by_cases}
use Rattle.resolved_model.specs.Environments.{kind_in, place_in, declared_in}
use Rattle.resolved_model.proofs.Environments.{kind_of, kind-scopes}
use Rattle.unfolded_calls.specs.Unfolding.{StandIn, an_argument, a_lent}
use Rattle.unfolded_calls.proofs.Running.{none-some, some-same}
use Rattle.unfolded_places.specs.Inlining.{passed_for, plain_argument}
use Rattle.unfolded_places.specs.Passed.{PassedActual, passed_plain, passed_temporary, PassedActuals, passed_none, passed_more}
use Rattle.unfolded_places.proofs.SelfFilled.{themselves}
use Rattle.unfolded_places.proofs.UsesApart.{uses_of, is_read_far}
use Rattle.unfolded_places.proofs.StandsThere.{keeps_in}
use Rattle.command_model.specs.Places.{is_local}
use Rattle.moved_code_laws.proofs.Saying.{said_by}
use Rattle.moved_code_laws.proofs.NamesPassed.{passed-name}

-- no name is a block
pub unblocked : (xs : List Name) (u : TreeOf Name) → nth (themselves xs) 0 ≡ Some u → is_plain_block u ≡ false
unblocked [] u e = none-some e
unblocked (x ∷ xs) u e = ap is_plain_block (sym (some-same e))

pub themselves-open : (xs : List Name) (x : Name) (u : TreeOf Name) → passed_for xs (themselves xs) x ≡ Some u → is_plain_block u ≡ false
themselves-open xs x u e = ap is_plain_block (passed-name xs x u e)

-- one is passed for each
pub themselves-count : (xs : List Name) → length xs ≡ count (themselves xs)
themselves-count [] = refl
themselves-count (x ∷ xs) = let n = themselves-count xs in omega (arith, n)

-- the items that pass a test pass it
filter-all : (test : Name → Bool) (xs : List Name) → AllByRecursion (λ n. test n ≡ true) (filter test xs)
filter-all test [] = tt
filter-all test (x ∷ xs) = by (test x) refl (filter-all test xs)
  where
    by : (b : Bool) → test x ≡ b → AllByRecursion (λ n. test n ≡ true) (filter test xs) → AllByRecursion (λ n. test n ≡ true) (cond b (x ∷ filter test xs) (filter test xs))
    by true e a = (e, a)
    by false e a = a

-- a fact of all items is one of those that are kept
filter-keeps : (P : Name → Type 0) (test : Name → Bool) (xs : List Name) → AllByRecursion P xs → AllByRecursion P (filter test xs)
filter-keeps P test [] a = tt
filter-keeps P test (x ∷ xs) a = by (test x) (filter-keeps P test xs a.1)
  where
    by : (b : Bool) → AllByRecursion P (filter test xs) → AllByRecursion P (cond b (x ∷ filter test xs) (filter test xs))
    by true ih = (a.0, ih)
    by false ih = ih

-- each name that stands there once is among those that stand there
all-weaker : (x : Name) (xs ys : List Name) → AllByRecursion (λ n. is_among text_eq xs n ≡ true) ys → AllByRecursion (λ n. is_among text_eq (x ∷ xs) n ≡ true) ys
all-weaker x xs [] a = tt
all-weaker x xs (y ∷ ys) a = (always (text_eq y x) a.0, all-weaker x xs ys a.1)
  where
    always : (b : Bool) → is_among text_eq xs y ≡ true → (b || is_among text_eq xs y) ≡ true
    always true e = refl
    always false e = e

once-among : (xs : List Name) → AllByRecursion (λ n. is_among text_eq xs n ≡ true) (each_once text_eq xs)
once-among [] = tt
once-among (x ∷ xs) = (
  ap (λ b. b || is_among text_eq xs x) (text_eq-refl x),
  filter-keeps (λ n. is_among text_eq (x ∷ xs) n ≡ true) (λ k. not (text_eq x k)) (each_once text_eq xs) (all-weaker x xs (each_once text_eq xs) (once-among xs)),
)

module _ (f : Name → MeaningOf Name) (round : List (PlacedScope Name)) (free : List Name)
    (kept : (x : Name) (k : ℕ) → is_pseudo_variable x ≡ false → local_by text_eq round x ≡ Temporary k → is_among text_eq free x ≡ true → keeps_in round x ≡ true) where
  -- a free name that is local
  record IsGiven (x : Name) : Type 0 where
    stand_in : StandIn
    passed : PassedActual f (declared_in round) (keeps_in round) (var x) stand_in

  given : (x : Name) → is_local (said_by round x) ≡ true → is_among text_eq free x ≡ true → IsGiven x
  given x l among =
      by_cases (is_pseudo_variable x) (λ p. absurd (false≢true (sym (ap is_local (ap (λ b. if b then NotLocal else local_by text_eq round x) p)) ∙ l)))
      (λ p. by (local_by text_eq round x) refl p (ap is_local (sym (ap (λ b. if b then NotLocal else local_by text_eq round x) p)) ∙ l))
    where
      by : (o : Local) → local_by text_eq round x ≡ o → is_pseudo_variable x ≡ false → is_local o ≡ true → IsGiven x
      by (Argument k) e p h = record { stand_in = an_argument (place_in (declared_in round) x); passed = passed_plain (plain_argument x p (kind-scopes round x ∙ ap kind_of e)) }
      by (Temporary k) e p h = record { stand_in = a_lent (place_in (declared_in round) x); passed = passed_temporary x p (kind-scopes round x ∙ ap kind_of e) (kept x k p e among) }
      by NotLocal e p h = absurd (false≢true h)

  -- names in order
  pub record ArePassed (xs : List Name) : Type 0 where
    pub actuals : List StandIn
    pub plain : PassedActuals f (declared_in round) (keeps_in round) (themselves xs) actuals
    pub counted : length xs ≡ length actuals

  passed : (xs : List Name) → AllByRecursion (λ x. is_local (said_by round x) ≡ true) xs → AllByRecursion (λ x. is_among text_eq free x ≡ true) xs → ArePassed xs
  passed [] a b = record { actuals = []; plain = passed_none; counted = refl }
  passed (x ∷ xs) a b =
      let one = given x a.0 b.0 in
      let rest = passed xs a.1 b.1 in
      record { actuals = one.stand_in ∷ rest.actuals; plain = passed_more one.passed rest.plain; counted = ap suc rest.counted }

  -- those that are local, each once
  pub locals-passed : ArePassed (filter (λ x. is_local (said_by round x)) (each_once text_eq free))
  locals-passed =
      passed (filter (λ x. is_local (said_by round x)) (each_once text_eq free)) (filter-all (λ x. is_local (said_by round x)) (each_once text_eq free))
      (filter-keeps (λ x. is_among text_eq free x ≡ true) (λ x. is_local (said_by round x)) (each_once text_eq free) (once-among free))

-- no closure of a part reads a temporary that is passed for itself, where none reads one that is declared outside it
pub near-passed : (round : List (PlacedScope Name)) (names : List Name) (part : TreeOf Name) → ((x : Name) (k : ℕ) → is_pseudo_variable x ≡ false → local_by text_eq round x ≡ Temporary k → list_any (is_read_far x) (uses_of false part) ≡ false) →
    (x y : Name) → is_pseudo_variable x ≡ false → passed_for names (themselves names) x ≡ Some (var y) → is_pseudo_variable y ≡ false → kind_in (declared_in round) y ≡ Some true → list_any (is_read_far x) (uses_of false part) ≡ false
near-passed round names part near x y p q o k = by (local_by text_eq round x) refl (sym (kind-scopes round x) ∙ ap (kind_in (declared_in round)) same-name ∙ k)
  where
    named : {v w : Name} → var v ≡ var w → v ≡ w
    named e = cc

    same-name : x ≡ y
    same-name = sym (named (passed-name names x (var y) q))

    by : (l : Local) → local_by text_eq round x ≡ l → kind_of l ≡ Some true → list_any (is_read_far x) (uses_of false part) ≡ false
    by (Argument s) e h = absurd (cc)
    by (Temporary s) e h = near x s p e
    by NotLocal e h = absurd (cc)
