-- A message that is a statement, and the statements that stand unfolded in its place.
use Rattle.std.proofs.Common.{◌≡◌, ◌+◌, ◌<◌, ℕ, zero, suc, List, length, Option, Some, refl, sym, ap, ◌∙◌, subst, arith}
use Rattle.std.specs.Prelude.{Bool, false, codes}
use Rattle.tree_model.specs.Tree.{TreeOf, StatementsOf, no_statements, more_statements, Notes}
use Rattle.tree_model.specs.Path.{count, nth, statement_trees}
use Rattle.scope_model.specs.Scope.{PlacedScope}
use Rattle.scope_model.specs.FreeNames.{take_statements, drop_statements, run_of}
use Rattle.image_model.specs.Means.{MeaningOf}
use Rattle.run_model.specs.Values.{Name}
use Rattle.resolved_model.specs.ResolvedTrees.{of_word, ResolvedTree, reading, sending, ResolvedTrees, ResolvedStatements, more_lines}
use Rattle.resolved_model.specs.ResolvedImages.{ResolvedImage}
use Rattle.resolved_model.specs.Environments.{Declared, declared_in, tree_in, statements_in}
use Rattle.unfolded_calls.specs.Unfolding.{Allowed, StandIn, Context, opened, joined as joined_lines, Actuals, IsPlace, Unfolds, UnfoldsBody, UnfoldsLines, same_stop, same_line, unfolded_run, UnfoldsOwn, own_lines, own_line, own_run}
use Rattle.unfolded_calls.specs.SendsOnly.{StatementsSendOnly}
use Rattle.unfolded_calls.specs.SameContexts.{IsOutside}
use Rattle.unfolded_calls.proofs.Running.{none-some, some-same}
use Rattle.unfolded_places.proofs.Congruence.{ControlLaw}
use Rattle.unfolded_places.proofs.UsesApart.{uses_of, uses_of_lines, less-left, less-right}
use Rattle.unfolded_places.proofs.StandsThere.{Stands as IsThere, stands-less, tree-stands}
use Rattle.command_model.specs.Sequences.{single, joined, noted, first_notes}

-- statements of two lists, once names are resolved
pub joined-in : (f : Name → MeaningOf Name) (A : List Declared) (us rs : StatementsOf Name) → statements_in f A (joined us rs) ≡ joined_lines (statements_in f A us) (statements_in f A rs)
joined-in f A no_statements rs = refl
joined-in f A (more_statements c t us) rs = ap (more_lines (tree_in f A t)) (joined-in f A us rs)

-- comments make no difference
noted-in : (f : Name → MeaningOf Name) (A : List Declared) (c : Notes) (ss : StatementsOf Name) → statements_in f A (noted c ss) ≡ statements_in f A ss
noted-in f A c no_statements = refl
noted-in f A c (more_statements d t ss) = refl

-- the first so many statements and the others
take-drop : (n : ℕ) (ss : StatementsOf Name) → joined (take_statements n ss) (drop_statements n ss) ≡ ss
take-drop zero ss = refl
take-drop (suc n) no_statements = refl
take-drop (suc n) (more_statements c t ss) = ap (more_statements c t) (take-drop n ss)

-- where more than so many are there, one stands behind them
record HasFirst (ss : StatementsOf Name) : Type 0 where
  notes : Notes
  first : TreeOf Name
  rest : StatementsOf Name
  is : ss ≡ more_statements notes first rest

has-first : (n : ℕ) (ss : StatementsOf Name) → n < count (statement_trees ss) → HasFirst (drop_statements n ss)
has-first n no_statements h = absurd (omega (arith, h))
has-first zero (more_statements c t ss) h = record { notes = c; first = t; rest = ss; is = refl }
has-first (suc n) (more_statements c t ss) h = has-first n ss (omega (arith, h))

module _ (i : ResolvedImage) (gone : Allowed) where
  -- a node is a send to self of a method whose statements may stand unfolded as these
  pub record Stands (g : Context) (x : ResolvedTree) (us : ResolvedStatements) : Type 0 where
    pub selector : Name
    pub passed : ResolvedTrees
    pub actuals : List StandIn
    pub supers : Bool
    pub body : ResolvedStatements
    pub sends : x ≡ sending (reading (of_word (codes "self"))) selector passed
    pub place : IsPlace i gone g selector passed (record { parameters = length actuals; temporaries = 0; statements = body }) supers
    pub plain : Actuals g passed actuals
    pub lines : UnfoldsBody i gone (opened actuals supers) body us

  -- before a further statement
  pub run-first : {g : Context} {x t : ResolvedTree} {us ss rest : ResolvedStatements} → Stands g x us → UnfoldsLines i gone g (more_lines t ss) rest → UnfoldsLines i gone g (more_lines x (more_lines t ss)) (joined_lines us rest)
  run-first {g} {x} {t} {us} {ss} {rest} h p = subst (λ y. UnfoldsLines i gone g (more_lines y (more_lines t ss)) (joined_lines us rest)) (sym h.sends) (unfolded_run h.actuals h.supers h.place h.plain h.lines p)

  -- among the statements of a method itself
  pub own-first : {g : Context} {x : ResolvedTree} {us ss rest : ResolvedStatements} → Stands g x us → UnfoldsOwn i gone g ss rest → UnfoldsOwn i gone g (more_lines x ss) (joined_lines us rest)
  own-first {g} {x} {us} {ss} {rest} h p = subst (λ y. UnfoldsOwn i gone g (more_lines y ss) (joined_lines us rest)) (sym h.sends) (own_run h.actuals h.supers h.place h.plain h.lines p)

-- one statement in place of so many, from a number on
abbrev pub put_there : TreeOf Name → ℕ → ℕ → StatementsOf Name → StatementsOf Name
put_there call first n ss = joined (take_statements first ss) (joined (single call) (drop_statements n (drop_statements first ss)))

-- statements in place of one, whose comments go to what then stands there
abbrev pub put_at : StatementsOf Name → ℕ → StatementsOf Name → StatementsOf Name
put_at new k ss = joined (take_statements k ss) (noted (first_notes (drop_statements k ss)) (joined new (drop_statements 1 (drop_statements k ss))))

module _ (i : ResolvedImage) (gone : Allowed) (outer : Name → MeaningOf Name) (A : List Declared) (g : Context) where
  -- each statement stays
  abbrev pub StayEach : StatementsOf Name → Type 0
  StayEach no_statements = Unit {0}
  StayEach (more_statements c t ss) = Unfolds i gone g (tree_in outer A t) (tree_in outer A t) × StayEach ss

  lines-stay : (ss : StatementsOf Name) → StayEach ss → UnfoldsLines i gone g (statements_in outer A ss) (statements_in outer A ss)
  lines-stay no_statements k = same_stop
  lines-stay (more_statements c t ss) k = same_line k.0 (lines-stay ss k.1)

  stay-behind : (n : ℕ) (ss : StatementsOf Name) → StayEach ss → StayEach (drop_statements n ss)
  stay-behind zero ss k = k
  stay-behind (suc n) no_statements k = k
  stay-behind (suc n) (more_statements c t ss) k = stay-behind n ss k.1

  -- a message that stands for so many statements, from a number on
  module _ (call : TreeOf Name) (n : ℕ) where
    -- the first so many statements, and the others
    in-two : (ss : StatementsOf Name) → joined_lines (statements_in outer A (take_statements n ss)) (statements_in outer A (drop_statements n ss)) ≡ statements_in outer A ss
    in-two ss = sym (joined-in outer A (take_statements n ss) (drop_statements n ss)) ∙ ap (statements_in outer A) (take-drop n ss)

    here-own : (ss : StatementsOf Name) → StayEach ss → Stands i gone g (tree_in outer A call) (statements_in outer A (take_statements n ss)) →
        UnfoldsOwn i gone g (more_lines (tree_in outer A call) (statements_in outer A (drop_statements n ss))) (statements_in outer A ss)
    here-own ss k p =
        subst (UnfoldsOwn i gone g (more_lines (tree_in outer A call) (statements_in outer A (drop_statements n ss)))) (in-two ss)
        (own-first i gone p (own_lines (lines-stay (drop_statements n ss) (stay-behind n ss k))))

    here-run : (ss : StatementsOf Name) → StayEach ss → n < count (statement_trees ss) → Stands i gone g (tree_in outer A call) (statements_in outer A (take_statements n ss)) →
        UnfoldsLines i gone g (more_lines (tree_in outer A call) (statements_in outer A (drop_statements n ss))) (statements_in outer A ss)
    here-run ss k l p =
        let first = has-first n ss l in
        subst (UnfoldsLines i gone g (more_lines (tree_in outer A call) (statements_in outer A (drop_statements n ss)))) (in-two ss)
        (subst (λ rs. UnfoldsLines i gone g (more_lines (tree_in outer A call) (statements_in outer A rs)) (joined_lines (statements_in outer A (take_statements n ss)) (statements_in outer A rs))) (sym first.is)
        (run-first i gone p (subst (λ rs. UnfoldsLines i gone g (statements_in outer A rs) (statements_in outer A rs)) first.is (lines-stay (drop_statements n ss) (stay-behind n ss k)))))

    -- statements of a method itself with the message in their place become what they were
    pub own-back : (first : ℕ) (ss : StatementsOf Name) → StayEach ss → Stands i gone g (tree_in outer A call) (statements_in outer A (run_of ss first n)) →
        UnfoldsOwn i gone g (statements_in outer A (put_there call first n ss)) (statements_in outer A ss)
    own-back zero ss k p = here-own ss k p
    own-back (suc first) no_statements k p = here-own no_statements k p
    own-back (suc first) (more_statements c t ss) k p = own_line k.0 (own-back first ss k.1 p)

    -- so do those of a block, where a further one stands behind them
    pub run-back : (first : ℕ) (ss : StatementsOf Name) → StayEach ss → first + n < count (statement_trees ss) → Stands i gone g (tree_in outer A call) (statements_in outer A (run_of ss first n)) →
        UnfoldsLines i gone g (statements_in outer A (put_there call first n ss)) (statements_in outer A ss)
    run-back zero ss k l p = here-run ss k (omega (arith, l)) p
    run-back (suc first) no_statements k l p = absurd (omega (arith, l))
    run-back (suc first) (more_statements c t ss) k l p = same_line k.0 (run-back first ss k.1 (omega (arith, l)) p)

  -- a message that is a statement, and others for it
  module _ (call : TreeOf Name) (new : StatementsOf Name) (stands : Stands i gone g (tree_in outer A call) (statements_in outer A new)) where
    first-in : (d : Notes) (ss : StatementsOf Name) → joined_lines (statements_in outer A new) (statements_in outer A ss) ≡ statements_in outer A (noted d (joined new ss))
    first-in d ss = sym (noted-in outer A d (joined new ss) ∙ joined-in outer A new ss)

    -- among the statements of a method itself
    pub own-at : (ss : StatementsOf Name) (k : ℕ) → StayEach ss → nth (statement_trees ss) k ≡ Some call → UnfoldsOwn i gone g (statements_in outer A ss) (statements_in outer A (put_at new k ss))
    own-at no_statements k h q = none-some q
    own-at (more_statements d t ss) zero h q =
        subst (λ x. UnfoldsOwn i gone g (statements_in outer A (more_statements d x ss)) (statements_in outer A (noted d (joined new ss)))) (sym (some-same q))
        (subst (λ x. UnfoldsOwn i gone g (statements_in outer A (more_statements d call ss)) x) (first-in d ss) (own-first i gone stands (own_lines (lines-stay ss h.1))))
    own-at (more_statements d t ss) (suc k) h q = own_line h.0 (own-at ss k h.1 q)

    -- where a further one stands behind it
    pub run-at : (ss : StatementsOf Name) (k : ℕ) → StayEach ss → nth (statement_trees ss) k ≡ Some call → suc k < count (statement_trees ss) → UnfoldsLines i gone g (statements_in outer A ss) (statements_in outer A (put_at new k ss))
    run-at no_statements k h q l = none-some q
    run-at (more_statements d t no_statements) zero h q l = absurd (omega (arith, l))
    run-at (more_statements d t (more_statements b w ss)) zero h q l =
        subst (λ x. UnfoldsLines i gone g (statements_in outer A (more_statements d x (more_statements b w ss))) (statements_in outer A (noted d (joined new (more_statements b w ss))))) (sym (some-same q))
        (subst (λ x. UnfoldsLines i gone g (statements_in outer A (more_statements d call (more_statements b w ss))) x) (first-in d (more_statements b w ss))
        (run-first i gone stands (lines-stay (more_statements b w ss) h.1)))
    run-at (more_statements d t ss) (suc k) h q l = same_line h.0 (run-at ss k h.1 q (omega (arith, l)))

-- where temporaries that no closure assigns are steady, each statement stays that sends no selector which is gone
pub each-stands : (control : ControlLaw) (i : ResolvedImage) (gone : Allowed) (outer : Name → MeaningOf Name) (outside : (n : Name) → IsOutside (outer n)) (place : Option (Name × Bool)) (C : List (PlacedScope Name)) (g : Context) →
    (ss : StatementsOf Name) → IsThere i gone outer outside place g C (uses_of_lines ss) → StatementsSendOnly (λ s. gone.is_gone s ≡ false) ss → StayEach i gone outer (declared_in C) g ss
each-stands control i gone outer outside place C g no_statements h k = tt
each-stands control i gone outer outside place C g (more_statements c t ss) h k = (
  (tree-stands i gone outer outside place control g C false t (stands-less i gone outer outside place (less-left (uses_of false t) (uses_of_lines ss)) h) k.0).whole refl,
  each-stands control i gone outer outside place C g ss (stands-less i gone outer outside place (less-right (uses_of false t) (uses_of_lines ss)) h) k.1,
)
