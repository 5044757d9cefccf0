-- Each line of `addParameter` says one thing.
use Rattle.std.proofs.Common.{◌≡◌, ◌⊎◌, inl, inr, Option, Some, None, Result, Err, refl, sym, subst, ◌∙◌}
use Rattle.token_model.specs.declared.kind.Dialect.TheVariants.{Second}
use Rattle.grammar_model.specs.Whole.{DoIt}
use Rattle.grammar_model.specs.Checks.{Fault}
use Rattle.grammar_model.specs.Spanned.{SpannedSequence, plain_sequence}
use Rattle.grammar_model.specs.Spelling.{SpellsDoItAt, HasFirstFault}
use Rattle.grammar_model.proofs.Texts.{one_SpellsDoItAt, no_fault_DoIt, spells_or_fault}
use Rattle.session_model.specs.Scripts.{Request}
use Rattle.script_model.specs.Makers.{Text}
use Rattle.script_model.specs.Commands.{Cause, BadArgument}
use Rattle.script_model.specs.Parameters.{Parameter, parameter_of, literal_in, passing, AddsParameter, Read, Wordless, Unreadable}

abbrev Answer : Type 0
Answer = Result Request Cause

-- one parameter, which is there or not
same-parameter : {o : Option Parameter} {p q : Parameter} → o ≡ Some p → o ≡ Some q → p ≡ q
same-parameter e f = let both = sym e ∙ f in cc

no-parameter : {o : Option Parameter} {p : Parameter} → o ≡ Some p → o ≡ None → ⊥
no-parameter e f = let both = sym e ∙ f in absurd (cc)

-- a text with a tree has no fault
sound : (p q : Parameter) (tree : SpannedSequence) (fault : Fault) → p ≡ q → SpellsDoItAt Second p.passed tree → HasFirstFault Second DoIt q.passed fault → ⊥
sound p q tree fault same spells faulty =
    no_fault_DoIt Second q.passed (plain_sequence tree) fault (record { spanned = tree; spells = subst (λ (x : Parameter). SpellsDoItAt Second x.passed tree) same spells; same = refl }) faulty

-- one answer
pub one-parameter : (t : Text) (r s : Answer) → AddsParameter t r → AddsParameter t s → r ≡ s
one-parameter t r s (Read p tree is spells answer) (Read q other be spelled says) =
    let same : p ≡ q = same-parameter is be in
    let trees : tree ≡ other = one_SpellsDoItAt Second q.passed tree other (subst (λ (x : Parameter). SpellsDoItAt Second x.passed tree) same spells) spelled in
    answer ∙ (λ i. passing (same i) (literal_in (same i).passed (trees i))) ∙ sym says
one-parameter t r s (Read p tree is spells answer) (Wordless none says) = absurd (no-parameter is none)
one-parameter t r s (Read p tree is spells answer) (Unreadable q fault be faulty says) = absurd (sound p q tree fault (same-parameter is be) spells faulty)
one-parameter t r s (Wordless none answer) (Read q other be spelled says) = absurd (no-parameter be none)
one-parameter t r s (Wordless none answer) (Wordless nothing says) = answer ∙ sym says
one-parameter t r s (Wordless none answer) (Unreadable q fault be faulty says) = absurd (no-parameter be none)
one-parameter t r s (Unreadable p fault is faulty answer) (Read q other be spelled says) = absurd (sound q p other fault (same-parameter be is) spelled faulty)
one-parameter t r s (Unreadable p fault is faulty answer) (Wordless none says) = absurd (no-parameter is none)
one-parameter t r s (Unreadable p fault is faulty answer) (Unreadable q other be wrong says) = answer ∙ sym says

-- some answer
pub some-parameter : (t : Text) → (r : Answer) × AddsParameter t r
some-parameter t = by (parameter_of t) refl
  where
    read : (p : Parameter) → parameter_of t ≡ Some p → ((tree : SpannedSequence) × SpellsDoItAt Second p.passed tree) ⊎ ((fault : Fault) × HasFirstFault Second DoIt p.passed fault) → (r : Answer) × AddsParameter t r
    read p is (inl found) = (passing p (literal_in p.passed found.0), Read p found.0 is found.1 refl)
    read p is (inr wrong) = (Err BadArgument, Unreadable p wrong.0 is wrong.1 refl)

    by : (o : Option Parameter) → parameter_of t ≡ o → (r : Answer) × AddsParameter t r
    by None none = (Err BadArgument, Wordless none refl)
    by (Some p) is = read p is (spells_or_fault Second DoIt p.passed)
