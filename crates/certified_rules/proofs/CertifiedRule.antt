-- Images in which a rule with a certificate is applied come from each other by laws of rewriting.
use Rattle.std.proofs.Common.{◌≡◌, List, [], ◌∷◌, refl, sym, subst}
use Rattle.std.specs.Prelude.{Bool, true, false}
use Rattle.std.specs.List.{concat}
use Rattle.tree_model.specs.Tree.{StatementsOf}
use Rattle.tree_model.specs.Bare.{bare_statements}
use Rattle.image_model.specs.Image.{ImageOf}
use Rattle.run_model.specs.Values.{Name}
use Rattle.run_model.specs.Renamings.{no_renaming}
use Rattle.run_model.specs.Matched.{AreMatched}
use Rattle.pattern_model.specs.Patterns.{PatternOf}
use Rattle.pattern_model.specs.Words.{text_pattern_words, AreWords}
use Rattle.pattern_model.specs.Matches.{IsLawful}
use Rattle.pattern_model.specs.Rewritten.{each_statement, rewritten}
use Rattle.certified_laws.specs.RewrittenTrees.{LinesRewritten, RewrittenAlong}
use Rattle.certified_model.specs.LawSteps.{Stepped, SteppedAlong}
use Rattle.certified_model.specs.Certificates.{CertStep, derives}
use Rattle.certified_model.proofs.FilledSteps.{same-lines}
use Rattle.certified_model.proofs.RewrittenSteps.{each-statement, rewritten-step}
use Rattle.certified_rules.specs.RulesApplied.{Change, ImageChanged, by_rule, RuleApplied}
use Rattle.certified_rules.proofs.ChangedImages.{images-changed, changed, is-changed, is-unchanged}
use Rattle.certified_rules.proofs.FilledAlike.{plainly, rewritten-alike}
use Rattle.certified_rules.proofs.DerivedSteps.{IsReached, derived-steps}
use Rattle.certified_rules.proofs.SameRule.{to-bare-lines, from-bare-lines, statements-kept, rewritten-kept}

module _ (known : AreWords text_pattern_words concat) (p : PatternOf Name) (lawful : IsLawful p) where
  -- the change by a rule with this pattern
  abbrev to : PatternOf Name → Change
  to q = by_rule (record { pattern = p; replacement = q })

  -- without comments
  abbrev barely : Change
  barely kernel ss = bare_statements ss

  -- the rule that changes nothing but comments
  from-barely : (kernel : Bool) (ss : StatementsOf Name) → LinesRewritten (barely kernel ss) (to p kernel ss)
  from-barely true ss = from-bare-lines ss
  from-barely false ss =
      let f = rewritten text_pattern_words concat (record { pattern = p; replacement = p }) in
      subst (λ x. LinesRewritten x (each_statement f ss)) (statements-kept f (rewritten-kept text_pattern_words concat known p lawful) ss) (from-bare-lines (each_statement f ss))

  -- a step further
  one-step : (q r : PatternOf Name) → Stepped q r → (kernel : Bool) (ss : StatementsOf Name) → LinesRewritten (to q kernel ss) (to r kernel ss)
  one-step q r h true ss = same-lines ss
  one-step q r h false ss =
      each-statement (rewritten text_pattern_words concat (record { pattern = p; replacement = q })) (rewritten text_pattern_words concat (record { pattern = p; replacement = r }))
      (rewritten-step text_pattern_words concat p q r h) ss

  -- all steps
  steps-along : (i j : ImageOf Name) (q r : PatternOf Name) (qs : List (PatternOf Name)) → SteppedAlong q qs r → (a : ImageOf Name) → ImageChanged (to q) i a → ImageChanged (to r) i j →
      (ks : List (ImageOf Name)) × RewrittenAlong a ks j
  steps-along i j q r [] h a c d = ([], images-changed (to q) (to r) (one-step q r h) i a j c d)
  steps-along i j q r (s ∷ qs) h a c d =
      let rest = steps-along i j s r qs h.1 (changed (to s) i) (is-changed (to s) i) d in
      (changed (to s) i ∷ rest.0, (images-changed (to q) (to s) (one-step q s h.0) i a (changed (to s) i) c (is-changed (to s) i), rest.1))

  pub rule-along : (i j : ImageOf Name) (q : PatternOf Name) (qs : List (PatternOf Name)) → SteppedAlong p qs q → RuleApplied (record { pattern = p; replacement = q }) i j → (ks : List (ImageOf Name)) × RewrittenAlong i ks j
  rule-along i j q qs h d =
      let rest = steps-along i j p q qs h (changed (to p) i) (is-changed (to p) i) d in (
        changed barely i ∷ changed (to p) i ∷ rest.0,
        (
          images-changed (λ k ss. ss) barely (λ k ss. to-bare-lines ss) i i (changed barely i) (is-unchanged i) (is-changed barely i),
          (images-changed barely (to p) from-barely i (changed barely i) (changed (to p) i) (is-changed barely i) (is-changed (to p) i), rest.1),
        ),
      )

  -- the change by the rule whose replacement has no metavariable doubled
  plainly-changed : (q : PatternOf Name) → to (plainly q) ≡ to q
  plainly-changed q = λ at kernel ss. by kernel ss at
    where
      by : (kernel : Bool) (ss : StatementsOf Name) → to (plainly q) kernel ss ≡ to q kernel ss
      by true ss = refl
      by false ss = λ at. each_statement (λ t. rewritten-alike text_pattern_words concat p q t at) ss

  pub derived-along : (i j : ImageOf Name) (q : PatternOf Name) → IsReached (plainly p) (plainly q) → RuleApplied (record { pattern = p; replacement = q }) i j → (ks : List (ImageOf Name)) × RewrittenAlong i ks j
  derived-along i j q h d =
      let first : ImageChanged (to (plainly p)) i (changed (to p) i) = subst (λ f. ImageChanged f i (changed (to p) i)) (sym (plainly-changed p)) (is-changed (to p) i) in
      let last : ImageChanged (to (plainly q)) i j = subst (λ f. ImageChanged f i j) (sym (plainly-changed q)) d in
      let rest = steps-along i j (plainly p) (plainly q) h.between h.steps (changed (to p) i) first last in (
        changed barely i ∷ changed (to p) i ∷ rest.0,
        (
          images-changed (λ k ss. ss) barely (λ k ss. to-bare-lines ss) i i (changed barely i) (is-unchanged i) (is-changed barely i),
          (images-changed barely (to p) from-barely i (changed barely i) (changed (to p) i) (is-changed barely i) (is-changed (to p) i), rest.1),
        ),
      )

pub certified-matched : AreWords text_pattern_words concat → ((i : ImageOf Name) (ks : List (ImageOf Name)) (j : ImageOf Name) → RewrittenAlong i ks j → AreMatched i j no_renaming) →
    (i j : ImageOf Name) (p q : PatternOf Name) (ps : List (PatternOf Name)) → IsLawful p → SteppedAlong p ps q → RuleApplied (record { pattern = p; replacement = q }) i j → AreMatched i j no_renaming
certified-matched known along i j p q ps lawful h d =
    let row = rule-along known p lawful i j q ps h d in
    along i row.0 j row.1

pub derived-matched : AreWords text_pattern_words concat → ((i : ImageOf Name) (ks : List (ImageOf Name)) (j : ImageOf Name) → RewrittenAlong i ks j → AreMatched i j no_renaming) →
    (i j : ImageOf Name) (p q : PatternOf Name) (xs : List CertStep) → IsLawful p → derives xs p q ≡ true → RuleApplied (record { pattern = p; replacement = q }) i j → AreMatched i j no_renaming
derived-matched known along i j p q xs lawful h d =
    let row = derived-along known p lawful i j q (derived-steps xs p q h) d in
    along i row.0 j row.1
