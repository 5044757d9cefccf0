-- A line with a fault asks for none.
use Rattle.std.proofs.Common.{Option, Some, None}
use Rattle.std.specs.Prelude.{is_some, IsTrue, IfErr, MatchOption, Result, Ok, Err}
use Rattle.pattern_model.specs.Patterns.{PatternOf}
use Rattle.rewrite_model.specs.Saying.{Cause, SaysPattern, IsRefusedPattern, IsRefusedReplacement}
use Rattle.pattern_faults.specs.Told.{cause_of}
use Rattle.certified_model.specs.Marks.{Text}
use Rattle.rule_model.specs.RuleLines.{AsksForNone, BadSteps, NoArrow, BadPattern, BadReplacement}
use Rattle.certificates.specs.Asked.{IsToldBy, is_told}
use Rattle.certificates.specs.declared.lines.RuleRequest.{RuleRequest}
use Rattle.certificates.specs.declared.lines.RuleLineFault.{RuleLineFault}
use Rattle.certificates.specs.declared.lines.RuleLineFault.TheVariants as fault

pub asks_for_none : (t : Text) (f : RuleLineFault) → IsToldBy t f → IsTrue (is_told f) → AsksForNone t
asks_for_none t (fault.BadSteps at) h e = BadSteps at h
asks_for_none t fault.NoArrow h e = NoArrow h
asks_for_none t (fault.Pattern f) h e = by (cause_of f) h.refused e
  where
    by : (o : Option Cause) → MatchOption o (Unit {0}) (IsRefusedPattern h.first) → IsTrue (is_some o) → AsksForNone t
    by None r e = let bad : ⊥ = cc in absurd bad
    by (Some c) r e = BadPattern h.first h.second c h.cut r
asks_for_none t (fault.Replacement f) h e = by (cause_of f) h.refused e
  where
    by : (o : Option Cause) → MatchOption o (Unit {0}) (λ c. (p : PatternOf Text) × SaysPattern h.first p × IsRefusedReplacement p h.second c) → IsTrue (is_some o) → AsksForNone t
    by None r e = let bad : ⊥ = cc in absurd bad
    by (Some c) r e = BadReplacement h.first h.second r.0 c h.cut r.1 r.2
asks_for_none t fault.Memory h e = let bad : ⊥ = cc in absurd bad

-- so it is of an answer
pub none_asked : (t : Text) (r : Result RuleRequest RuleLineFault) → IfErr r (IsToldBy t) → IfErr r (λ f. IsTrue (is_told f) → AsksForNone t)
none_asked t (Ok x) h = tt
none_asked t (Err f) h = asks_for_none t f h
