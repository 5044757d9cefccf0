-- What an answer says of the text of a pattern or a rule.
use Rattle.std.specs.Prelude.{Option, Some, MatchOption, option_map}
use Rattle.grammar_model.specs.Terminal.{Text}
use Rattle.st_faults.specs.Faults.{fault_of}
use Rattle.pattern_model.specs.Patterns.{PatternOf}
use Rattle.rewrite_model.specs.Saying.{Cause, Grammar, TwoLists, UnboundInReplacement, TwiceDoubled, SaysPattern, IsRefusedPattern, IsRefusedReplacement}
use Rattle.pattern_faults.specs.declared.fault.PatternFault.{PatternFault}
use Rattle.pattern_faults.specs.declared.fault.PatternFault.TheVariants as fault
use Rattle.pattern_faults.specs.declared.fault.RuleFault.{RuleFault}
use Rattle.pattern_faults.specs.declared.fault.RuleFault.TheVariants as rule

-- the cause that an answer tells; want of memory tells none
abbrev pub cause_of : PatternFault → Option Cause
cause_of (fault.Text f) = option_map Grammar (fault_of f)
cause_of (fault.TwoLists at) = Some (TwoLists at)
cause_of (fault.UnboundInReplacement at) = Some (UnboundInReplacement at)
cause_of (fault.TwiceDoubled at) = Some (TwiceDoubled at)

-- the cause, where the answer tells one, is that of the text of a pattern
abbrev pub IsRefused : Text → PatternFault → Type 0
IsRefused text f = MatchOption (cause_of f) (Unit {0}) (IsRefusedPattern text)

-- the same of the two texts of a rule
abbrev pub IsRefusedRule : Text → Text → RuleFault → Type 0
IsRefusedRule pattern replacement (rule.Pattern f) = IsRefused pattern f
IsRefusedRule pattern replacement (rule.Replacement f) = MatchOption (cause_of f) (Unit {0}) (λ c. (p : PatternOf Text) × SaysPattern pattern p × IsRefusedReplacement p replacement c)
