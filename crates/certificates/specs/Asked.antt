-- What a line is read as: a rule with its certificate, by the texts of its names, or why it asks for none.
use Rattle.std.specs.Prelude.{ℕ, ◌<◌, Bool, true, false, is_some, List, length, map}
use Rattle.rb_base.specs.Names.{name_at}
use Rattle.pattern_model.specs.Named.{map_pattern}
use Rattle.pattern_faults.specs.Told.{cause_of, IsRefusedRule}
use Rattle.pattern_faults.specs.declared.fault.RuleFault.{RuleFault}
use Rattle.pattern_faults.specs.declared.fault.RuleFault.TheVariants as rule
use Rattle.patterns.specs.Names.{PatternNames}
use Rattle.certified_model.specs.Marks.{Text}
use Rattle.certificate_model.specs.CertificateTexts.{HasBadStep}
use Rattle.rule_model.specs.RuleCommands.{RuleCommand}
use Rattle.rule_model.specs.RuleLines.{steps_of, texts_of, HasArrowAt, IsCut}
use Rattle.certificates.specs.Shown.{step_shown}
use Rattle.certificates.specs.declared.certificate.CertificateFault.{CertificateFault}
use Rattle.certificates.specs.declared.certificate.CertificateFault.TheVariants as steps
use Rattle.certificates.specs.declared.lines.RuleRequest.{RuleRequest}
use Rattle.certificates.specs.declared.lines.RuleLineFault.{RuleLineFault}
use Rattle.certificates.specs.declared.lines.RuleLineFault.TheVariants as fault

abbrev pub command_in : List Text → RuleRequest → RuleCommand
command_in names r = record {
  certificate = map step_shown r.certificate.steps.items;
  rule = record { pattern = map_pattern (name_at names) r.rule.pattern; replacement = map_pattern (name_at names) r.rule.replacement };
}

-- the numbers of the names in its rule have texts
abbrev pub IsKnownRule : List Text → RuleRequest → Type 0
IsKnownRule names r = PatternNames (λ n. n < length names) r.rule.pattern × PatternNames (λ n. n < length names) r.rule.replacement

-- a fault of its parts as one of a line
abbrev pub of_steps : CertificateFault → RuleLineFault
of_steps (steps.BadStep at) = fault.BadSteps at
of_steps steps.Memory = fault.Memory

abbrev pub of_rule : RuleFault → RuleLineFault
of_rule (rule.Pattern f) = fault.Pattern f
of_rule (rule.Replacement f) = fault.Replacement f

-- one of the texts of the rule, which the first arrow cuts, is refused
pub record IsRefusedBehind (t : Text) (f : RuleFault) : Type 0 where
  pub first : Text
  pub second : Text
  pub cut : IsCut (texts_of t) first second
  pub refused : IsRefusedRule first second f

-- what a fault says of the line; want of memory says nothing
abbrev pub IsToldBy : Text → RuleLineFault → Type 0
IsToldBy t (fault.BadSteps at) = HasBadStep (steps_of t) at
IsToldBy t fault.NoArrow = (k : ℕ) → HasArrowAt (texts_of t) k → ⊥
IsToldBy t (fault.Pattern f) = IsRefusedBehind t (rule.Pattern f)
IsToldBy t (fault.Replacement f) = IsRefusedBehind t (rule.Replacement f)
IsToldBy t fault.Memory = Unit {0}

-- whether a fault is one of the line, and no want of memory
abbrev pub is_told : RuleLineFault → Bool
is_told (fault.BadSteps at) = true
is_told fault.NoArrow = true
is_told (fault.Pattern f) = is_some (cause_of f)
is_told (fault.Replacement f) = is_some (cause_of f)
is_told fault.Memory = false
