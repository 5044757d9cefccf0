-- The command that rewrites code by a rule with a certificate: its conditions, and what it makes of an image.
use Rattle.std.specs.Prelude.{Bool, not, find, List, [], ◌∷◌, Option, Some, None, Result, Ok, Err}
use Rattle.std.specs.Option.{option_map_or}
use Rattle.image_model.specs.Image.{ImageOf}
use Rattle.pattern_model.specs.Rewritten.{RuleOf}
use Rattle.certified_model.specs.Marks.{Text}
use Rattle.certified_model.specs.Certificates.{CertStep, derives}
use Rattle.rewrite_model.specs.Rewritten.{rewritten_image}
use Rattle.rename_model.specs.CommandWords.{text_command_words}
use Rattle.rename_model.specs.Conditions.{has_no_reflection}
use Rattle.command_model.specs.Conditions.{ConditionOf, NoReflection, Shallow}
use Rattle.command_model.specs.ParameterConditions.{is_shallow}

-- all methods of users and all do-its are rewritten by a rule that a certificate derives
pub record RuleCommand : Type 0 where
  pub certificate : List CertStep
  pub rule : RuleOf Text

-- Why a command is refused: one of the conditions that other commands have too, or C45: the certificate derives the rule. Of that the certificate is printed.
pub data Reason : Type 0 where
  Unmet : ConditionOf Text → Reason
  Derived : List CertStep → Reason

-- whether the certificate derives the rule
abbrev pub is_derived : RuleCommand → Bool
is_derived c = derives c.certificate c.rule.pattern c.rule.replacement

-- the image after: each place where the pattern of the rule matches is replaced, in all methods of users and in all do-its
abbrev pub rule_effect : RuleCommand → ImageOf Text → ImageOf Text
rule_effect c i = rewritten_image c.rule i

-- its conditions in their order, and whether each holds: no code looks at the program itself, the certificate derives the rule, and no tree is too high afterwards
abbrev pub rule_judged : RuleCommand → ImageOf Text → List (Reason × Bool)
rule_judged c i =
    (Unmet NoReflection, has_no_reflection text_command_words i)
    ∷ (Derived c.certificate, is_derived c)
    ∷ (Unmet Shallow, is_shallow (rule_effect c i))
    ∷ []

-- the first that is false
abbrev pub first_false_of_rule : RuleCommand → ImageOf Text → Option Reason
first_false_of_rule c i = option_map_or (λ (j : Reason × Bool). Some j.0) (find (λ (j : Reason × Bool). not j.1) (rule_judged c i)) None

-- the image after the command, or the first of its conditions that is false
abbrev pub rule_result : RuleCommand → ImageOf Text → Result (ImageOf Text) Reason
rule_result c i = option_map_or (λ (r : Reason). Err r) (first_false_of_rule c i) (Ok (rule_effect c i))
