-- The reasons that refusals tell.
use Rattle.std.specs.Prelude.{ℕ, List, map, Option, Some, None}
use Rattle.rb_base.specs.Names.{name_at}
use Rattle.certified_model.specs.Certificates.{CertStep}
use Rattle.command_numbers.specs.MappedCommands.{map_condition}
use Rattle.rule_model.specs.RuleCommands.{Reason, Unmet, Derived}
use Rattle.commands.specs.Views.{condition_of}
use Rattle.certificates.specs.Shown.{step_shown}
use Rattle.session.specs.declared.refusal.StepRefusal.{StepRefusal}
use Rattle.session.specs.declared.refusal.StepRefusal.TheVariants as step
use Rattle.session.specs.declared.refusal.RuleRefusal.{RuleRefusal}
use Rattle.session.specs.declared.refusal.RuleRefusal.TheVariants as rule
use Rattle.session.specs.declared.refusal.GroupRefusal.{GroupRefusal}
use Rattle.session.specs.declared.refusal.GroupRefusal.TheVariants as group

-- why an action is refused, over the texts of names; want of memory tells nothing
abbrev pub step_told : List (List ℕ) → StepRefusal → Option Reason
step_told names (step.Condition c) = Some (Unmet (map_condition (name_at names) (condition_of c)))
step_told names step.Memory = None

-- the same of a rule with this certificate
abbrev pub rule_told : List CertStep → List (List ℕ) → RuleRefusal → Option Reason
rule_told certificate names (rule.Condition c) = Some (Unmet (map_condition (name_at names) (condition_of c)))
rule_told certificate names rule.NotDerived = Some (Derived certificate)
rule_told certificate names rule.Memory = None

-- the same of a group, with the number of what is refused
abbrev pub group_told : List (List ℕ) → GroupRefusal → Option (ℕ × Reason)
group_told names (group.Condition n c) = Some (n, Unmet (map_condition (name_at names) (condition_of c)))
group_told names (group.NotDerived n c) = Some (n, Derived (map step_shown c.now.steps.items))
group_told names group.Memory = None
