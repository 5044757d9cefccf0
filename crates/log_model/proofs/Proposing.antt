-- What sessions propose.
use Rattle.std.proofs.Common.{true, [], ◌∷◌, Ok, refl, arith, codes}
use Rattle.rule_model.specs.RuleCommands.{RuleCommand}
use Rattle.history_model.specs.Rules.{Perform}
use Rattle.ruled_model.specs.RuledScripts.{Asked, Applies}
use Rattle.team_core.specs.Events.{Propose}
use Rattle.script_model.specs.Makers.{Text}
use Rattle.script_model.specs.Scripts.{Says}
use Rattle.script_model.specs.Examples.{a_rule_line, IsRuleLine}
use Rattle.log_model.specs.Events.{ActSays, Proposes, Does}
use Rattle.log_model.specs.Examples.{IsRuleEvent}

pub proposes : (behind : Text) (asked : Asked) → Says behind (Perform asked ∷ []) → ActSays (codes "propose") behind (Ok (Propose asked))
proposes behind asked says = Proposes (Perform asked ∷ []) refl says refl

pub proposes-rule : IsRuleLine → IsRuleEvent
proposes-rule line rule says =
    let c : RuleCommand = record { certificate = record { law = 8; forward = true; path = [] } ∷ []; rule = rule } in
    let script : Says a_rule_line (Perform (Applies c) ∷ []) = record { each = (line rule says, tt); few = omega arith } in
    Does 64 (Ok (Propose (Applies c))) refl refl (proposes a_rule_line (Applies c) script) refl
