-- A line of a log by which a session proposes a rule.
use Rattle.std.specs.Prelude.{true, [], ◌∷◌, ◌++◌, codes, Ok}
use Rattle.pattern_model.specs.Rewritten.{RuleOf}
use Rattle.rewrite_model.specs.Saying.{SaysRule}
use Rattle.ruled_model.specs.RuledScripts.{Applies}
use Rattle.team_core.specs.Events.{Propose}
use Rattle.script_model.specs.Makers.{Text}
use Rattle.script_model.specs.Examples.{a_rule_line}
use Rattle.log_model.specs.Events.{EventSays}

-- the line of a script by which a rule is asked for, after the words of a session that proposes
abbrev pub a_rule_event : Text
a_rule_event = codes "64 propose" ++ a_rule_line

abbrev pub IsRuleEvent : Type 0
IsRuleEvent =
    (rule : RuleOf Text) → SaysRule (codes " `x") (codes "`x ==> ") rule →
    EventSays a_rule_event (Ok (record { session = 64; act = Propose (Applies (record { certificate = record { law = 8; forward = true; path = [] } ∷ []; rule = rule })) }))
