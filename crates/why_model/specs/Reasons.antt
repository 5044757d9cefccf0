-- What is in the way of a single change that is refused: of a command, or of a rule with its certificate.
use Rattle.std.specs.Prelude.{◌≡◌, Bool, true, List, [], ◌∷◌, codes, ℕ}
use Rattle.std.specs.Option.{option_map_or}
use Rattle.scope_model.specs.Control.{is_empty}
use Rattle.image_model.specs.Image.{ImageOf}
use Rattle.rename_model.specs.CommandWords.{text_command_words}
use Rattle.query_model.specs.Lines.{Text}
use Rattle.command_model.specs.Asked.{text_asked}
use Rattle.command_model.specs.Conditions.{NoReflection, Shallow}
use Rattle.certified_model.specs.Certificates.{stuck_at}
use Rattle.rule_model.specs.RuleCommands.{RuleCommand, Reason, Unmet, Derived, rule_effect}
use Rattle.ruled_model.specs.RuledScripts.{Change, Plainly, ByRule}
use Rattle.refusal_witnesses.specs.Witnesses.{WitnessOf, AStep}
use Rattle.refusal_witnesses.specs.NameWitnesses.{reflections_there}
use Rattle.refusal_witnesses.specs.ParameterWitnesses.{too_high}
use Rattle.refusal_witnesses.specs.Sentences.{sentence}
use Rattle.refusal_witnesses.specs.Refused.{HasWitnesses, is_there, witnesses}

-- of a rule: the reflective code of the user; the step at which the certificate is stuck; and the code that is too high in the image after. A rule has no other condition.
abbrev pub rule_witnesses : ImageOf Text → RuleCommand → Reason → List (WitnessOf Text)
rule_witnesses i c (Unmet NoReflection) = reflections_there text_command_words i
rule_witnesses i c (Derived steps) = option_map_or (λ k. AStep k ∷ []) (stuck_at steps c.rule.pattern c.rule.replacement) []
rule_witnesses i c (Unmet Shallow) = too_high (rule_effect c i)
rule_witnesses i c (Unmet condition) = []

-- of a change; a command has no certificate
abbrev pub change_witnesses : ImageOf Text → Change → Reason → List (WitnessOf Text)
change_witnesses i (Plainly command) (Unmet condition) = witnesses text_asked i command condition
change_witnesses i (Plainly command) (Derived steps) = []
change_witnesses i (ByRule c) reason = rule_witnesses i c reason

-- the reasons that witnesses show
abbrev pub ReasonHasWitnesses : Reason → Type 0
ReasonHasWitnesses (Unmet condition) = HasWitnesses condition
ReasonHasWitnesses (Derived steps) = Unit {0}

-- whether what a reason speaks of is there; of a rule all is
abbrev pub is_reason_there : ImageOf Text → Change → Reason → Bool
is_reason_there i (Plainly command) (Unmet condition) = is_there text_asked i command condition
is_reason_there i (Plainly command) (Derived steps) = true
is_reason_there i (ByRule c) reason = true

-- each of the judged conditions of a rule holds exactly if nothing is in its way
abbrev pub AreShown : ImageOf Text → RuleCommand → List (Reason × Bool) → Type 0
AreShown i c [] = Unit {0}
AreShown i c (j ∷ js) = (j.1 ≡ is_empty (rule_witnesses i c j.0)) × AreShown i c js

-- the sentence of a reason
abbrev pub reason_sentence : Reason → List ℕ
reason_sentence (Unmet condition) = sentence condition
reason_sentence (Derived steps) = codes "The steps of the certificate lead from the pattern to the replacement."
