use Rattle.rule_laws.proofs.RuleHolds.{rule_holds}
use Rattle.rule_laws.proofs.Applied.{rule_matched}
use Rattle.rule_laws.proofs.RuledImages.{rule_valid, rule_fileable, rule_first}
use Rattle.rule_laws.proofs.laws.law_rule_keeps_runs.Goals as goal

pub returns : goal.returns
returns k kernel c spelled = record {
  valid = λ i v none. (let h = rule_holds c i none in rule_valid k.law_text_words.ensures kernel i v c.rule c.certificate spelled.lawful spelled.comments h.derived h.shallow);
  fileable = λ i v f none. (let h = rule_holds c i none in rule_fileable k.law_text_words.ensures kernel i v c.rule c.certificate spelled.lawful spelled.comments h.derived h.shallow f);
  first = λ i v f none. (let h = rule_holds c i none in rule_first k.law_text_words.ensures kernel i v c.rule c.certificate spelled.lawful spelled.comments h.derived h.shallow f);
  matched = λ i none. (let h = rule_holds c i none in rule_matched k.law_text_words.ensures k.law_rewritten_images.ensures c.rule c.certificate i spelled.lawful h.derived);
}
