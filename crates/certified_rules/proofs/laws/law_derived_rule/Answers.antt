use Rattle.certified_rules.proofs.CertifiedRule.{derived-matched}
use Rattle.certified_rules.proofs.laws.law_derived_rule.Goals as goal

pub returns : goal.returns
returns c = λ i j p q xs lawful h d. derived-matched c.law_text_words.ensures c.law_rewritten_images.ensures i j p q xs lawful h d
