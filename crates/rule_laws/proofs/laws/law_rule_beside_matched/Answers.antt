use Rattle.std.proofs.Common.{subst}
use Rattle.image_model.specs.Image.{ImageOf, plus}
use Rattle.run_model.specs.Renamings.{no_renaming}
use Rattle.run_model.specs.Matched.{AreMatched}
use Rattle.certified_model.specs.Marks.{Text}
use Rattle.rule_laws.proofs.RuleHolds.{rule_holds}
use Rattle.rule_laws.proofs.Applied.{rule_matched}
use Rattle.rule_laws.proofs.laws.law_rule_beside_matched.Goals as goal

pub returns : goal.returns
returns k i c e spelled none =
    let h = rule_holds c (plus i e) none in
    subst (λ (j : ImageOf Text). AreMatched (plus i e) j no_renaming) (k.law_rule_beside.ensures c i e)
    (rule_matched k.law_text_words.ensures k.law_rewritten_images.ensures c.rule c.certificate (plus i e) spelled.lawful h.derived)
