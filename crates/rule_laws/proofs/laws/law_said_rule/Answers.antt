use Rattle.std.proofs.Common.{sym, subst}
use Rattle.pattern_model.specs.Patterns.{PatternOf}
use Rattle.certified_model.specs.Marks.{Text}
use Rattle.rule_kept.specs.PatternComments.{HasComments}
use Rattle.rule_laws.proofs.laws.law_said_rule.Goals as goal

pub returns : goal.returns
returns k first second c says =
    let said = says.replacement.said in
    record {
      lawful = k.has_one_pattern.ensures.lawful first c.rule.pattern says.pattern;
      comments = subst (λ (q : PatternOf Text). HasComments q) (sym said.same) (k.law_spelled_comments.ensures second said.tree said.spells);
    }
