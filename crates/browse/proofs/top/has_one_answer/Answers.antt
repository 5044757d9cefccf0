use Rattle.browse.proofs.OneAnswer.{answers_one}
use Rattle.browse.proofs.top.has_one_answer.Goals as goal

pub returns : goal.returns
returns c =
    answers_one (record {
      applies = c.has_one_answer.ensures;
      applies_in = c.has_one_answer_in_image.ensures;
      changes_in = c.has_one_change_in_image.ensures;
      plays = c.has_one_answer-2.ensures;
      explains = c.has_one_answer-3.ensures;
      imported = c.has_one_import.ensures;
      requests = c.has_one_reading.ensures.requests;
      pattern = c.has_one_pattern.ensures.one;
      no_pattern = c.has_one_pattern.ensures.refused;
      pattern_cause = c.has_one_pattern.ensures.one_cause;
      replacement = c.has_one_rule.ensures.one;
      no_replacement = c.has_one_rule.ensures.refused;
      replacement_cause = c.has_one_rule.ensures.one_cause;
      lines = c.has_one_list_of_lines.ensures;
    })
