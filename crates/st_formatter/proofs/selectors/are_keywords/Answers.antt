use Rattle.std.proofs.Common.{sym, ap, ◌∙◌}
use Rattle.std.proofs.lemmas.List.{drop_all}
use Rattle.text_model.proofs.KeywordRows.{are_keywords, keywords_row}
use Rattle.st_formatter.proofs.selectors.are_keywords.Goals as goal

pub returns : goal.returns
returns c =
    sym (keywords_row c.args.text.now ∙ c.loop-byte.invariant ∙ ap (are_keywords c.loop-byte.begins) (drop_all _ _ c.loop-byte-test.false))
