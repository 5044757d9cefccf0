use Rattle.std.proofs.Common.{refl, arith}
use Rattle.std.proofs.lemmas.Grind.{common_steps}
use Rattle.text_model.specs.Pieces.{keywords_of}
use Rattle.st_formatter.proofs.Turned.{items_at-beyond}
use Rattle.st_formatter.proofs.Words.{last_item}
use Rattle.st_formatter.proofs.messages.write_keyword.Goals as goal

pub returns-then-at-count-clause-text : goal.returns-then-at-count-clause-text
returns-then-at-count-clause-text c = rw (items_at-beyond (keywords_of c.args.rest.now) c.args.at (c.requires.none (omega arith))) refl

pub returns-clause-text : goal.returns-clause-text
returns-clause-text c =
    let last = last_item _ _ _ c.args.at c.keyword_start-start.ensures.cut (c.requires.last (omega arith)) in
    rw (last.0) (grind (arith, common_steps))

pub returns-clause-rest : goal.returns-clause-rest
returns-clause-rest c =
    let last = last_item _ _ _ c.args.at c.keyword_start-start.ensures.cut (c.requires.last (omega arith)) in
    last.1
