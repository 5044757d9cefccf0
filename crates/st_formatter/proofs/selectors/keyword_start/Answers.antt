use Rattle.std.proofs.Common.{◌≡◌, length, arith}
use Rattle.text_model.specs.Pieces.{keywords_of}
use Rattle.st_formatter.proofs.Words.{only_keyword, bytes-some}
use Rattle.st_formatter.proofs.selectors.keyword_start.Goals as goal

pub returns-then-number-eq0-clause-cut : goal.returns-then-number-eq0-clause-cut
returns-then-number-eq0-clause-cut c =
    let one : length (keywords_of c.args.selector.now) ≡ 1 = omega arith in only_keyword c.args.selector.now one

pub last_keyword-requires : goal.last_keyword-requires
last_keyword-requires c = bytes-some c.args.selector.now (omega arith)
