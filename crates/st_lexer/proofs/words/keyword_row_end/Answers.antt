use Rattle.token_model.specs.Tokens.{Last, More}
use Rattle.st_lexer.proofs.words.keyword_row_end.Goals as goal

pub loop-end-preserved : goal.loop-end-preserved
loop-end-preserved c =
    let (last, word, on) = c.loop-end.invariant in
    (c.loop-end.at, c.in-Some.ensures.some, λ j row. on j (More last c.loop-end.at j word row))

pub returns : goal.returns
returns c =
    let (last, word, on) = c.loop-end.invariant in
    on c.loop-end.at (Last last c.loop-end.at word c.in_default.ensures.none)
