use Rattle.std.proofs.Common.{◌<◌, subst}
use Rattle.st_lexer.specs.Pieces.{piece}
use Rattle.st_lexer.specs.Given.{left}
use Rattle.st_lexer.proofs.Items.{left-less}
use Rattle.st_lexer.proofs.token_iter.TokenIterIterator.next.Goals as goal

pub returns-in-Ok-clause-goes : goal.returns-in-Ok-clause-goes
returns-in-Ok-clause-goes c =
    let fields = c.self.inside in
    let text = fields.text.now in
    let token = c.in-Ok.token in
    let over = c.is_end_kind-self-inside in
    let less = left-less text fields.at (piece token) fields.over over.result c.self.invariant c.if-self.false c.in-Ok.ensures.token over.ensures in
    record {
      on = λ finite. (tt, tt, subst (λ u. left (record { text = text; at = token.to; over = over.result }) < left u) c.self.view_is less);
      keeps = tt;
      rests = λ _. tt;
    }
