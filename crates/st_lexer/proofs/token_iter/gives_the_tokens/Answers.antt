use Rattle.std.proofs.Common.{refl}
use Rattle.st_lexer.specs.Given.{start}
use Rattle.st_lexer.proofs.Items.{Yields-tokens}
use Rattle.st_lexer.proofs.token_iter.gives_the_tokens.Goals as goal

pub returns : goal.returns
returns c t items last h = Yields-tokens items (start t) h.0 last refl h.1 h.2
