use Rattle.pattern_match.proofs.Told.{literal_test}
use Rattle.pattern_match.proofs.words.same_literal.Goals as goal

pub returns : goal.returns
returns c = literal_test c.same.result c.args.a.now c.args.b.now c.same.ensures
