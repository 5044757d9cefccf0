use Rattle.std.proofs.lemmas.Bool.{false≢true}
use Rattle.token_model.proofs.Exist.{numeral_in_no_base}
use Rattle.st_lexer.proofs.numerals.radix_end.Goals as goal

pub returns-else-is_in_base-clause-none : goal.returns-else-is_in_base-clause-none
returns-else-is_in_base-clause-none c =
    numeral_in_no_base c.args.text.now c.args.from c.args.radix c.radix_digits_end-end.result c.requires.digits c.requires.radix c.radix_digits_end-end.ensures.run (λ h. false≢true (c.if-is_in_base.ensures.1 h))
