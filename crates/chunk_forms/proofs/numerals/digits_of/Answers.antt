use Rattle.chunk_forms.proofs.Digits.{with_base, without_base}
use Rattle.chunk_forms.proofs.Strings.{none_left}
use Rattle.chunk_forms.proofs.numerals.digits_of.Goals as goal

pub returns-in-None : goal.returns-in-None
returns-in-None c =
    without_base c.args.numeral.now c.split_at.result.1.now c.base_len.result c.base_len.ensures.value c.split_at.ensures.back (none_left c.split_at.result.1.now c.in-None.ensures.cases)

pub returns-in-Some : goal.returns-in-Some
returns-in-Some c =
    with_base c.args.numeral.now c.split_at.result.1.now c.in-Some.digits.now c.base_len.result c.in-Some.field-0-0.now c.base_len.ensures.value c.split_at.ensures.back c.in-Some.ensures.cases.0
