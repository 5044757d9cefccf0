use Rattle.std.proofs.Common.{◌+◌, sym, arith}
use Rattle.std.proofs.lemmas.Bool.{lt-leb}
use Rattle.std.proofs.lemmas.Int.Digits.{digits_value_more}
use Rattle.std.proofs.lemmas.Str.Parse.{digits_value-take-le}
use Rattle.std.specs.Str.Parse.{digits_value}
use Rattle.st_faults.proofs.numeral.is_small.Goals as goal

pub returns-then-value-gt-HIGHEST_NUMBER : goal.returns-then-value-gt-HIGHEST_NUMBER
returns-then-value-gt-HIGHEST_NUMBER c =
    sym (lt-leb (digits_value 10 c.args.text.now) 65535 (omega (
      arith,
      c.loop-byte.invariant.is,
      c.value_more-value.ensures,
      digits_value_more 10 c.args.text.now c.loop-byte.byte-index c.loop-byte-test.true,
      digits_value-take-le 10 c.args.text.now (c.loop-byte.byte-index + 1) (omega arith),
    )))

pub loop-byte-preserved : goal.loop-byte-preserved
loop-byte-preserved c = record {
  is = omega (arith, c.loop-byte.invariant.is, c.value_more-value.ensures, digits_value_more 10 c.args.text.now c.loop-byte.byte-index c.loop-byte-test.true);
  low = omega arith;
}
