use Rattle.std.proofs.Common.{arith}
use Rattle.std.proofs.lemmas.Int.Digits.{digits_value_more}
use Rattle.st_events.proofs.numbers.number_of.Goals as goal

pub loop-byte-preserved : goal.loop-byte-preserved
loop-byte-preserved c = record { is = omega (arith, c.loop-byte.invariant.is, c.in-Some.ensures, digits_value_more 10 c.args.text.now c.loop-byte.byte-index c.loop-byte-test.true) }
