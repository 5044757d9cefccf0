use Rattle.std.proofs.Common.{◌≡◌, arith}
use Rattle.certificates.proofs.Digits.{ten}
use Rattle.certificates.proofs.Stopping.{no_law, law_zero, law_ten, law_one, law_more}
use Rattle.certificates.proofs.reading.law_in.Goals as goal

pub returns-in_default-clause-halts : goal.returns-in_default-clause-halts
returns-in_default-clause-halts c = let halts = no_law c.args.text.now c.in_default.ensures.none in grind (arith, halts)

pub returns-then-digit-eq0-clause-halts : goal.returns-then-digit-eq0-clause-halts
returns-then-digit-eq0-clause-halts c =
    let halts = law_zero c.args.text.now c.in-Some.rest.now c.in-Some.digit c.if-digit-eq0.true c.in-Some.ensures.some.1 in grind (arith, halts)

pub returns-then-digit-gt1-clause-goes_on : goal.returns-then-digit-gt1-clause-goes_on
returns-then-digit-gt1-clause-goes_on c = law_more c.args.text.now c.in-Some.rest.now c.in-Some.digit c.in-Some.ensures.some.0 c.if-digit-gt1.true c.in-Some.ensures.some.1

pub returns-in-Some-behind_byte-clause-spelled : goal.returns-in-Some-behind_byte-clause-spelled
returns-in-Some-behind_byte-clause-spelled c =
    let one : c.in-Some.digit ≡ 1 = omega arith in
    ten c.args.text.now c.in-Some.rest.now c.in-Some-behind_byte.others.now c.in-Some.digit one c.in-Some.ensures.some.1 c.in-Some-behind_byte.ensures.some

pub returns-in-Some-behind_byte-clause-goes_on : goal.returns-in-Some-behind_byte-clause-goes_on
returns-in-Some-behind_byte-clause-goes_on c =
    let one : c.in-Some.digit ≡ 1 = omega arith in
    law_ten c.args.text.now c.in-Some.rest.now c.in-Some-behind_byte.others.now c.in-Some.digit one c.in-Some.ensures.some.1 c.in-Some-behind_byte.ensures.some

pub returns-in-None-clause-goes_on : goal.returns-in-None-clause-goes_on
returns-in-None-clause-goes_on c =
    let one : c.in-Some.digit ≡ 1 = omega arith in
    law_one c.args.text.now c.in-Some.rest.now c.in-Some.digit one c.in-Some.ensures.some.1 c.in-None.ensures.none
