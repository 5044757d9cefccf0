use Rattle.std.proofs.Common.{refl}
use Rattle.rule_examples.proofs.laws.judges_rules.Goals as goal

pub returns-clause-both : goal.returns-clause-both
returns-clause-both c = refl

pub returns-clause-both_derived : goal.returns-clause-both_derived
returns-clause-both_derived c = refl

pub returns-clause-not_derived : goal.returns-clause-not_derived
returns-clause-not_derived c = refl

pub returns-clause-test : goal.returns-clause-test
returns-clause-test c = refl

pub returns-clause-test_derived : goal.returns-clause-test_derived
returns-clause-test_derived c = refl

pub returns-clause-forth : goal.returns-clause-forth
returns-clause-forth c = refl

pub returns-clause-not_back : goal.returns-clause-not_back
returns-clause-not_back c = refl
