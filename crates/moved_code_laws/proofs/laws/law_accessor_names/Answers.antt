use Rattle.moved_code_laws.proofs.AccessorsCalled.{accessors-called}
use Rattle.moved_code_laws.proofs.laws.law_accessor_names.Goals as goal

pub returns : goal.returns
returns g = λ x. accessors-called x
