use Rattle.std.proofs.Common.{refl}
use Rattle.std.specs.Fmt.{digits}
use Rattle.image_maker.proofs.laws.is_written_as_a_file.Goals as goal

pub returns-clause-one : goal.returns-clause-one
unfolding digits
returns-clause-one c = refl

pub returns-clause-three : goal.returns-clause-three
unfolding digits
returns-clause-three c = refl

pub returns-clause-eleven : goal.returns-clause-eleven
unfolding digits
returns-clause-eleven c = refl
