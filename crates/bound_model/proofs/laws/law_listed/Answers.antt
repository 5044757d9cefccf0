use Rattle.std.proofs.Common.{sym}
use Rattle.std.proofs.lemmas.List.Concat.{length-flat_map}
use Rattle.std.proofs.lemmas.List.Sums.{sum_by-append}
use Rattle.bound_model.specs.LookUps.{found}
use Rattle.bound_model.specs.Listed.{look_ups}
use Rattle.bound_model.proofs.laws.law_listed.Goals as goal

pub returns-clause-length : goal.returns-clause-length
returns-clause-length g c = λ a i command. sym (length-flat_map (found a.words i) (look_ups a i command))

pub returns-clause-more : goal.returns-clause-more
returns-clause-more g c = λ a i asked others. sum_by-append _ asked others
