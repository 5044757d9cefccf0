use Rattle.mapped_model.proofs.MatchedByMaps.{matched-mapped, matched-alike}
use Rattle.mapped_model.proofs.laws.law_matched_by_maps.Goals as goal

pub returns-clause-by_class : goal.returns-clause-by_class
returns-clause-by_class g = λ r f u i j classes selectors single has keeps uses inherited e. matched-mapped r f u i j classes selectors single has keeps uses inherited e

pub returns-clause-same_in_all_classes : goal.returns-clause-same_in_all_classes
returns-clause-same_in_all_classes g = λ r f u i j classes selectors single across has keeps alike uses e. matched-alike r f u i j classes selectors single across has keeps alike uses e
