use Rattle.resolved_model.specs.ResolvedImages.{resolved_image}
use Rattle.mapped_model.specs.NamesInUse.{HasInstance, HasClassSide}
use Rattle.mapped_model.proofs.RunsMapped.{run-after, run_to-after}
use Rattle.mapped_model.proofs.Suited.{AnyOf, AnyOn, alike-suited, inherited-suited}
use Rattle.mapped_model.proofs.MatchedByMaps.{run-mapped}
use Rattle.mapped_model.proofs.laws.law_mapped_runs.Goals as goal

pub returns-clause-run : goal.returns-clause-run
returns-clause-run g = λ f i n one keeps alike. run-after f one keeps AnyOf AnyOn i (alike-suited f alike i) n

pub returns-clause-any_depth : goal.returns-clause-any_depth
returns-clause-any_depth g = λ f i d n one keeps alike. run_to-after f one keeps AnyOf AnyOn i (alike-suited f alike i) d n

pub returns-clause-images : goal.returns-clause-images
returns-clause-images g = λ f i j n one keeps alike e. run-mapped f AnyOf AnyOn i j n one keeps (alike-suited f alike (resolved_image i)) e

pub returns-clause-run_by_class : goal.returns-clause-run_by_class
returns-clause-run_by_class g = λ f u i n one keeps uses inherited. run-after f one keeps (HasInstance u) (HasClassSide u) i (inherited-suited u f i uses inherited) n

pub returns-clause-any_depth_by_class : goal.returns-clause-any_depth_by_class
returns-clause-any_depth_by_class g = λ f u i d n one keeps uses inherited. run_to-after f one keeps (HasInstance u) (HasClassSide u) i (inherited-suited u f i uses inherited) d n
