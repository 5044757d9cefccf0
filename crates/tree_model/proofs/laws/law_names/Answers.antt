use Rattle.tree_model.proofs.MapNames.{map_method-id, map_method-map_method}
use Rattle.tree_model.proofs.AllNamesLemmas.{map_method-same, MethodNames-map_method, MethodNames-map_method_back}
use Rattle.tree_model.proofs.laws.law_names.Goals as goal

pub returns-clause-unchanged : goal.returns-clause-unchanged
returns-clause-unchanged g c = λ m. map_method-id m

pub returns-clause-twice : goal.returns-clause-twice
returns-clause-twice g c = λ h f m. map_method-map_method h f m

pub returns-clause-same : goal.returns-clause-same
returns-clause-same g c = λ f h m all. map_method-same f h m all

pub returns-clause-of_changed : goal.returns-clause-of_changed
returns-clause-of_changed g c = λ p f m. (λ all. MethodNames-map_method_back _ f m all, λ all. MethodNames-map_method _ f m all)
