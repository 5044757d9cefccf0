use Rattle.mentions.proofs.NamesChanged.{code_names-map_sequence, method_names-map_method}
use Rattle.mentions.proofs.laws.law_names_changed.Goals as goal

pub returns-clause-sequence : goal.returns-clause-sequence
returns-clause-sequence g c = λ f b. code_names-map_sequence f b

pub returns-clause-method : goal.returns-clause-method
returns-clause-method g c = λ f m. method_names-map_method f m
