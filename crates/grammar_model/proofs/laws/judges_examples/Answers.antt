use Rattle.grammar_model.proofs.ExamplesJudged.{judges_doits, judges_methods, judges_kernel_methods, judges_patterns, sees_metas, sees_lexemes, spells_doit, spells_method}
use Rattle.grammar_model.proofs.laws.judges_examples.Goals as goal

pub returns-clause-doits : goal.returns-clause-doits
returns-clause-doits c = judges_doits

pub returns-clause-methods : goal.returns-clause-methods
returns-clause-methods c = judges_methods

pub returns-clause-kernel_methods : goal.returns-clause-kernel_methods
returns-clause-kernel_methods c = judges_kernel_methods

pub returns-clause-patterns : goal.returns-clause-patterns
returns-clause-patterns c = judges_patterns

pub returns-clause-metas : goal.returns-clause-metas
returns-clause-metas c = sees_metas

pub returns-clause-lexemes : goal.returns-clause-lexemes
returns-clause-lexemes c = sees_lexemes

pub returns-clause-doit_tree : goal.returns-clause-doit_tree
returns-clause-doit_tree c = spells_doit

pub returns-clause-method_tree : goal.returns-clause-method_tree
returns-clause-method_tree c = spells_method
