use Rattle.pattern_model.specs.Matches.{is_operand_kind}
use Rattle.pattern_trees.proofs.Unmapped.{lawful_unmapped}
use Rattle.pattern_trees.proofs.laws.law_unnamed.Goals as goal

pub returns : goal.returns
returns g c = λ f p h. lawful_unmapped f p is_operand_kind h
