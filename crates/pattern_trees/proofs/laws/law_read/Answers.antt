use Rattle.pattern_trees.proofs.Lexing.{lexed_texts}
use Rattle.pattern_trees.proofs.Fitting.{lawful}
use Rattle.pattern_trees.proofs.Counted.{all_counted}
use Rattle.pattern_trees.proofs.laws.law_read.Goals as goal

pub returns-clause-lawful : goal.returns-clause-lawful
returns-clause-lawful c = λ text tree s. lawful s.tokens tree (lexed_texts text s.tokens s.lexed) s.grammar

pub returns-clause-placed : goal.returns-clause-placed
returns-clause-placed c = λ text tree s. all_counted s.tokens tree (lexed_texts text s.tokens s.lexed) s.grammar
