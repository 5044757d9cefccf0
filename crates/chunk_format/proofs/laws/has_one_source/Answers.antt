use Rattle.std.proofs.Common.{sym, ◌∙◌}
use Rattle.chunk_format.specs.Blank.{drop_blanks}
use Rattle.chunk_format.proofs.Doubles.{source_of_paired, doubled_one}
use Rattle.chunk_format.proofs.Blanks.{IsPaired-drop_blanks}
use Rattle.chunk_format.proofs.laws.has_one_source.Goals as goal

pub returns-clause-exists : goal.returns-clause-exists
returns-clause-exists c = λ body paired. source_of_paired (drop_blanks body) (IsPaired-drop_blanks body paired)

pub returns-clause-unique : goal.returns-clause-unique
returns-clause-unique c = λ body s t is is'. doubled_one 33 s t (is ∙ sym is')
