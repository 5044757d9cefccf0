use Rattle.std.proofs.Common.{sym, ◌∙◌}
use Rattle.rb_base.specs.Doubling.{doubled}
use Rattle.chunk_format.proofs.Unique.{Takes-written}
use Rattle.chunk_format.proofs.Blanks.{drop_blanks-append, drop_blanks-doubled}
use Rattle.chunk_format.proofs.laws.written_is_read.Goals as goal

pub returns-clause-taken : goal.returns-clause-taken
returns-clause-taken c = Takes-written

pub returns-clause-source : goal.returns-clause-source
returns-clause-source c = λ blanks source blank start.
    sym (drop_blanks-append blanks (doubled 33 source) blank ∙ drop_blanks-doubled source start)
