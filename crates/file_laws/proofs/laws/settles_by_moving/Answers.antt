use Rattle.rb_base.specs.Names.{text_eq}
use Rattle.rb_base.proofs.NamesLemmas.{text_eq-refl}
use Rattle.file_laws.proofs.Settled.{settled_stays, moved}
use Rattle.file_laws.proofs.Moves.{text_equal}
use Rattle.file_laws.proofs.laws.settles_by_moving.Goals as goal

pub returns-clause-in_order : goal.returns-clause-in_order
returns-clause-in_order c = settled_stays text_eq text_eq-refl text_equal

pub returns-clause-moved : goal.returns-clause-moved
returns-clause-moved c = moved text_eq text_eq-refl text_equal
