use Rattle.rb_base.specs.Names.{text_eq}
use Rattle.rb_base.proofs.NamesLemmas.{text_eq-refl}
use Rattle.file_laws.proofs.Moves.{text_equal}
use Rattle.file_laws.proofs.SettledAgain.{settled_in_order}
use Rattle.file_laws.proofs.laws.settles_any_order.Goals as goal

pub returns-clause-first : goal.returns-clause-first
returns-clause-first c = λ classes order same before. (settled_in_order text_eq text_eq-refl text_equal classes order same before).0

pub returns-clause-same : goal.returns-clause-same
returns-clause-same c = λ classes order same before. (settled_in_order text_eq text_eq-refl text_equal classes order same before).1
