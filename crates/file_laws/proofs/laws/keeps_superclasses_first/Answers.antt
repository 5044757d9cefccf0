use Rattle.rb_base.specs.Names.{text_eq}
use Rattle.rb_base.proofs.NamesLemmas.{text_eq-refl}
use Rattle.file_laws.proofs.Moves.{text_equal}
use Rattle.file_laws.proofs.Redefined.{again_settled}
use Rattle.file_laws.proofs.laws.keeps_superclasses_first.Goals as goal

pub returns-clause-first : goal.returns-clause-first
returns-clause-first c =
    λ classes d p kernel before distinct there under above no_cycle.
    (again_settled text_eq text_eq-refl text_equal classes d p kernel (record { before = before; distinct = distinct; there = there; under = under; above_there = above; no_cycle = no_cycle })).first

pub returns-clause-same : goal.returns-clause-same
returns-clause-same c =
    λ classes d p kernel before distinct there under above no_cycle.
    (again_settled text_eq text_eq-refl text_equal classes d p kernel (record { before = before; distinct = distinct; there = there; under = under; above_there = above; no_cycle = no_cycle })).same
