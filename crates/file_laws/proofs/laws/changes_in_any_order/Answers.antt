use Rattle.rb_base.specs.Names.{text_eq}
use Rattle.rb_base.proofs.NamesLemmas.{text_eq-refl}
use Rattle.file_laws.proofs.Moves.{text_equal}
use Rattle.file_laws.proofs.OtherOrderChanges.{refused_alike, refused_back, changed_alike}
use Rattle.file_laws.proofs.laws.changes_in_any_order.Goals as goal

pub returns-clause-refused : goal.returns-clause-refused
returns-clause-refused c =
    λ kernel change image others cause m.
    (refused_alike text_eq text_eq-refl text_equal kernel change image others cause m, refused_back text_eq text_eq-refl text_equal kernel change image others cause m)

pub returns-clause-given : goal.returns-clause-given
returns-clause-given c = λ kernel change image given others m before h. changed_alike text_eq text_eq-refl text_equal kernel change image given others m before h
