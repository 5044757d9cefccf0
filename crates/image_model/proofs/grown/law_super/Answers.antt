use Rattle.std.proofs.Common.{true, false}
use Rattle.image_model.proofs.SearchLemmas.{super_lookup-above, super_lookup-root}
use Rattle.image_model.proofs.grown.law_super.Goals as goal

pub returns-clause-above : goal.returns-clause-above
returns-clause-above g c = λ w i n class meta s e. super_lookup-above w i n class meta s e

pub returns-clause-root : goal.returns-clause-root
returns-clause-root g c = λ w i n class s e root. super_lookup-root w i n class false s e root

pub returns-clause-root_class : goal.returns-clause-root_class
returns-clause-root_class g c = λ w i n class s e root. super_lookup-root w i n class true s e root
