use Rattle.image_model.proofs.Kept.{SuperclassesStandBefore-kept, OnlyObjectIsRoot-kept, HasClass-kept, methods_once-kept}
use Rattle.image_model.proofs.laws.law_replaced_valid.Goals as goal

pub returns-clause-superclasses : goal.returns-clause-superclasses
returns-clause-superclasses g c = λ h classes keeps before. SuperclassesStandBefore-kept h classes keeps before

pub returns-clause-root : goal.returns-clause-root
returns-clause-root g c = λ w h classes keeps only. OnlyObjectIsRoot-kept h classes keeps w only

pub returns-clause-class : goal.returns-clause-class
returns-clause-class g c = λ h classes m n keeps e has. HasClass-kept h classes keeps m n e has

pub returns-clause-methods : goal.returns-clause-methods
returns-clause-methods g c = λ f methods keeps once. methods_once-kept f methods keeps once
