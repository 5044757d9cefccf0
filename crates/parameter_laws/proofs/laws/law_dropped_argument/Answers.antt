use Rattle.image_model.proofs.Lists.{all-implies}
use Rattle.rb_base.specs.Names.{text_eq}
use Rattle.parameter_laws.specs.ArgumentsChanged.{argument_dropped}
use Rattle.parameter_laws.proofs.AssignedCarried.{method-free, doit-free}
use Rattle.parameter_laws.proofs.ImagesWithout.{image-gone}
use Rattle.parameter_laws.proofs.laws.law_dropped_argument.Goals as goal

pub returns : goal.returns
returns c = λ writing i s k old behind may.
    c.law_argument_gone.ensures.removed i (argument_dropped text_eq writing s k i) s k old may
    (image-gone s k writing i (all-implies _ _ (λ m h. method-free i m h) i.methods behind.methods) (all-implies _ _ (λ d h. doit-free i d h) i.doits behind.doits) may)
