-- What is asked of an image of which a variable is renamed that classes below have too.
use Rattle.std.specs.Prelude.{IsTrue}
use Rattle.std.specs.List.{AllByRecursion}
use Rattle.rb_base.specs.Names.{text_eq}
use Rattle.image_model.specs.Image.{ClassOf, ImageOf}
use Rattle.image_model.specs.Chain.{chain}
use Rattle.image_model.specs.Means.{VariableKind}
use Rattle.image_model.specs.Valid.{DefinesOnceOnChain}
use Rattle.run_model.specs.Values.{Name}
use Rattle.run_model.specs.Runs.{doit_class}
use Rattle.mapped_model.specs.NamesOfImages.{HasOrderedClasses}

-- the classes are in order, no variable of the kind is defined twice on the chain of a class, and the classes from that of do-its upwards are the kernel's
pub record HasVariablesOnce (kind : VariableKind) (i : ImageOf Name) : Type 0 where
  pub ordered : HasOrderedClasses i
  pub once : AllByRecursion (DefinesOnceOnChain text_eq i.classes kind) i.classes
  pub doits : AllByRecursion (λ (e : ClassOf Name). IsTrue e.kernel) (chain text_eq i.classes (doit_class i))
