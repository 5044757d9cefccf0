-- What the laws ask of an image before a command changes its variables; each valid image behind the kernel meets it.
use Rattle.std.specs.Prelude.{IsTrue}
use Rattle.std.specs.List.{AllByRecursion}
use Rattle.rb_base.specs.Names.{text_eq}
use Rattle.image_model.specs.Image.{ClassOf, ImageOf}
use Rattle.image_model.specs.Chain.{chain}
use Rattle.run_model.specs.Values.{Name}
use Rattle.run_model.specs.Runs.{doit_class}
use Rattle.mapped_model.specs.NamesOfImages.{HasOrderedClasses}

-- the classes are in order, and those from that of do-its upwards are the kernel's
pub record HasKernelDoIts (i : ImageOf Name) : Type 0 where
  pub ordered : HasOrderedClasses i
  pub doits : AllByRecursion (λ (e : ClassOf Name). IsTrue e.kernel) (chain text_eq i.classes (doit_class i))
