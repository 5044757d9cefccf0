-- Classes of which the language itself speaks, and what stands above them.
use Rattle.std.specs.Prelude.{IsTrue, Some}
use Rattle.std.specs.List.{AllByRecursion}
use Rattle.rb_base.specs.Names.{text_eq}
use Rattle.image_model.specs.Image.{ClassOf, ImageOf}
use Rattle.image_model.specs.Chain.{chain}
use Rattle.run_model.specs.Values.{Name}
use Rattle.run_model.specs.ObjectPrimitives.{value_classes}

-- each class of which the language itself speaks is the kernel's, with all classes above it
abbrev pub HasKernelChains : ImageOf Name → Type 0
HasKernelChains i = AllByRecursion (λ (v : Name). AllByRecursion (λ (e : ClassOf Name). IsTrue e.kernel) (chain text_eq i.classes (Some v))) value_classes
