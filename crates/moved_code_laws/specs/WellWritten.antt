-- What the laws on moved code ask of an image; each valid image behind the kernel has it.
use Rattle.std.specs.Prelude.{◌≡◌, false, map}
use Rattle.std.specs.List.{AllByRecursion}
use Rattle.scope_model.specs.SpecialNames.{is_pseudo_variable}
use Rattle.image_model.specs.Image.{ClassOf, EntryOf, ImageOf}
use Rattle.image_model.specs.Valid.{HasNoRepeat, signature}
use Rattle.run_model.specs.Values.{Name}
use Rattle.reread_law.specs.WholeTrees.{WellFormedMethod}
use Rattle.rename_laws.specs.BehindKernel.{IsBehindKernel}
use Rattle.agreement_laws.specs.KernelChains.{HasKernelChains}

-- The classes of which the language speaks are the kernel's, with all above them; no instance variable is called as a pseudo-variable; no two methods have one class, side and selector; and each method of the user is one that a text can spell.
pub record IsWellWritten (i : ImageOf Name) : Type 0 where
  pub behind : IsBehindKernel i
  pub kernel_chains : HasKernelChains i
  pub variables : AllByRecursion (λ (c : ClassOf Name). AllByRecursion (λ n. is_pseudo_variable n ≡ false) c.instance) i.classes
  pub once : HasNoRepeat (map signature i.methods)
  pub formed : AllByRecursion (λ (m : EntryOf Name). m.kernel ≡ false → WellFormedMethod false m.tree) i.methods
