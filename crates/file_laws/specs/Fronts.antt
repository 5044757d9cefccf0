-- Lists and images in which what is of the kernel stands before all else.
use Rattle.std.specs.Prelude.{◌≡◌, List, ◌++◌, Bool, true, false}
use Rattle.std.specs.List.{AllByRecursion}
use Rattle.image_model.specs.Image.{ClassOf, EntryOf, ImageOf}

-- whether a class is one of the kernel, and whether a method is
abbrev pub class_of_kernel : {N : Type 0} → ClassOf N → Bool
class_of_kernel c = c.kernel

abbrev pub method_of_kernel : {N : Type 0} → EntryOf N → Bool
method_of_kernel m = m.kernel

-- the items of the kernel stand before all others
pub record IsKernelInFront {X : Type 0} (is_kernel : X → Bool) (xs : List X) : Type 0 where
  pub front : List X
  pub back : List X
  pub whole : xs ≡ front ++ back
  pub of_kernel : AllByRecursion (λ x. is_kernel x ≡ true) front
  pub of_user : AllByRecursion (λ x. is_kernel x ≡ false) back

-- what is of the kernel stands in front in an image
pub record HasKernelInFront {N : Type 0} (i : ImageOf N) : Type 0 where
  pub classes : IsKernelInFront class_of_kernel i.classes
  pub methods : IsKernelInFront method_of_kernel i.methods

-- all that stands in an image is of the kernel
pub record IsAllOfKernel {N : Type 0} (i : ImageOf N) : Type 0 where
  pub classes : AllByRecursion (λ (c : ClassOf N). class_of_kernel c ≡ true) i.classes
  pub methods : AllByRecursion (λ (m : EntryOf N). method_of_kernel m ≡ true) i.methods
