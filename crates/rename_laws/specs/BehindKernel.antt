-- What holds of each image that is read behind the kernel.
use Rattle.std.specs.Prelude.{◌≡◌, ℕ, List, Bool, true, false, IsTrue, Some}
use Rattle.std.specs.List.{AllByRecursion}
use Rattle.std.specs.Option.{option_map_or}
use Rattle.rb_base.specs.Names.{text_eq}
use Rattle.tree_model.specs.Tree.{TreeOf, assign, SequenceOf}
use Rattle.tree_model.specs.Path.{part_in}
use Rattle.image_model.specs.Image.{ClassOf, EntryOf, DoItOf, ImageOf}
use Rattle.image_model.specs.Words.{text_words}
use Rattle.image_model.specs.Chain.{class_named}
use Rattle.image_model.specs.Means.{MeaningOf, pseudo, argument, temporary, variable, a_class, transcript, undeclared, means, means_in_doit}
use Rattle.image_model.specs.Valid.{HasClass}
use Rattle.run_model.specs.Values.{Name}
use Rattle.run_model.specs.ObjectPrimitives.{value_classes}
use Rattle.mapped_model.specs.NamesOfImages.{HasOrderedClasses}

-- whether a name stands for what the grammar lets no code assign: a pseudo-variable, an argument or a parameter
abbrev pub is_fixed : MeaningOf Name → Bool
is_fixed pseudo = true
is_fixed (argument scope) = true
is_fixed (temporary scope) = false
is_fixed (variable kind c) = false
is_fixed (a_class c) = false
is_fixed transcript = false
is_fixed undeclared = false

-- no node of a sequence assigns such a name, by what names mean there
abbrev pub AssignsNothingFixed : (List ℕ → Name → MeaningOf Name) → SequenceOf Name → Type 0
AssignsNothingFixed at b = (path : List ℕ) (n : Name) (t : TreeOf Name) → part_in b path ≡ Some (assign n t) → is_fixed (at path n) ≡ false

-- whether a name is that of a class of the kernel
abbrev pub is_kernel_class : ImageOf Name → Name → Bool
is_kernel_class i n = option_map_or (λ (c : ClassOf Name). c.kernel) (class_named text_eq i.classes n) false

-- The classes are in order and have names of their own, and those of which the language itself speaks are the kernel's; the class of each method is there; and no code assigns a pseudo-variable, an argument or a parameter.
pub record IsBehindKernel (i : ImageOf Name) : Type 0 where
  pub ordered : HasOrderedClasses i
  pub words : AllByRecursion (λ n. IsTrue (is_kernel_class i n)) value_classes
  pub classes_there : AllByRecursion (HasClass i.classes) i.methods
  pub methods : AllByRecursion (λ (m : EntryOf Name). AssignsNothingFixed (means text_words i m) m.tree.body) i.methods
  pub doits : AllByRecursion (λ (d : DoItOf Name). AssignsNothingFixed (means_in_doit text_words i d) d.body) i.doits
