-- What all edits make, wherever a text is read that makes the first image.
use Rattle.std.specs.Prelude.{◌≡◌, [], ◌∷◌, codes, true}
use Rattle.rb_base.specs.Names.{text_eq}
use Rattle.image_model.specs.Image.{ImageOf}
use Rattle.file_model.specs.Filing.{Text}
use Rattle.file_model.specs.Hierarchy.{has_class}
use Rattle.file_model.specs.Places.{placed}
use Rattle.change_model.specs.Differs.{DifferenceOf, differs}
use Rattle.change_model.specs.Edits.{Settle, edits}
use Rattle.change_model.specs.Edited.{Stage, AreMade}

-- the kernel has `Object`
abbrev pub HasRoot : ImageOf Text → Type 0
HasRoot kernel = has_class text_eq kernel.classes (codes "Object") ≡ true

-- Where the places are settled first, all edits are made, one after the other; and once places are settled again the image is the second.
pub record IsMadeFrom (i j : ImageOf Text) (s : Stage) : Type 0 where
  pub end : Stage
  pub made : AreMade (Settle ∷ edits i j) s end
  pub is : placed text_eq end.places end.image ≡ j

-- nothing differs
abbrev pub NothingDiffers : ImageOf Text → ImageOf Text → Type 0
NothingDiffers i j = ◌≡◌ {A = DifferenceOf} (differs i j) (record { classes = []; methods = []; doits = [] })
