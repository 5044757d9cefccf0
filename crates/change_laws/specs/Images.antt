-- When one image can be made of another, and what edits make of its parts.
use Rattle.std.specs.Prelude.{◌≡◌, List, [], ◌++◌, length, map, filter, codes, true, if◌then◌else◌, Some, None}
use Rattle.std.specs.List.{AllByRecursion}
use Rattle.rb_base.specs.Names.{text_eq}
use Rattle.token_model.specs.declared.kind.Dialect.TheVariants.{Second}
use Rattle.image_model.specs.Image.{ClassOf, EntryOf, ImageOf}
use Rattle.image_model.specs.Words.{text_words}
use Rattle.image_model.specs.Valid.{IsValid, IsFileable}
use Rattle.file_model.specs.Fileable.{reading_of}
use Rattle.file_model.specs.Filing.{Text}
use Rattle.file_model.specs.Hierarchy.{has_class}
use Rattle.file_model.specs.Places.{PlacedOf, no_places, class_place, placed}
use Rattle.file_model.specs.Written.{run_of, user_classes, user_methods}
use Rattle.file_rereading.specs.Rereading.{IsWithinLimits, KernelFirst}
use Rattle.change_model.specs.Differs.{in_both, differing_from, class_stays}
use Rattle.change_model.specs.Equal.{is_namesake, is_counterpart}
use Rattle.change_model.specs.Edits.{Edit, edits, clearings, class_removals, class_filings, category_in, method_removals, method_filings, replacements}
use Rattle.change_model.specs.Edited.{Stage, AreMade}
use Rattle.change_laws.specs.Merged.{with_items, place_after, item_of}

-- two valid images behind one kernel, with as many do-its and the same of them at the head; the second can be written, and there are no more classes and methods in it than there may be
pub record CanBeMade (kernel i j : ImageOf Text) : Type 0 where
  pub old : IsValid text_words (reading_of Second kernel) i
  pub new : IsValid text_words (reading_of Second kernel) j
  pub new_fileable : IsFileable (reading_of Second kernel) j
  pub old_first : KernelFirst kernel i
  pub new_first : KernelFirst kernel j
  pub few : IsWithinLimits j
  pub doits : length i.doits ≡ length j.doits
  pub heads : i.heads ≡ j.heads

-- Behind the kernel's methods stand those that both images have; the classes of all methods of the second are there, and no place is stated for a method.
pub record AwaitsMethods (kernel i j : ImageOf Text) (s : Stage) : Type 0 where
  pub there : AllByRecursion (λ (m : EntryOf Text). has_class text_eq s.image.classes (run_of m).class ≡ true) (user_methods j)
  pub methods : s.image.methods ≡ kernel.methods ++ in_both is_counterpart (user_methods i) (user_methods j)
  pub no_places : s.places.methods ≡ []

-- The methods that differ are filed in, and nothing but methods and their places changes; where the places are settled, the methods are those of the second image.
pub record HasMethods (i j : ImageOf Text) (s : Stage) : Type 0 where
  pub end : Stage
  pub made : AreMade (method_filings i j) s end
  pub others : end.image ≡ record s.image { methods = end.image.methods }
  pub class_places : end.places.classes ≡ s.places.classes
  pub settled_methods : (placed text_eq end.places end.image).methods ≡ j.methods

-- All classes of the second image are there; behind the kernel's methods stand those of the first whose classes the second has; and no place is stated for a method.
pub record HasClassesOf (kernel i j : ImageOf Text) (s : Stage) : Type 0 where
  pub there : (n : Text) → has_class text_eq j.classes n ≡ true → has_class text_eq s.image.classes n ≡ true
  pub methods : s.image.methods ≡ kernel.methods ++ filter (λ (m : EntryOf Text). has_class text_eq j.classes (run_of m).class) (user_methods i)
  pub no_places : s.places.methods ≡ []
  pub doits : s.image.doits ≡ i.doits
  pub heads : s.image.heads ≡ i.heads

-- The rest of the edits is made, and leaves classes and their places; where the places are settled, methods and do-its are those of the second image.
pub record HasTheRest (i j : ImageOf Text) (s : Stage) : Type 0 where
  pub end : Stage
  pub made : AreMade (method_removals i j ++ (method_filings i j ++ replacements i j)) s end
  pub classes : end.image.classes ≡ s.image.classes
  pub class_places : end.places.classes ≡ s.places.classes
  pub settled_methods : (placed text_eq end.places end.image).methods ≡ j.methods
  pub doits : end.image.doits ≡ j.doits
  pub heads : end.image.heads ≡ j.heads

-- a class that differs, under `Object`, without variables and with the category that it will have
abbrev pub bare : ImageOf Text → ImageOf Text → ClassOf Text → ClassOf Text
bare i j c =
    if class_stays i j c then c
    else record c { superclass = Some (codes "Object"); instance = []; shared = []; class_side = []; category = category_in j c }

-- the classes of both images as they are left before classes are filed in
abbrev pub bare_classes : ImageOf Text → ImageOf Text → List (ClassOf Text)
bare_classes i j = map (bare i j) (in_both is_namesake (user_classes i) (user_classes j))

-- the classes that differ, with their places
abbrev pub other_classes : ImageOf Text → ImageOf Text → List (PlacedOf (ClassOf Text))
other_classes i j = differing_from 1 (class_stays j i) (user_classes j)

-- Classes were left bare, and those that differ were put in and have their places.
pub record HasFiledClasses (kernel i j : ImageOf Text) (s : Stage) : Type 0 where
  pub classes : s.image.classes ≡ kernel.classes ++ with_items is_namesake (map item_of (other_classes i j)) (bare_classes i j)
  pub places : (c : ClassOf Text) → class_place text_eq s.places.classes c ≡ place_after is_namesake (other_classes i j) (λ x. None) c

-- an image for which no place is stated
abbrev pub at_rest : ImageOf Text → Stage
at_rest i = record { image = i; places = no_places }

-- the edits of classes
abbrev pub class_edits : ImageOf Text → ImageOf Text → List Edit
class_edits i j = clearings i j ++ (class_removals i j ++ class_filings i j)

-- The edits of classes are made, and leave the classes filed, the methods of the classes that stay, and the do-its.
pub record AreClassesMade (kernel i j : ImageOf Text) : Type 0 where
  pub stage : Stage
  pub made : AreMade (class_edits i j) (at_rest i) stage
  pub filed : HasFiledClasses kernel i j stage
  pub left : HasClassesOf kernel i j stage

-- All edits are made, one after the other, and once places are settled the image is the second.
pub record IsMade (i j : ImageOf Text) : Type 0 where
  pub end : Stage
  pub made : AreMade (edits i j) (at_rest i) end
  pub is : placed text_eq end.places end.image ≡ j
