-- How far a file-out was read, over numbers of names.
use Rattle.std.specs.Prelude.{◌≡◌, ℕ, ◌≤◌, length, map, true, nat_eq, Option, Some, None, Result, Ok, Err}
use Rattle.std.specs.List.{AllByRecursion}
use Rattle.std.specs.Option.{ForSome}
use Rattle.image_model.specs.Image.{ImageOf}
use Rattle.image_model.specs.Valid.{SuperclassesStandBefore, HasClass}
use Rattle.class_table.specs.View.{doit_of}
use Rattle.file_model.specs.Causes.{Cause}
use Rattle.file_model.specs.Changes.{ChangeOf, Define, Comment, SetClassSide, RemoveMethod, RemoveClass}
use Rattle.file_model.specs.Hierarchy.{has_class}
use Rattle.file_faults.specs.declared.fault.ImageCause.{ImageCause}
use Rattle.file_faults.specs.Faults.{cause_of}
use Rattle.image_draft.specs.Entries.{entry_of}
use Rattle.image_draft.specs.Names.{NamesDiffer}
use Rattle.image_draft.specs.declared.draft.Draft.{Draft}
use Rattle.image_draft.specs.declared.change.Change.{Change}
use Rattle.image_draft.specs.declared.change.Change.TheVariants as change

-- the image so far, over numbers of names
abbrev pub image_of : Draft → ImageOf ℕ
image_of d = record { classes = d.classes; methods = map entry_of d.methods; doits = map doit_of d.doits.items; heads = d.heads }

-- a change, over numbers of names
abbrev pub change_of : Change → ChangeOf ℕ
change_of (change.Define d) = Define d
change_of (change.Comment class text) = Comment class text
change_of (change.SetClassSide class names) = SetClassSide class names
change_of (change.RemoveMethod class meta selector) = RemoveMethod class meta selector
change_of (change.RemoveClass class) = RemoveClass class

-- what is answered is the cause of a refusal, or there is none and the value is made
abbrev pub Makes : {X : Type 0} → Option ImageCause → Result X Cause → X → Type 0
Makes None r x = r ≡ Ok x
Makes (Some c) r x = (k : Cause) × (cause_of c ≡ Some k) × (r ≡ Err k)

-- no two classes have one name, each superclass stands before its subclasses, the class of each method and that of the run are there, and no more do-its stand at the head than there are
pub record IsWhole (d : Draft) : Type 0 where
  pub names_differ : NamesDiffer d.classes
  pub superclasses_before : SuperclassesStandBefore d.classes
  pub method_classes_there : AllByRecursion (HasClass d.classes) (map entry_of d.methods)
  pub run_class_there : ForSome d.run (λ r. has_class nat_eq d.classes r.class ≡ true)
  pub heads_within : d.heads ≤ length d.doits.items
