-- The same classes in another order, and changes without the places that they state.
use Rattle.std.specs.Prelude.{◌≡◌, List, Bool, Result, Ok}
use Rattle.std.specs.List.Sorted.{IsPermutation}
use Rattle.image_model.specs.Image.{ClassOf, ImageOf}
use Rattle.image_model.specs.Valid.{HasNoRepeat, class_names, SuperclassesStandBefore}
use Rattle.file_model.specs.Causes.{Cause}
use Rattle.file_model.specs.Changes.{ChangeOf, Define, DefineAt, Comment, SetClassSide, RemoveMethod, RemoveClass}
use Rattle.file_model.specs.Applied.{changed}

-- the same classes in another order, no two of one name
pub record AreSameClasses {N : Type 0} (cs ds : List (ClassOf N)) : Type 0 where
  pub permutation : IsPermutation cs ds
  pub distinct : HasNoRepeat (class_names cs)

-- the change without the place that it states
abbrev pub unplaced : {N : Type 0} → ChangeOf N → ChangeOf N
unplaced (Define d) = Define d
unplaced (DefineAt d k) = Define d
unplaced (Comment n text) = Comment n text
unplaced (SetClassSide n names) = SetClassSide n names
unplaced (RemoveMethod c meta s) = RemoveMethod c meta s
unplaced (RemoveClass n) = RemoveClass n

-- the image with other classes
abbrev pub with_classes : {N : Type 0} → List (ClassOf N) → ImageOf N → ImageOf N
with_classes classes i = record i { classes = classes }

-- A change gives an image; without the place that it states, it gives of the same classes in another order the same image in another order, in which each superclass stands before its subclasses.
pub record IsChangedAlike {N : Type 0} (same : N → N → Bool) (kernel : Bool) (c : ChangeOf N) (i : ImageOf N) (ds : List (ClassOf N)) (j : ImageOf N) : Type 0 where
  pub classes : List (ClassOf N)
  pub gives : ◌≡◌ {A = Result (ImageOf N) Cause} (changed same kernel (unplaced c) (with_classes ds i)) (Ok (with_classes classes j))
  pub alike : AreSameClasses j.classes classes
  pub before : SuperclassesStandBefore classes
