-- A draft with places that are stated and not settled yet.
use Rattle.std.specs.Prelude.{◌≡◌, ℕ, List, [], true, nat_eq, Option, None, Some}
use Rattle.std.specs.List.{AllByRecursion}
use Rattle.std.specs.List.Sorted.{IsPermutation}
use Rattle.image_model.specs.Image.{ClassOf, ImageOf}
use Rattle.file_model.specs.Changes.{ChangeOf, Define, DefineAt, Comment, SetClassSide, RemoveMethod, RemoveClass}
use Rattle.file_model.specs.Hierarchy.{has_class}
use Rattle.file_model.specs.Places.{PlacesOf}
use Rattle.image_draft.specs.Drafted as drafted
use Rattle.image_draft.specs.declared.method_draft.MethodDraft.{MethodDraft}
use Rattle.image_draft.specs.Arranged.{in_order}
use Rattle.image_draft.specs.Fronts.{in_front}
use Rattle.placed_draft.specs.declared.placed_draft.PlacedDraft.{PlacedDraft}

-- the classes in the order of names that is noted, or as they stand where none is
abbrev pub ordered : Option (List ℕ) → List (ClassOf ℕ) → List (ClassOf ℕ)
ordered None classes = classes
ordered (Some names) classes = in_order names classes

-- the image so far, over numbers of names
abbrev pub image_of : PlacedDraft → ImageOf ℕ
image_of p = record (drafted.image_of p.draft) { classes = ordered p.order p.draft.classes }

-- the places that are stated and not settled yet, over numbers of names
abbrev pub places_of : PlacedDraft → PlacesOf ℕ
places_of p = p.places

-- names of classes, of each one once
pub record NamesEach (names : List ℕ) (classes : List (ClassOf ℕ)) : Type 0 where
  pub permutation : IsPermutation (in_order names classes) classes
  pub there : AllByRecursion (λ n. has_class nat_eq classes n ≡ true) names

-- where an order is noted, it has the name of each class once
abbrev pub IsOrder : Option (List ℕ) → List (ClassOf ℕ) → Type 0
IsOrder None classes = Unit {0}
IsOrder (Some names) classes = NamesEach names classes

-- the draft is whole, and the order has each class once
pub record IsWhole (p : PlacedDraft) : Type 0 where
  pub draft : drafted.IsWhole p.draft
  pub order : IsOrder p.order p.draft.classes

-- the draft, where these names of its classes were noted as their order
abbrev pub with_order : List ℕ → PlacedDraft → PlacedDraft
with_order names p = record p { order = Some names }

-- a change that leaves the classes of an image where they stand, and takes none away
abbrev pub LeavesOrder : ChangeOf ℕ → Type 0
LeavesOrder (Define d) = ⊥
LeavesOrder (DefineAt d k) = ⊥
LeavesOrder (Comment c t) = Unit {0}
LeavesOrder (SetClassSide c ns) = Unit {0}
LeavesOrder (RemoveMethod c meta s) = Unit {0}
LeavesOrder (RemoveClass c) = ⊥

-- the classes stay where they stand when they are settled
pub record KeepsClasses (p : PlacedDraft) : Type 0 where
  pub order : p.order ≡ None
  pub places : p.places.classes ≡ []
  pub front : in_front (λ (c : ClassOf ℕ). c.kernel) p.draft.classes ≡ true

-- the methods stay where they stand
pub record KeepsMethods (p : PlacedDraft) : Type 0 where
  pub places : p.places.methods ≡ []
  pub front : in_front (λ (m : MethodDraft). m.kernel) p.draft.methods ≡ true
