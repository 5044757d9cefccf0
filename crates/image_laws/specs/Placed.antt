-- Images with a class or a method put in at a place or taken out of it, and when a class may be.
use Rattle.std.specs.Prelude.{◌≡◌, ◌↔◌, ℕ, insert, Bool, true, Some}
use Rattle.std.specs.List.{remove, AllByRecursion}
use Rattle.image_model.specs.Image.{ClassOf, EntryOf, ImageOf}
use Rattle.image_model.specs.Valid.{IsNamedBefore}

-- the image without the class at a place
abbrev pub without_class : {N : Type 0} → ImageOf N → ℕ → ImageOf N
without_class i p = record i { classes = remove i.classes p }

-- the image with a class put in at a place
abbrev pub with_class_at : {N : Type 0} → ImageOf N → ℕ → ClassOf N → ImageOf N
with_class_at i p c = record i { classes = insert i.classes p c }

-- the image without the method at a place
abbrev pub without_method : {N : Type 0} → ImageOf N → ℕ → ImageOf N
without_method i p = record i { methods = remove i.methods p }

-- the image with a method put in at a place
abbrev pub with_method_at : {N : Type 0} → ImageOf N → ℕ → EntryOf N → ImageOf N
with_method_at i p m = record i { methods = insert i.methods p m }

-- the test passes for each name and itself, and for no two names
abbrev pub TellsApart : {N : Type 0} → (N → N → Bool) → Type 0
TellsApart {N} same = (m n : N) → (same m n ≡ true) ↔ (m ≡ n)

-- no class has the class of a name as its superclass, and no method is one of that class
pub record IsUnused {N : Type 0} (i : ImageOf N) (n : N) : Type 0 where
  pub classes : AllByRecursion (λ (c : ClassOf N). c.superclass ≡ Some n → ⊥) i.classes
  pub methods : AllByRecursion (λ (m : EntryOf N). m.class ≡ Some n → ⊥) i.methods

-- the superclass of a class, if it has one, stands before a place
abbrev pub FollowsSuperclass : {N : Type 0} → ImageOf N → ℕ → ClassOf N → Type 0
FollowsSuperclass {N} i p c = (n : N) → c.superclass ≡ Some n → IsNamedBefore i.classes p n
