-- Classes and methods of the program as those of an image, and what is demanded of an image.
use Rattle.std.specs.Prelude.{◌≡◌, ◌&&◌, ℕ, List, [], ◌∷◌, map, slice_get, Bool, if◌then◌else◌, Option, None, Some}
use Rattle.std.specs.Bool.{beq}
use Rattle.std.specs.Borrow.{Bor}
use Rattle.std.specs.List.{AllByRecursion}
use Rattle.std.specs.Option.{option_and_then}
use Rattle.rb_base.specs.Names.{text_eq}
use Rattle.image_model.specs.Image.{ClassOf, EntryOf, ImageOf}
use Rattle.class_table.specs.declared.record.ClassRec.{ClassRec}
use Rattle.class_table.specs.declared.record.MethodRec.{MethodRec}
use Rattle.class_table.specs.Slots.{Slots}
use Rattle.class_table.specs.View.{image_of}
use Rattle.file_model.specs.Changes.{RunOf}
use Rattle.file_model.specs.Filing.{Text}
use Rattle.file_model.specs.Places.{PlacedOf}
use Rattle.file_model.specs.Written.{user_classes, user_methods, run_of}
use Rattle.image_file.specs.Runs.{run_text}
use Rattle.image_file.specs.Writable.{IsWritableClass, text_class, text_entry}
use Rattle.change_model.specs.Differs.{differing_from, class_stays, method_stays}
use Rattle.change_model.specs.Equal.{is_namesake, is_counterpart}
use Rattle.change_laws.specs.Merged.{AreApart}
use Rattle.change_file.specs.declared.classes.Classes.{Classes}
use Rattle.change_file.specs.declared.classes.PlacedClass.{PlacedClass}
use Rattle.change_file.specs.declared.methods.SignedMethod.{SignedMethod}
use Rattle.change_file.specs.declared.methods.Methods.{Methods}
use Rattle.change_file.specs.declared.methods.PlacedMethod.{PlacedMethod}

-- no two classes have one name, and no two methods of the user one class, side and selector, as in each valid image
pub record IsToldApart (i : ImageOf Text) : Type 0 where
  pub classes : AreApart is_namesake i.classes
  pub methods : AreApart is_counterpart (user_methods i)

-- the classes to which references lead
abbrev pub class_texts : Slots → List (Bor ClassRec) → List (ClassOf Text)
class_texts s recs = map (λ (r : Bor ClassRec). text_class s r.now) recs

-- the names of classes
abbrev pub class_keys : List (ClassOf Text) → List Text
class_keys classes = map (λ (c : ClassOf Text). c.name) classes

-- each of the classes can be written
abbrev pub AreWritable : Slots → List (Bor ClassRec) → Type 0
AreWritable s recs = AllByRecursion (λ (r : Bor ClassRec). IsWritableClass s r.now) recs

-- they are the classes of the user in their image, with their names
pub record AreClasses (c : Classes) : Type 0 where
  pub classes : class_texts c.image.now c.recs.items ≡ user_classes (image_of c.image.now)
  pub names : c.names ≡ class_keys (user_classes (image_of c.image.now))
  pub writable : AreWritable c.image.now c.recs.items

-- a class with its place
abbrev pub placed_class : Slots → PlacedClass → PlacedOf (ClassOf Text)
placed_class s p = record { place = p.place; item = text_class s p.rec.now }

-- they are the classes of one image that the other has not as they are, with their places
pub record AreOtherClasses (mine theirs : Slots) (found : List PlacedClass) : Type 0 where
  pub classes : map (placed_class mine) found ≡ differing_from 1 (class_stays (image_of mine) (image_of theirs)) (user_classes (image_of mine))
  pub writable : AllByRecursion (λ (p : PlacedClass). IsWritableClass mine p.rec.now) found

-- What is written of a method, and what it is told apart by.
pub record Shown : Type 0 where
  pub run : RunOf Text
  pub selector : Text
  pub source : Text

abbrev pub shown : EntryOf Text → Shown
shown m = record { run = run_of m; selector = m.tree.selector; source = m.source }

abbrev pub shown_method : SignedMethod → Shown
shown_method m = record { run = run_text m.method; selector = m.selector.now; source = m.method.source.now }

-- the text that tells a class, a side and a selector
abbrev pub key_text : Text → Bool → Text → Text
key_text [] meta selector = (if meta then 2 else 0) ∷ selector
key_text (b ∷ class) meta selector = 1 ∷ b ∷ key_text class meta selector

abbrev pub key_shown : Shown → Text
key_shown m = key_text m.run.class m.run.meta m.selector

-- what is shown of the method in a slot, if it is one of the user
abbrev pub shown_user : EntryOf Text → Option Shown
shown_user m = if m.kernel then None else Some (shown m)

abbrev pub shown_at : Slots → ℕ → Option Shown
shown_at s k = option_and_then (λ (m : MethodRec). shown_user (text_entry s m)) (slice_get s.methods k)

-- whether two methods are of one class, side and selector
abbrev pub is_counterpart_shown : Shown → Shown → Bool
is_counterpart_shown m n = text_eq m.run.class n.run.class && beq m.run.meta n.run.meta && text_eq m.selector n.selector

-- no two of the methods are
abbrev pub AreShownApart : List Shown → Type 0
AreShownApart ms = AreApart is_counterpart_shown ms

-- whether two methods of the user are equal
abbrev pub is_equal_shown : Shown → Shown → Bool
is_equal_shown m n =
    is_counterpart_shown m n && text_eq m.run.protocol n.run.protocol && text_eq m.source n.source

-- they are the methods of the user in their image, with the texts that tell them apart
pub record AreMethods (m : Methods) : Type 0 where
  pub items : map shown_method m.items.items ≡ map shown (user_methods (image_of m.image.now))
  pub keys : m.keys ≡ map (λ (e : EntryOf Text). key_shown (shown e)) (user_methods (image_of m.image.now))

-- a method with its place
abbrev pub placed_shown : PlacedOf (EntryOf Text) → PlacedOf Shown
placed_shown p = record { place = p.place; item = shown p.item }

abbrev pub placed_method : PlacedMethod → PlacedOf Shown
placed_method p = record { place = p.place; item = shown_method p.item }

-- they are the methods of one image that the other has not as they are, with their places
abbrev pub AreOtherMethods : Slots → Slots → List PlacedMethod → Type 0
AreOtherMethods mine theirs found =
    map placed_method found ≡ map placed_shown (differing_from 1 (method_stays (image_of mine) (image_of theirs)) (user_methods (image_of mine)))
