-- When edits of classes are accepted, and what they make.
use Rattle.std.proofs.Common.{◌≡◌, ℕ, ◌≤◌, Bool, true, false, not, List, filter, None, Ok, Err, ap, length}
use Rattle.std.specs.Prelude.{◌||◌, ◌&&◌, ◌==◌}
use Rattle.std.specs.Option.{option_map_or}
use Rattle.std.specs.Result.{result_map_both}
use Rattle.std.proofs.lemmas.Bool.{le-leb}
use Rattle.rb_base.specs.Names.{text_eq}
use Rattle.image_model.specs.Image.{ClassOf, EntryOf, ImageOf}
use Rattle.image_model.specs.Means.{of_instance, of_class_side}
use Rattle.file_model.specs.Applied.{defined, with_definition, with_class_side, with_comment, is_of_class}
use Rattle.file_model.specs.Causes.{Cause, first_cause}
use Rattle.file_model.specs.Changes.{DefinitionOf, Define, DefineAt, Comment, SetClassSide, RemoveClass}
use Rattle.file_model.specs.Filing.{Text}
use Rattle.file_model.specs.Hierarchy.{has_class, is_kernel_class, has_subclass, stands_twice, has_repeat}
use Rattle.file_model.specs.Places.{PlacesOf, no_places, with_class_place}
use Rattle.file_model.specs.Refusals.{lacks_superclass, makes_cycle, is_one_class_too_many, definition_refusals, comment_refusals, class_side_refusals, class_removal_refusals}
use Rattle.file_rereading.proofs.Says.{none_holds}
use Rattle.change_model.specs.Edits.{Change}
use Rattle.change_model.specs.Edited.{Stage, edited, place_refusals}

-- the image with other classes, and places
abbrev pub with_classes : ImageOf Text → PlacesOf Text → List (ClassOf Text) → Stage
with_classes i places cs = record { image = record i { classes = cs }; places = places }

-- the image with other classes and other methods, and no places
abbrev pub with_members : ImageOf Text → List (ClassOf Text) → List (EntryOf Text) → Stage
with_members i cs ms = record { image = record i { classes = cs; methods = ms }; places = no_places }

-- a definition that makes new classes of others is accepted
pub record Fits (cs new : List (ClassOf Text)) (d : DefinitionOf Text) : Type 0 where
  pub of_user : is_kernel_class text_eq cs d.name ≡ false
  pub above : lacks_superclass text_eq cs d ≡ false
  pub no_cycle : makes_cycle text_eq cs d ≡ false
  pub once : (stands_twice text_eq new of_instance d.name || (stands_twice text_eq new of_class_side d.name || has_repeat text_eq d.shared)) ≡ false
  pub room : is_one_class_too_many text_eq cs d.name ≡ false

fits_none : (cs new : List (ClassOf Text)) (d : DefinitionOf Text) → Fits cs new d → first_cause (definition_refusals text_eq cs d new) ≡ None
fits_none cs new d f = none_holds (definition_refusals text_eq cs d new) (f.of_user, (f.above, (f.no_cycle, (f.once, (f.room, tt)))))

module _ (i : ImageOf Text) (places : PlacesOf Text) (cs : List (ClassOf Text)) where
  pub defines : (d : DefinitionOf Text) → Fits cs (with_definition text_eq false d cs) d → edited (Change (Define d)) (with_classes i places cs) ≡ Ok (with_classes i places (defined text_eq false d cs))
  defines d f = ap (λ o. result_map_both (λ (x : ImageOf Text). record { image = x; places = places }) (λ (e : Cause). e) (option_map_or Err o (Ok (record i { classes = defined text_eq false d cs })))) (fits_none cs (with_definition text_eq false d cs) d f)

  pub defines_at : (d : DefinitionOf Text) (k : ℕ) → 1 ≤ k → Fits cs (with_definition text_eq false d cs) d → edited (Change (DefineAt d k)) (with_classes i places cs) ≡ Ok (with_classes i (with_class_place d.name k places) (with_definition text_eq false d cs))
  defines_at d k from f =
      let now = with_definition text_eq false d cs in
      let counted : first_cause (place_refusals k) ≡ None = none_holds (place_refusals k) (ap not (le-leb 1 k from), tt) in
      let fits = fits_none cs now d f in
      λ a. option_map_or Err (counted a) (result_map_both (λ (x : ImageOf Text). record { image = x; places = with_class_place d.name k places }) (λ (e : Cause). e) (option_map_or Err (fits a) (Ok (record i { classes = now }))))

  pub sets_class_side : (n : Text) (names : List Text) → has_class text_eq cs n ≡ true → is_kernel_class text_eq cs n ≡ false → stands_twice text_eq (with_class_side text_eq n names cs) of_class_side n ≡ false
      → edited (Change (SetClassSide n names)) (with_classes i places cs) ≡ Ok (with_classes i places (with_class_side text_eq n names cs))
  sets_class_side n names there user once =
      let refusals = class_side_refusals text_eq cs n names (with_class_side text_eq n names cs) in
      let none : first_cause refusals ≡ None = none_holds refusals (ap not there, (ap (λ (b : Bool). b && not (length names == 0)) user, (once, tt))) in
      ap (λ o. result_map_both (λ (x : ImageOf Text). record { image = x; places = places }) (λ (e : Cause). e) (option_map_or Err o (Ok (record i { classes = with_class_side text_eq n names cs })))) none

  pub comments : (n : Text) (text : Text) → has_class text_eq cs n ≡ true → is_kernel_class text_eq cs n ≡ false → edited (Change (Comment n text)) (with_classes i places cs) ≡ Ok (with_classes i places (with_comment text_eq n text cs))
  comments n text there user =
      let refusals = comment_refusals text_eq cs n in
      let none : first_cause refusals ≡ None = none_holds refusals (ap not there, (user, tt)) in
      ap (λ o. result_map_both (λ (x : ImageOf Text). record { image = x; places = places }) (λ (e : Cause). e) (option_map_or Err o (Ok (record i { classes = with_comment text_eq n text cs })))) none

-- a class that has no subclasses is removed, with its methods
pub removes_class : (i : ImageOf Text) (cs : List (ClassOf Text)) (ms : List (EntryOf Text)) (n : Text) → has_class text_eq cs n ≡ true → is_kernel_class text_eq cs n ≡ false → has_subclass text_eq cs n ≡ false
    → edited (Change (RemoveClass n)) (with_members i cs ms) ≡ Ok (with_members i (filter (λ (c : ClassOf Text). not (text_eq n c.name)) cs) (filter (λ (m : EntryOf Text). not (is_of_class text_eq n m)) ms))
removes_class i cs ms n there user alone =
    let refusals = class_removal_refusals text_eq cs n in
    let none : first_cause refusals ≡ None = none_holds refusals (ap not there, (user, (alone, tt))) in
    ap (λ o. result_map_both (λ (x : ImageOf Text). record { image = x; places = no_places }) (λ (e : Cause). e) (option_map_or Err o (Ok (record i { classes = filter (λ (c : ClassOf Text). not (text_eq n c.name)) cs; methods = filter (λ (m : EntryOf Text). not (is_of_class text_eq n m)) ms })))) none
