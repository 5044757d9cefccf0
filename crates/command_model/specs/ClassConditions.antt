-- The conditions of classes. A condition on a class that is not there is false.
use Rattle.std.specs.Prelude.{Bool, false, not, ◌&&◌, slice_get}
use Rattle.std.specs.List.{list_any, list_all}
use Rattle.std.specs.Option.{option_map_or}
use Rattle.image_model.specs.Image.{EntryOf, ImageOf}
use Rattle.image_model.specs.Words.{WordsOf}
use Rattle.image_model.specs.Chain.{class_named}
use Rattle.image_model.specs.Nodes.{Place, in_method, in_doit, Use}
use Rattle.image_model.specs.Uses.{class_uses}
use Rattle.rename_model.specs.Conditions.{is_user_class}
use Rattle.command_model.specs.Hierarchy.{is_class, superclass_name, is_child, is_method_of}

-- whether a place is one in a method that passes a test; one in a do-it is none
abbrev pub is_in_method_that : {N : Type 0} → (EntryOf N → Bool) → ImageOf N → Place → Bool
is_in_method_that test i (in_method k) = option_map_or test (slice_get i.methods k) false
is_in_method_that test i (in_doit k) = false

-- no class is a direct subclass
abbrev pub has_no_subclasses : {N : Type 0} → (N → N → Bool) → ImageOf N → N → Bool
has_no_subclasses same i c = is_class same i c && not (list_any (is_child same c) i.classes)

-- each node that means the class stands in a method of the class itself, on either side
abbrev pub is_not_referenced : {N : Type 0} → WordsOf N → ImageOf N → N → Bool
is_not_referenced w i c =
    is_class w.tests.same i c && list_all (λ (u : Use). is_in_method_that (is_method_of w.tests.same c) i u.place) (class_uses w i c)

-- the superclass is a class of the user
abbrev pub has_user_parent : {N : Type 0} → (N → N → Bool) → ImageOf N → N → Bool
has_user_parent same i c = option_map_or (is_user_class same i) (superclass_name same i c) false

-- d is a class of the user, and a direct subclass of c
abbrev pub is_user_child : {N : Type 0} → (N → N → Bool) → ImageOf N → N → N → Bool
is_user_child same i d c = is_user_class same i d && option_map_or (is_child same c) (class_named same i.classes d) false
