-- The conditions of variables. A condition on a class or a variable that is not there is false.
use Rattle.std.specs.Prelude.{List, [], ◌∷◌, map, filter, Bool, false, not, ◌&&◌, ◌||◌, Some}
use Rattle.std.specs.List.{list_any}
use Rattle.std.specs.Option.{option_map_or}
use Rattle.image_model.specs.Image.{ClassOf, EntryOf, ImageOf}
use Rattle.image_model.specs.Words.{WordsOf}
use Rattle.image_model.specs.Chain.{class_named, chain}
use Rattle.image_model.specs.Nodes.{Use}
use Rattle.image_model.specs.Uses.{variable_uses}
use Rattle.rename_model.specs.NamesThere.{is_named_in_method}
use Rattle.rename_model.specs.Conditions.{has_variable, defines, stands_below, is_method_below, is_variable_free}
use Rattle.command_model.specs.Commands.{CommandOf, PushUpInstVar, PushDownInstVar, PushUpClassVar, PushDownClassVar, kind_of}
use Rattle.command_model.specs.Hierarchy.{is_class, is_child, is_method_of}
use Rattle.command_model.specs.ClassConditions.{is_in_method_that}

-- the class itself defines no variable of the name, of any kind
abbrev pub lacks_variable : {N : Type 0} → (N → N → Bool) → ImageOf N → N → N → Bool
lacks_variable same i c x = option_map_or (λ (e : ClassOf _). not (defines same x e)) (class_named same i.classes c) false

-- the names of the direct subclasses that have an instance variable, and lose it where it goes up
abbrev pub losers : {N : Type 0} → (N → N → Bool) → ImageOf N → N → N → List N
losers same i p x =
    map (λ (e : ClassOf _). e.name) (filter (λ (e : ClassOf _). is_child same p e && list_any (same x) e.instance) i.classes)

-- the variable can come into the class, where the classes of these names and those below them are not looked at: no class of the chain of the class defines it, and of the classes that stand below it, itself among them, none defines it, and no method of theirs reads, assigns or declares the name
abbrev pub is_free_beside : {N : Type 0} → (N → N → Bool) → ImageOf N → List N → N → N → Bool
is_free_beside same i excepted c x =
    not (list_any (defines same x) (chain same i.classes (Some c))
    || (list_any (λ e. stands_below same i.classes c e && (not (list_any (λ d. stands_below same i.classes d e) excepted) && defines same x e)) i.classes
    || list_any (λ m. is_method_below same i.classes c m && (not (list_any (λ d. is_method_below same i.classes d m) excepted) && is_named_in_method same x m)) i.methods))

-- the same for a command: where a variable goes up, the classes that lose it are not looked at
abbrev pub is_free_for : {N : Type 0} → (N → N → Bool) → ImageOf N → CommandOf N → N → N → Bool
is_free_for same i (PushUpInstVar b y) c x = is_free_beside same i (losers same i c x) c x
is_free_for same i (PushUpClassVar b y) c x = is_free_beside same i (b ∷ []) c x
is_free_for same i command c x = is_variable_free same i c x

-- whether a variable that a command takes from the class is looked for in a method: in those of the class itself, in those of the class and of classes below it but for a class to which the variable goes and those below that one, or in all of them
abbrev pub is_looked_through : {N : Type 0} → (N → N → Bool) → List (ClassOf N) → CommandOf N → N → EntryOf N → Bool
is_looked_through same classes (PushDownInstVar b y) c m = is_method_of same c m
is_looked_through same classes (PushDownClassVar b y d) c m = is_method_below same classes c m && not (is_method_below same classes d m)
is_looked_through same classes command c m = is_method_below same classes c m

-- the class has the variable, and no node of the methods that the command looks through means it
abbrev pub is_unused_for : {N : Type 0} → WordsOf N → ImageOf N → CommandOf N → N → N → Bool
is_unused_for w i command c x =
    has_variable w.tests.same i (kind_of command) c x
    && not (list_any (λ (u : Use). is_in_method_that (is_looked_through w.tests.same i.classes command c) i u.place) (variable_uses w i c x (kind_of command)))

-- the variable can come into the class that is there
abbrev pub may_come_for : {N : Type 0} → (N → N → Bool) → ImageOf N → CommandOf N → N → N → Bool
may_come_for same i command c x = is_class same i c && is_free_for same i command c x
