-- What a name stands for at a place of a method or a do-it.
use Rattle.std.specs.Prelude.{ℕ, List, find, Bool, false, if◌then◌else◌, Option, Some, None, unwrap_or}
use Rattle.std.specs.List.{list_any}
use Rattle.std.specs.Option.{option_map, option_or}
use Rattle.scope_model.specs.declared.local.Local.{Local}
use Rattle.scope_model.specs.declared.local.Local.TheVariants.{Argument, Temporary, NotLocal}
use Rattle.scope_model.specs.Scope.{local_in, local_in_doit}
use Rattle.image_model.specs.Image.{ClassOf, EntryOf, DoItOf, ImageOf}
use Rattle.image_model.specs.Words.{WordsOf}
use Rattle.image_model.specs.Chain.{class_named, chain}

-- the kinds of variables that a class defines
pub data VariableKind : Type 0 where
  of_instance : VariableKind
  of_class_side : VariableKind
  of_class : VariableKind

-- the variables of a kind that a class itself defines
abbrev pub variables : {N : Type 0} → VariableKind → ClassOf N → List N
variables of_instance c = c.instance
variables of_class_side c = c.class_side
variables of_class c = c.shared

-- What a name may stand for: a pseudo-variable; an argument or temporary of the scope to which so many steps of the path lead; a variable of a kind and the class that defines it; a class; `Transcript`; or nothing.
pub data MeaningOf (N : Type 0) : Type 0 where
  pseudo : MeaningOf N
  argument : ℕ → MeaningOf N
  temporary : ℕ → MeaningOf N
  variable : VariableKind → N → MeaningOf N
  a_class : N → MeaningOf N
  transcript : MeaningOf N
  undeclared : MeaningOf N

-- the same meaning with each name changed
abbrev pub map_meaning : {M N : Type 0} → (M → N) → MeaningOf M → MeaningOf N
map_meaning f pseudo = pseudo
map_meaning f (argument scope) = argument scope
map_meaning f (temporary scope) = temporary scope
map_meaning f (variable kind c) = variable kind (f c)
map_meaning f (a_class c) = a_class (f c)
map_meaning f transcript = transcript
map_meaning f undeclared = undeclared

-- the class of a chain that defines a variable of a kind
abbrev pub definer : {N : Type 0} → (N → N → Bool) → VariableKind → List (ClassOf N) → N → Option (ClassOf N)
definer same kind classes n = find (λ c. list_any (same n) (variables kind c)) classes

-- the meaning as a variable of a kind, if a class of a chain defines it
abbrev pub as_variable : {N : Type 0} → (N → N → Bool) → VariableKind → List (ClassOf N) → N → Option (MeaningOf N)
as_variable same kind classes n = option_map (λ (c : ClassOf _). variable kind c.name) (definer same kind classes n)

-- the kind of the variables that only one side sees
abbrev pub side_kind : Bool → VariableKind
side_kind meta = if meta then of_class_side else of_instance

-- what a name stands for behind all scopes: a variable of the side that a class of the chain defines, a class variable of the chain, a class, or `Transcript`
abbrev pub means_along : {N : Type 0} → WordsOf N → List (ClassOf N) → List (ClassOf N) → Bool → N → MeaningOf N
means_along w classes above meta n =
    unwrap_or
    (option_or (as_variable w.tests.same (side_kind meta) above n)
    (option_or (as_variable w.tests.same of_class above n)
    (option_or (option_map (λ (c : ClassOf _). a_class c.name) (class_named w.tests.same classes n))
    (if w.is_transcript n then Some transcript else None))))
    undeclared

-- the same in a class and on a side of it
abbrev pub means_outside : {N : Type 0} → WordsOf N → ImageOf N → Option N → Bool → N → MeaningOf N
means_outside w i c meta n = means_along w i.classes (chain w.tests.same i.classes c) meta n

-- what a name stands for that the scopes know, or do not know
abbrev pub means_by : {N : Type 0} → Local → MeaningOf N → MeaningOf N
means_by (Argument scope) outside = argument scope
means_by (Temporary scope) outside = temporary scope
means_by NotLocal outside = outside

-- what a name stands for in a method, at the place to which a path leads
abbrev pub means : {N : Type 0} → WordsOf N → ImageOf N → EntryOf N → List ℕ → N → MeaningOf N
means w i m path n =
    if w.tests.is_pseudo n then pseudo
    else means_by (local_in w.tests.same w.tests.is_pseudo m.tree path n) (means_outside w i m.class m.meta n)

-- the same in a do-it, which is read like a method of the instance side of `UndefinedObject`
abbrev pub means_in_doit : {N : Type 0} → WordsOf N → ImageOf N → DoItOf N → List ℕ → N → MeaningOf N
means_in_doit w i d path n =
    if w.tests.is_pseudo n then pseudo
    else means_by (local_in_doit w.tests.same w.tests.is_pseudo d.body path n)
    (means_outside w i (option_map (λ (c : ClassOf _). c.name) (find (λ c. w.is_undefined_object c.name) i.classes)) false n)
