-- Classes by name, and the chain of a class.
use Rattle.std.specs.Prelude.{List, length, find, Bool, Option}
use Rattle.std.specs.Option.{option_and_then}
use Rattle.image_model.specs.Image.{ClassOf}
use Rattle.image_model.specs.Upwards.{upwards}

-- the first class of a name
abbrev pub class_named : {N : Type 0} → (N → N → Bool) → List (ClassOf N) → N → Option (ClassOf N)
class_named same classes n = find (λ c. same n c.name) classes

-- the class of a name, if there is a name
abbrev pub class_of_name : {N : Type 0} → (N → N → Bool) → List (ClassOf N) → Option N → Option (ClassOf N)
class_of_name same classes o = option_and_then (class_named same classes) o

-- the superclass of a class
abbrev pub superclass_of : {N : Type 0} → (N → N → Bool) → List (ClassOf N) → ClassOf N → Option (ClassOf N)
superclass_of same classes c = class_of_name same classes c.superclass

-- the class, its superclass, and so on up to the one that has none; a chain is never longer than the list of classes
abbrev pub chain_from : {N : Type 0} → (N → N → Bool) → List (ClassOf N) → Option (ClassOf N) → List (ClassOf N)
chain_from same classes o = upwards (superclass_of same classes) (length classes) o

-- the chain of the class of a name
abbrev pub chain : {N : Type 0} → (N → N → Bool) → List (ClassOf N) → Option N → List (ClassOf N)
chain same classes o = chain_from same classes (class_of_name same classes o)
