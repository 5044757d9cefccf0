-- The image of which the generated text is the file. A file says nothing of trees, so each method has one that does nothing.
use Rattle.std.specs.Prelude.{ℕ, zero, suc, ◌+◌, List, [], ◌∷◌, ◌++◌, codes, false}
use Rattle.image_model.specs.Image.{ClassOf, EntryOf, ImageOf}
use Rattle.file_model.specs.Examples.{made, entry, with_methods}
use Rattle.image_maker.specs.Generated.{class_name, superclass_name, source_text}

-- what belongs to the numbers from 1 to n, in order
abbrev pub each : {X : Type 0} → (ℕ → X) → ℕ → List X
each of zero = []
each of (suc n) = each of n ++ of (n + 1) ∷ []

-- a class without variables
abbrev pub class : ℕ → ClassOf (List ℕ)
class i = record (made (superclass_name i) (class_name i)) { category = codes "Demo" }

-- the method of a class
abbrev pub method : ℕ → EntryOf (List ℕ)
method i = entry false (class_name i) false (codes "demo") (source_text i)

-- the classes and their methods, behind a kernel
abbrev pub image : ℕ → ImageOf (List ℕ)
image n = with_methods (each class n) (each method n)
