-- A class that goes behind another one alone.
use Rattle.std.specs.Prelude.{◌≡◌, ℕ, zero, suc, List, [], ◌∷◌, true, false, nat_eq}
use Rattle.std.specs.List.{insert}
use Rattle.image_model.specs.Image.{ClassOf}
use Rattle.file_model.specs.Hierarchy.{has_class, has_subclass}

-- there is a class of the name, and it is the superclass of none
pub record IsChildless (classes : List (ClassOf ℕ)) (n : ℕ) : Type 0 where
  pub there : has_class nat_eq classes n ≡ true
  pub none : has_subclass nat_eq classes n ≡ false

-- the item at the first place, put behind the one at the second
abbrev pub put_back : {X : Type 0} → ℕ → ℕ → List X → List X
put_back from to [] = []
put_back zero to (x ∷ xs) = insert xs to x
put_back (suc from) zero (x ∷ xs) = x ∷ xs
put_back (suc from) (suc to) (x ∷ xs) = x ∷ put_back from to xs
