-- Which classes the objects of a store have, and that they keep them.
use Rattle.std.proofs.Common.{◌≡◌, ℕ, zero, suc, List, [], ◌∷◌, ◌++◌, Option, Some, sym, ap, ◌∙◌}
use Rattle.std.specs.Prelude.{set, slice_get, option_map, unwrap_or}
use Rattle.image_model.specs.ImageNames.{OptionNames}
use Rattle.run_model.specs.Values.{Name}
use Rattle.run_model.specs.Store.{Object}

-- what class the object of a number has, if it is there; one that is not there yet may come to have any
abbrev pub MayBe : List Object → ℕ → Name → Type 0
MayBe os k d = OptionNames (λ (o : Object). o.class ≡ d) (slice_get os k)

-- objects that come later: those that were there are of the same classes
abbrev pub Later : List Object → List Object → Type 0
Later before after = (k : ℕ) (d : Name) → MayBe after k d → MayBe before k d

-- the same objects
pub at-once : (os : List Object) → Later os os
at-once os k d t = t

-- later still
pub later-on : (a b c : List Object) → Later a b → Later b c → Later a c
later-on a b c p q k d t = p k d (q k d t)

-- one more object
pub more-later : (os : List Object) (o : Object) → Later os (os ++ o ∷ [])
more-later [] o k d t = tt
more-later (x ∷ os) o zero d t = t
more-later (x ∷ os) o (suc k) d t = more-later os o k d t

-- the class of an object that there may be
abbrev class_there : Option Object → Name → Name
class_there o d = unwrap_or (option_map (λ (x : Object). x.class) o) d

-- another object of the same class in place of one
pub set-later : (os : List Object) (k : ℕ) (x y : Object) → slice_get os k ≡ Some x → y.class ≡ x.class → Later os (set os k y)
set-later [] k x y e h j d t = tt
set-later (z ∷ os) zero x y e h zero d t = ap (λ o. class_there o d) e ∙ sym h ∙ t
set-later (z ∷ os) zero x y e h (suc j) d t = t
set-later (z ∷ os) (suc k) x y e h zero d t = t
set-later (z ∷ os) (suc k) x y e h (suc j) d t = set-later os k x y e h j d t
