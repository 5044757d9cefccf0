-- What is made of items, of parts of them, and of what is found there.
use Rattle.std.proofs.Common.{◌≡◌, Option, None, Some, option_map, refl, sym, ap}
use Rattle.std.specs.Option.{option_and_then}

module _ {X Y : Type 0} (part : X → Option Y) where
  -- an item and its part
  abbrev pub parted : Option X → Option (X × Y)
  parted o = option_and_then {U = X × Y} (λ (x : X). option_map {U = X × Y} (λ (y : Y). (x, y)) (part x)) o

  module _ {W : Type 0} (found : X → Y → Option W) where
    -- an item and what is found by it and its part
    abbrev pub founded : Option (X × Y) → Option (X × W)
    founded o = option_and_then {U = X × W} (λ (e : X × Y). option_map {U = X × W} (λ (w : W). (e.0, w)) (found e.0 e.1)) o

    module _ {Z : Type 0} (f : X → W → Option Z) where
      -- what is made of them
      pub through_found : (o : Option X) → option_and_then {U = Z} (λ (e : X × Y). option_and_then {U = Z} (f e.0) (found e.0 e.1)) (parted o) ≡ option_and_then {U = Z} (λ (x : X). option_and_then {U = Z} (λ (e : X × W). f x e.1) (founded (parted o))) o
      through_found None = refl
      through_found (Some x) = by (part x)
        where
          by : (q : Option Y) → option_and_then {U = Z} (λ (e : X × Y). option_and_then {U = Z} (f e.0) (found e.0 e.1)) (option_map {U = X × Y} (λ (y : Y). (x, y)) q) ≡ option_and_then {U = Z} (λ (e : X × W). f x e.1) (founded (option_map {U = X × Y} (λ (y : Y). (x, y)) q))
          by None = refl
          by (Some y) = at (found x y)
            where
              at : (r : Option W) → option_and_then {U = Z} (f x) r ≡ option_and_then {U = Z} (λ (e : X × W). f x e.1) (option_map {U = X × W} (λ (w : W). (x, w)) r)
              at None = refl
              at (Some w) = refl

  module _ {Z : Type 0} (f : X → Y → Option Z) where
    pub through_part : (o : Option X) → option_and_then {U = Z} (λ (e : X × Y). f e.0 e.1) (parted o) ≡ option_and_then {U = Z} (λ (x : X). option_and_then {U = Z} (f x) (part x)) o
    through_part None = refl
    through_part (Some x) = by (part x)
      where
        by : (q : Option Y) → option_and_then {U = Z} (λ (e : X × Y). f e.0 e.1) (option_map {U = X × Y} (λ (y : Y). (x, y)) q) ≡ option_and_then {U = Z} (f x) q
        by None = refl
        by (Some y) = refl

-- what is made of what is made of an item
pub through_both : {X Y Z : Type 0} (g : X → Option Y) (f : Y → Option Z) (o : Option X) → option_and_then {U = Z} (λ (x : X). option_and_then {U = Z} f (g x)) o ≡ option_and_then {U = Z} f (option_and_then {U = Y} g o)
through_both g f None = refl
through_both g f (Some x) = refl

-- an item that has a part
pub part-method : {X Y : Type 0} (h : X → Option Y) (o : Option X) (m : X) (part : Y) → ◌≡◌ {A = Option (X × Y)} (Some (m, part)) (option_and_then {U = X × Y} (λ (n : X). option_map {U = X × Y} (λ (p : Y). (n, p)) (h n)) o) → o ≡ Some m
part-method h None m part e = absurd (cc)
part-method {X} {Y} h (Some n) m part e = by (h n) e
  where
    by : (q : Option Y) → ◌≡◌ {A = Option (X × Y)} (Some (m, part)) (option_map {U = X × Y} (λ (p : Y). (n, p)) q) → Some n ≡ Some m
    by None e = absurd (cc)
    by (Some p) e = ap (option_map (λ (x : X × Y). x.0)) (sym e)
