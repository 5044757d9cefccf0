-- Facts of the items of a list, and lists that are mapped.
use Rattle.std.proofs.Common.{◌≡◌, Bool, true, false, cond, ◌||◌, List, [], ◌∷◌, length, map, find, Option, Some, None, option_map, refl, ap, ◌∙◌, arith}
use Rattle.std.specs.List.{AllByRecursion, list_any}
use Rattle.std.specs.Option.{option_or}
use Rattle.image_model.specs.ImageNames.{OptionNames}

-- a fact of each item follows from another
pub all-implies : {X : Type 0} (P Q : X → Type 0) → ((x : X) → P x → Q x) → (xs : List X) → AllByRecursion P xs → AllByRecursion Q xs
all-implies P Q h [] a = tt
all-implies P Q h (x ∷ xs) a = (h x a.0, all-implies P Q h xs a.1)

-- two facts of each item
pub all-both : {X : Type 0} (P Q : X → Type 0) (xs : List X) → AllByRecursion P xs → AllByRecursion Q xs → AllByRecursion (λ x. P x × Q x) xs
all-both P Q [] a b = tt
all-both P Q (x ∷ xs) a b = ((a.0, b.0), all-both P Q xs a.1 b.1)

-- a fact of each item of a mapped list
pub all-map : {X Y : Type 0} (P : Y → Type 0) (f : X → Y) (xs : List X) → AllByRecursion (λ x. P (f x)) xs → AllByRecursion P (map f xs)
all-map P f [] a = tt
all-map P f (x ∷ xs) a = (a.0, all-map P f xs a.1)

-- two functions that agree on each item
pub map-all : {X Y : Type 0} (f g : X → Y) (xs : List X) → AllByRecursion (λ x. f x ≡ g x) xs → map f xs ≡ map g xs
map-all f g [] a = refl
map-all f g (x ∷ xs) a = λ i. a.0 i ∷ map-all f g xs a.1 i

pub length-map : {X Y : Type 0} (f : X → Y) (xs : List X) → length (map f xs) ≡ length xs
length-map f [] = refl
length-map f (x ∷ xs) = omega (arith, length-map f xs)

-- a search in a mapped list
pub find-map : {X Y : Type 0} (f : X → Y) (p : X → Bool) (q : Y → Bool) (xs : List X) → AllByRecursion (λ x. q (f x) ≡ p x) xs → find q (map f xs) ≡ option_map f (find p xs)
find-map f p q [] a = refl
find-map f p q (x ∷ xs) a = ap (λ b. cond b (Some (f x)) (find q (map f xs))) a.0 ∙ ap (cond (p x) (Some (f x))) (find-map f p q xs a.1) ∙ by (p x)
  where
    by : (b : Bool) → cond b (Some (f x)) (option_map f (find p xs)) ≡ option_map f (cond b (Some x) (find p xs))
    by true = refl
    by false = refl

-- what holds of each item holds of the one that is found
pub find-all : {X : Type 0} (P : X → Type 0) (p : X → Bool) (xs : List X) → AllByRecursion P xs → OptionNames P (find p xs)
find-all P p [] a = tt
find-all P p (x ∷ xs) a = by (p x) (find-all P p xs a.1)
  where
    by : (b : Bool) → OptionNames P (find p xs) → OptionNames P (cond b (Some x) (find p xs))
    by true rest = a.0
    by false rest = rest

-- a test of some item of a mapped list
pub any-map : {X Y : Type 0} (f : X → Y) (p : X → Bool) (q : Y → Bool) (xs : List X) → AllByRecursion (λ x. q (f x) ≡ p x) xs → list_any q (map f xs) ≡ list_any p xs
any-map f p q [] a = refl
any-map f p q (x ∷ xs) a = λ i. a.0 i || any-map f p q xs a.1 i

-- a fact of what there is
pub option-implies : {X : Type 0} (P Q : X → Type 0) → ((x : X) → P x → Q x) → (o : Option X) → OptionNames P o → OptionNames Q o
option-implies P Q h None a = tt
option-implies P Q h (Some x) a = h x a

-- two functions that agree on what there is
pub option-same : {X Y : Type 0} (f g : X → Y) (o : Option X) → OptionNames (λ x. f x ≡ g x) o → option_map f o ≡ option_map g o
option-same f g None a = refl
option-same f g (Some x) a = ap Some a

pub option_map-option_map : {X Y Z : Type 0} (g : Y → Z) (f : X → Y) (o : Option X) → option_map g (option_map f o) ≡ option_map (λ x. g (f x)) o
option_map-option_map g f None = refl
option_map-option_map g f (Some x) = refl

pub option_map-option_or : {X Y : Type 0} (f : X → Y) (o p : Option X) → option_map f (option_or o p) ≡ option_or (option_map f o) (option_map f p)
option_map-option_or f None p = refl
option_map-option_or f (Some x) p = refl
