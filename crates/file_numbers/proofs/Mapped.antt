-- Lists that are mapped, and what is asked of them.
use Rattle.std.proofs.Common.{◌≡◌, Bool, true, false, cond, List, [], ◌∷◌, ◌++◌, map, filter, Option, Some, None, Result, Ok, Err, option_map, refl, sym, ap, ◌∙◌}
use Rattle.std.specs.Prelude.{is_some}
use Rattle.std.specs.List.{AllByRecursion, flat_map}
use Rattle.std.specs.Option.{option_map_or}
use Rattle.std.specs.Result.{result_map_both, IfOk}
use Rattle.std.proofs.lemmas.List.{map-append}
use Rattle.file_model.specs.Causes.{Cause, Condition, first_cause, unless}
use Rattle.file_model.specs.Hierarchy.{without_first}

-- there is something where there was something before it was mapped
pub some-map : {X Y : Type 0} (f : X → Y) (o : Option X) → is_some (option_map f o) ≡ is_some o
some-map f None = refl
some-map f (Some x) = refl

-- the items of a mapped list that pass
pub filter-map : {X Y : Type 0} (f : X → Y) (p : X → Bool) (q : Y → Bool) (xs : List X) → AllByRecursion (λ x. q (f x) ≡ p x) xs → filter q (map f xs) ≡ map f (filter p xs)
filter-map f p q [] a = refl
filter-map {X} {Y} f p q (x ∷ xs) a =
    ap (λ (b : Bool). cond b (f x ∷ filter q (map f xs)) (filter q (map f xs))) a.0 ∙ ap (λ (ys : List Y). cond (p x) (f x ∷ ys) ys) (filter-map f p q xs a.1) ∙ by (p x)
  where
    by : (b : Bool) → cond b (f x ∷ map f (filter p xs)) (map f (filter p xs)) ≡ map f (cond b (x ∷ filter p xs) (filter p xs))
    by true = refl
    by false = refl

-- a mapped list without the first item that passes
pub without_first-map : {X Y : Type 0} (f : X → Y) (p : X → Bool) (q : Y → Bool) (xs : List X) → AllByRecursion (λ x. q (f x) ≡ p x) xs → without_first q (map f xs) ≡ map f (without_first p xs)
without_first-map f p q [] a = refl
without_first-map {X} {Y} f p q (x ∷ xs) a =
    ap (λ (b : Bool). cond b (map f xs) (f x ∷ without_first q (map f xs))) a.0 ∙ ap (λ (ys : List Y). cond (p x) (map f xs) (f x ∷ ys)) (without_first-map f p q xs a.1) ∙ by (p x)
  where
    by : (b : Bool) → cond b (map f xs) (f x ∷ map f (without_first p xs)) ≡ map f (cond b xs (x ∷ without_first p xs))
    by true = refl
    by false = refl

-- the items of the lists of mapped things
pub flat_map-mapped : {X Y A B : Type 0} (h : X → Y) (g : A → B) (k : X → List A) (l : Y → List B) (xs : List X) → AllByRecursion (λ x. l (h x) ≡ map g (k x)) xs → flat_map l (map h xs) ≡ map g (flat_map k xs)
flat_map-mapped h g k l [] a = refl
flat_map-mapped h g k l (x ∷ xs) a = (λ i. a.0 i ++ flat_map-mapped h g k l xs a.1 i) ∙ sym (map-append g (k x) (flat_map k xs))

-- a fact of the items of both lists
pub all-append : {X : Type 0} (P : X → Type 0) (xs ys : List X) → AllByRecursion P xs → AllByRecursion P ys → AllByRecursion P (xs ++ ys)
all-append P [] ys a b = b
all-append P (x ∷ xs) ys a b = (a.0, all-append P xs ys a.1 b)

-- of the items of the lists of things
pub all-flat_map : {X A : Type 0} (P : A → Type 0) (k : X → List A) (xs : List X) → AllByRecursion (λ x. AllByRecursion P (k x)) xs → AllByRecursion P (flat_map k xs)
all-flat_map P k [] a = tt
all-flat_map P k (x ∷ xs) a = all-append P (k x) (flat_map k xs) a.0 (all-flat_map P k xs a.1)

-- of the items that pass
pub all-filter : {X : Type 0} (P : X → Type 0) (p : X → Bool) (xs : List X) → AllByRecursion P xs → AllByRecursion P (filter p xs)
all-filter P p [] a = tt
all-filter P p (x ∷ xs) a = by (p x) (all-filter P p xs a.1)
  where
    by : (b : Bool) → AllByRecursion P (filter p xs) → AllByRecursion P (cond b (x ∷ filter p xs) (filter p xs))
    by true rest = (a.0, rest)
    by false rest = rest

-- of the items without the first that passes
pub all-without_first : {X : Type 0} (P : X → Type 0) (p : X → Bool) (xs : List X) → AllByRecursion P xs → AllByRecursion P (without_first p xs)
all-without_first P p [] a = tt
all-without_first P p (x ∷ xs) a = by (p x) (all-without_first P p xs a.1)
  where
    by : (b : Bool) → AllByRecursion P (without_first p xs) → AllByRecursion P (cond b xs (x ∷ without_first p xs))
    by true rest = a.1
    by false rest = (a.0, rest)

-- of the items some of which are changed
pub all-changed : {X : Type 0} (P : X → Type 0) (p : X → Bool) (g : X → X) (xs : List X) → ((x : X) → P x → P (g x)) → AllByRecursion P xs → AllByRecursion P (map (λ x. cond (p x) (g x) x) xs)
all-changed P p g [] h a = tt
all-changed P p g (x ∷ xs) h a = (by (p x), all-changed P p g xs h a.1)
  where
    by : (b : Bool) → P (cond b (g x) x)
    by true = h x a.0
    by false = a.0

-- items some of which are changed, mapped
pub changed-map : {X Y : Type 0} (f : X → Y) (p : X → Bool) (q : Y → Bool) (g : X → X) (h : Y → Y) (xs : List X) → ((x : X) → h (f x) ≡ f (g x)) → AllByRecursion (λ x. q (f x) ≡ p x) xs
    → map (λ y. cond (q y) (h y) y) (map f xs) ≡ map f (map (λ x. cond (p x) (g x) x) xs)
changed-map f p q g h [] e a = refl
changed-map {X} {Y} f p q g h (x ∷ xs) e a = λ i. (ap (λ (b : Bool). cond b (h (f x)) (f x)) a.0 ∙ by (p x)) i ∷ changed-map f p q g h xs e a.1 i
  where
    by : (b : Bool) → cond b (h (f x)) (f x) ≡ f (cond b (g x) x)
    by true = e x
    by false = refl

-- what is given unless a condition holds, mapped
pub unless-map : {X Y : Type 0} (h : X → Y) (cs ds : List Condition) (x : X) (y : Y) → ds ≡ cs → y ≡ h x → ◌≡◌ {A = Result Y Cause} (unless ds y) (result_map_both h (λ (e : Cause). e) (unless cs x))
unless-map {X} {Y} h cs ds x y e u = (λ i. unless (e i) (u i)) ∙ by (first_cause cs)
  where
    by : (o : Option Cause) → ◌≡◌ {A = Result Y Cause} (option_map_or Err o (Ok (h x))) (result_map_both h (λ (c : Cause). c) (option_map_or Err o (Ok x)))
    by None = refl
    by (Some c) = refl

-- a fact of what is given unless a condition holds
pub unless-all : {X : Type 0} (P : X → Type 0) (cs : List Condition) (x : X) → P x → IfOk (unless cs x) P
unless-all {X} P cs x p = by (first_cause cs)
  where
    by : (o : Option Cause) → IfOk {T = X} {E = Cause} (option_map_or Err o (Ok x)) P
    by None = p
    by (Some c) = tt
