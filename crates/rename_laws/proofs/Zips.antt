-- Lists beside what is made of them.
use Rattle.std.proofs.Common.{◌≡◌, List, [], ◌∷◌, Option, Some, None, refl}
use Rattle.std.specs.Prelude.{map, option_map}
use Rattle.std.specs.List.{AllByRecursion, AllZip}
use Rattle.run_model.specs.Values.{Name}
use Rattle.resolved_model.proofs.LookupLemmas.{everywhere}

-- a name that there may be stays
pub any-kept : (o : Option Name) → o ≡ option_map (λ c. c) o
any-kept (Some c) = refl
any-kept None = refl

-- each item of which a fact holds beside what a function makes of it
pub zip-mapped : {X : Type 0} (P : X → Type 0) (R : X → X → Type 0) (g : X → X) → ((x : X) → P x → R x (g x)) → (xs : List X) → AllByRecursion P xs → AllZip R xs (map g xs)
zip-mapped P R g h [] a = tt
zip-mapped P R g h (x ∷ xs) a = (h x a.0, zip-mapped P R g h xs a.1)

-- any item beside what a function makes of it
pub zip-after : {X : Type 0} (R : X → X → Type 0) (g : X → X) → ((x : X) → R x (g x)) → (xs : List X) → AllZip R xs (map g xs)
zip-after {X} R g h xs = zip-mapped (λ (x : X). Unit {0}) R g (λ x k. h x) xs (everywhere (λ (x : X). Unit {0}) (λ x. tt) xs)

-- each item beside itself
pub zip-same : {X : Type 0} (R : X → X → Type 0) → ((x : X) → R x x) → (xs : List X) → AllZip R xs xs
zip-same R h [] = tt
zip-same R h (x ∷ xs) = (h x, zip-same R h xs)
