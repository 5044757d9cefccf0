-- Chains depend on the names and the superclasses of classes alone.
use Rattle.std.proofs.Common.{◌≡◌, Bool, List, length, map, find, Option, Some, None, option_map, [], ◌∷◌, refl, sym, ap, ◌∙◌}
use Rattle.std.specs.List.{AllByRecursion}
use Rattle.std.specs.Option.{option_and_then}
use Rattle.image_model.specs.Image.{ClassOf}
use Rattle.image_model.specs.ImageNames.{OptionNames}
use Rattle.image_model.specs.Upwards.{upwards}
use Rattle.image_model.specs.Chain.{class_of_name, superclass_of, chain}
use Rattle.image_model.specs.Grown.{hierarchy}
use Rattle.image_model.proofs.Lists.{length-map, find-map}
use Rattle.image_model.proofs.UpwardsLemmas.{upwards-map}

module _ {N : Type 0} (same : N → N → Bool) where
  -- the pair of a name
  abbrev pair_of_name : List (N × Option N) → Option N → Option (N × Option N)
  pair_of_name pairs o = option_and_then (λ n. find (λ p. same n p.0) pairs) o

  -- the chain of a name in a list of pairs
  abbrev pair_chain : List (N × Option N) → Option N → List (N × Option N)
  pair_chain pairs o = upwards (λ p. pair_of_name pairs p.1) (length pairs) (pair_of_name pairs o)

  each : {X : Type 0} (P : X → Type 0) (h : (x : X) → P x) (xs : List X) → AllByRecursion P xs
  each P h [] = tt
  each P h (x ∷ xs) = (h x, each P h xs)

  any : (o : Option (ClassOf N)) → OptionNames (λ c. Unit {0}) o
  any None = tt
  any (Some c) = tt

  found : (classes : List (ClassOf N)) (o : Option N) → pair_of_name (map hierarchy classes) o ≡ option_map hierarchy (class_of_name same classes o)
  found classes None = refl
  found classes (Some n) = find-map hierarchy (λ c. same n c.name) (λ p. same n p.0) classes (each _ (λ c. refl) classes)

  chain-pairs : (classes : List (ClassOf N)) (o : Option N) → pair_chain (map hierarchy classes) o ≡ map hierarchy (chain same classes o)
  chain-pairs classes o =
      (λ i. upwards (λ p. pair_of_name (map hierarchy classes) p.1) (length-map hierarchy classes i) (found classes o i))
      ∙ upwards-map hierarchy (superclass_of same classes) (λ p. pair_of_name (map hierarchy classes) p.1) (λ c. Unit {0}) (λ c u. any (superclass_of same classes c)) (λ c u. found classes c.superclass) (length classes) (class_of_name same classes o) (any (class_of_name same classes o))

  -- the chain of a name in two lists of classes of the same names and superclasses
  pub chain-hierarchy : (before after : List (ClassOf N)) (o : Option N) → map hierarchy before ≡ map hierarchy after → map hierarchy (chain same before o) ≡ map hierarchy (chain same after o)
  chain-hierarchy before after o e = sym (chain-pairs before o) ∙ ap (λ (pairs : List (N × Option N)). pair_chain pairs o) e ∙ chain-pairs after o
