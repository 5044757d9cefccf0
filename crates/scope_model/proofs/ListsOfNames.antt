-- Lists of names, and changes of names.
use Rattle.std.proofs.Common.{◌≡◌, refl, ap, ◌∙◌, Bool, true, false, cond, List, [], ◌∷◌, ◌++◌, map}
use Rattle.std.specs.Prelude.{filter}
use Rattle.std.specs.List.{AllByRecursion}

module _ {N : Type 0} (P : N → Type 0) where
  -- a fact of the elements of two lists
  pub AllByRecursion-append : (ns ks : List N) → AllByRecursion P ns → AllByRecursion P ks → AllByRecursion P (ns ++ ks)
  AllByRecursion-append [] ks p q = q
  AllByRecursion-append (n ∷ ns) ks p q = (p.0, AllByRecursion-append ns ks p.1 q)

  -- a fact of the elements that a test keeps
  pub AllByRecursion-filter : (test : N → Bool) (ns : List N) → AllByRecursion P ns → AllByRecursion P (filter test ns)
  AllByRecursion-filter test [] p = tt
  AllByRecursion-filter test (n ∷ ns) p =
      elim (test n) as (λ b. AllByRecursion P (cond b (n ∷ filter test ns) (filter test ns))) [
        | true ↦ (p.0, AllByRecursion-filter test ns p.1)
        | false ↦ AllByRecursion-filter test ns p.1
      ]

module _ {N : Type 0} (P Q : N → Type 0) (implies : (n : N) → P n → Q n) where
  -- a fact of each element follows from another
  pub AllByRecursion-implies : (ns : List N) → AllByRecursion P ns → AllByRecursion Q ns
  AllByRecursion-implies [] p = tt
  AllByRecursion-implies (n ∷ ns) p = (implies n p.0, AllByRecursion-implies ns p.1)

module _ {M N : Type 0} (f : M → N) (before : M → Bool) (after : N → Bool) where
  -- a test that answers the same once the names are changed keeps the same names
  pub filter-map : (ns : List M) → AllByRecursion (λ n. after (f n) ≡ before n) ns → filter after (map f ns) ≡ map f (filter before ns)
  filter-map [] p = refl
  filter-map (n ∷ ns) p =
      ap (λ b. cond b (f n ∷ filter after (map f ns)) (filter after (map f ns))) p.0
      ∙ (elim (before n) as (λ b. cond b (f n ∷ filter after (map f ns)) (filter after (map f ns)) ≡ map f (cond b (n ∷ filter before ns) (filter before ns))) [
        | true ↦ ap (λ (ks : List N). f n ∷ ks) (filter-map ns p.1)
        | false ↦ filter-map ns p.1
      ])
