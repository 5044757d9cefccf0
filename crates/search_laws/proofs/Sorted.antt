-- Lists of nodes in an order of their paths by which what is further to the left comes first.
use Rattle.std.proofs.Common.{ℕ, ◌+◌, ◌<◌, ◌≤◌, List, [], ◌∷◌, ◌++◌, arith}
use Rattle.std.specs.List.{AllByRecursion}
use Rattle.tree_model.specs.Nodes.{Placed, below_step}

-- what holds of two lists
pub all-append : {X : Type 0} (P : X → Type 0) (xs ys : List X) → AllByRecursion P xs → AllByRecursion P ys → AllByRecursion P (xs ++ ys)
all-append P [] ys a b = b
all-append P (x ∷ xs) ys a b = (a.0, all-append P xs ys a.1 b)

pub all-turned : {X : Type 0} (P Q : X → Type 0) → ((x : X) → P x → Q x) → (xs : List X) → AllByRecursion P xs → AllByRecursion Q xs
all-turned P Q f [] a = tt
all-turned P Q f (x ∷ xs) a = (f x a.0, all-turned P Q f xs a.1)

-- where a path starts
abbrev pub StartsIn : ℕ → ℕ → List ℕ → Type 0
StartsIn k l [] = ⊥
StartsIn k l (j ∷ p) = (k ≤ j) × (j < l)

abbrev pub StartsFrom : ℕ → List ℕ → Type 0
StartsFrom k [] = ⊥
StartsFrom k (j ∷ p) = k ≤ j

starts-later : (k l : ℕ) → k ≤ l → (p : List ℕ) → StartsFrom l p → StartsFrom k p
starts-later k l le [] h = h
starts-later k l le (j ∷ p) h = omega (arith, le, h)

starts-in_from : (k l : ℕ) (p : List ℕ) → StartsIn k l p → StartsFrom k p
starts-in_from k l [] h = h
starts-in_from k l (j ∷ p) h = h.0

starts-wider : (k l m n : ℕ) → m ≤ k → l ≤ n → (p : List ℕ) → StartsIn k l p → StartsIn m n p
starts-wider k l m n le ge [] h = h
starts-wider k l m n le ge (j ∷ p) h = let a = h.0 in let b = h.1 in (omega (arith, le, a), omega (arith, ge, b))

-- what starts in earlier steps comes before
parted : (R : List ℕ → List ℕ → Type 0) → ((j k : ℕ) (p q : List ℕ) → j < k → R (j ∷ p) (k ∷ q)) → (k l : ℕ) (p q : List ℕ) → StartsIn k l p → StartsFrom l q → R p q
parted R apart k l [] q h g = absurd h
parted R apart k l (j ∷ p) [] h g = absurd g
parted R apart k l (j ∷ p) (m ∷ q) h g = let a = h.1 in apart j m p q (omega (arith, a, g))

module _ {N : Type 0} (R : List ℕ → List ℕ → Type 0) where
  -- each node comes before all behind it
  abbrev pub Sorted : List (Placed N) → Type 0
  Sorted [] = Unit {0}
  Sorted (e ∷ es) = AllByRecursion (λ (f : Placed N). R e.0 f.0) es × Sorted es

  -- so, and each starts in these steps, or in these and later ones
  pub record Span (k l : ℕ) (es : List (Placed N)) : Type 0 where
    pub order : Sorted es
    pub starts : AllByRecursion (λ (e : Placed N). StartsIn k l e.0) es

  pub record From (k : ℕ) (es : List (Placed N)) : Type 0 where
    pub order : Sorted es
    pub starts : AllByRecursion (λ (e : Placed N). StartsFrom k e.0) es

  sorted-append : (es fs : List (Placed N)) → Sorted es → Sorted fs → AllByRecursion (λ (e : Placed N). AllByRecursion (λ (f : Placed N). R e.0 f.0) fs) es → Sorted (es ++ fs)
  sorted-append [] fs a b c = b
  sorted-append (e ∷ es) fs a b c = (all-append (λ (f : Placed N). R e.0 f.0) es fs a.0 c.0, sorted-append es fs a.1 b c.1)

  pub span-from : (k l : ℕ) (es : List (Placed N)) → Span k l es → From k es
  span-from k l es h = record { order = h.order; starts = all-turned _ _ (λ (e : Placed N) s. starts-in_from k l e.0 s) es h.starts }

  pub span-wider : (k l m n : ℕ) (es : List (Placed N)) → m ≤ k → l ≤ n → Span k l es → Span m n es
  span-wider k l m n es le ge h = record { order = h.order; starts = all-turned _ _ (λ (e : Placed N) s. starts-wider k l m n le ge e.0 s) es h.starts }

  pub none-span : (k l : ℕ) → Span k l []
  none-span k l = record { order = tt; starts = tt }

  pub none-from : (k : ℕ) → From k []
  none-from k = record { order = tt; starts = tt }

  module _ (apart : (j k : ℕ) (p q : List ℕ) → j < k → R (j ∷ p) (k ∷ q)) where
    pub glued-from : (k l : ℕ) (es fs : List (Placed N)) → k ≤ l → Span k l es → From l fs → From k (es ++ fs)
    glued-from k l es fs le a b = record {
      order = sorted-append es fs a.order b.order (all-turned _ _ (λ (e : Placed N) s. all-turned _ _ (λ (f : Placed N) t. parted R apart k l e.0 f.0 s t) fs b.starts) es a.starts);
      starts =
          all-append (λ (e : Placed N). StartsFrom k e.0) es fs (all-turned _ _ (λ (e : Placed N) s. starts-in_from k l e.0 s) es a.starts)
          (all-turned _ _ (λ (f : Placed N) t. starts-later k l le f.0 t) fs b.starts);
    }

    pub glued-span : (k l m : ℕ) (es fs : List (Placed N)) → k ≤ l → l ≤ m → Span k l es → Span l m fs → Span k m (es ++ fs)
    glued-span k l m es fs le ge a b =
        let from = glued-from k l es fs le a (span-from l m fs b) in
        record {
          order = from.order;
          starts =
              all-append (λ (e : Placed N). StartsIn k m e.0) es fs (all-turned _ _ (λ (e : Placed N) s. starts-wider k l k m (omega arith) ge e.0 s) es a.starts)
              (all-turned _ _ (λ (f : Placed N) t. starts-wider l m k m le (omega arith) f.0 t) fs b.starts);
        }

  module _ (under : (k : ℕ) (p q : List ℕ) → R p q → R (k ∷ p) (k ∷ q)) where
    below-all : (k : ℕ) (p : List ℕ) (es : List (Placed N)) → AllByRecursion (λ (f : Placed N). R p f.0) es → AllByRecursion (λ (f : Placed N). R (k ∷ p) f.0) (below_step k es)
    below-all k p [] a = tt
    below-all k p (e ∷ es) a = (under k p e.0 a.0, below-all k p es a.1)

    below-sorted : (k : ℕ) (es : List (Placed N)) → Sorted es → Sorted (below_step k es)
    below-sorted k [] a = tt
    below-sorted k (e ∷ es) a = (below-all k e.0 es a.0, below-sorted k es a.1)

    below-starts : (k : ℕ) (es : List (Placed N)) → AllByRecursion (λ (e : Placed N). StartsIn k (k + 1) e.0) (below_step k es)
    below-starts k [] = tt
    below-starts k (e ∷ es) = ((omega arith, omega arith), below-starts k es)

    -- nodes one step deeper
    pub below-span : (k : ℕ) (es : List (Placed N)) → Sorted es → Span k (k + 1) (below_step k es)
    below-span k es a = record { order = below-sorted k es a; starts = below-starts k es }
