-- Sets of names by their numbers, and tests of names.
use Rattle.std.specs.Prelude.{ℕ, List, [], ◌∷◌, Bool, false, ◌||◌, nat_eq, get_or}

-- whether a name is marked
abbrev pub has : List Bool → ℕ → Bool
has marks n = get_or marks n false

-- the test that a name passes too
abbrev pub with_name : ℕ → (ℕ → Bool) → ℕ → Bool
with_name n f m = nat_eq n m || f m

-- the test that each of these names passes too
abbrev pub with_names : List ℕ → (ℕ → Bool) → (ℕ → Bool)
with_names [] f = f
with_names (x ∷ xs) f = with_names xs (with_name x f)

-- whether a name passes a test or stands twice
abbrev pub comes_again : (ℕ → Bool) → List ℕ → Bool
comes_again f [] = false
comes_again f (x ∷ xs) = f x || comes_again (with_name x f) xs
