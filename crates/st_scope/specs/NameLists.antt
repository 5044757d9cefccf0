-- Lists in which each name stands once.
use Rattle.std.specs.Prelude.{ℕ, Bool, not, List, [], ◌∷◌, ◌++◌, filter, if◌then◌else◌, nat_eq}
use Rattle.scope_model.specs.Scope.{is_among}

-- the list with a name at its end, if it is not there yet
abbrev pub with_name : List ℕ → ℕ → List ℕ
with_name ns n = if is_among nat_eq ns n then ns else ns ++ n ∷ []

-- the list with each of these in turn
abbrev pub with_names : List ℕ → List ℕ → List ℕ
with_names ns [] = ns
with_names ns (k ∷ ks) = with_names (with_name ns k) ks

-- the names that are not pseudo-variables'
abbrev pub ordinary : (ℕ → Bool) → List ℕ → List ℕ
ordinary is_pseudo ns = filter (λ n. not (is_pseudo n)) ns

-- what was found, with each of these names that is not bound
abbrev pub gathered : List ℕ → List ℕ → List ℕ → List ℕ
gathered bound found ns = with_names found (filter (λ n. not (is_among nat_eq bound n)) ns)
