-- Items that there is but one of.
use Rattle.std.proofs.Common.{◌≡◌, ℕ, ◌+◌, ◌<◌, ◌≤◌, Bool, true, false, cond, List, [], ◌∷◌, ◌++◌, length, map, drop, get_or, Option, None, Some, refl, sym, ap, ◌∙◌}
use Rattle.std.specs.Prelude.{filter}
use Rattle.std.proofs.lemmas.List.{drop_more, drop_all}
use Rattle.command_model.specs.Temporaries.{only}
use Rattle.let_code.specs.Uses.{listed}

module _ {X Y : Type 0} (f : X → Y) (p : Y → Bool) where
  -- the one of what is found so far and of those behind it
  abbrev pub one_of : Option Y → List X → Option Y
  one_of found xs = only (listed found ++ filter p (map f xs))

  -- one more item, by its test
  by-test : (found : Option Y) (x : X) (rest : List X) (b : Bool) → p (f x) ≡ b → one_of found (x ∷ rest) ≡ only (listed found ++ cond b (f x ∷ filter p (map f rest)) (filter p (map f rest)))
  by-test found x rest b e = ap (λ (c : Bool). only (listed found ++ cond c (f x ∷ filter p (map f rest)) (filter p (map f rest)))) e

  here : (found : Option Y) (xs : List X) (i : ℕ) (x : X) → i < length xs → x ≡ get_or xs i x → one_of found (drop i xs) ≡ one_of found (x ∷ drop (i + 1) xs)
  here found xs i x lt is = ap (one_of found) (drop_more xs i x lt ∙ ap (λ (y : X). y ∷ drop (i + 1) xs) (sym is))

  -- it does not pass
  pub one-passed : (found : Option Y) (xs : List X) (i : ℕ) (x : X) (all : Option Y) → i < length xs → x ≡ get_or xs i x → p (f x) ≡ false → one_of found (drop i xs) ≡ all → one_of found (drop (i + 1) xs) ≡ all
  one-passed found xs i x all lt is e so = sym (by-test found x (drop (i + 1) xs) false e) ∙ sym (here found xs i x lt is) ∙ so

  -- it is the first that passes
  pub one-found : (xs : List X) (i : ℕ) (x : X) (all : Option Y) → i < length xs → x ≡ get_or xs i x → p (f x) ≡ true → one_of None (drop i xs) ≡ all → one_of (Some (f x)) (drop (i + 1) xs) ≡ all
  one-found xs i x all lt is e so = sym (by-test None x (drop (i + 1) xs) true e) ∙ sym (here None xs i x lt is) ∙ so

  -- it is another one
  pub one-more : (y : Y) (xs : List X) (i : ℕ) (x : X) (all : Option Y) → i < length xs → x ≡ get_or xs i x → p (f x) ≡ true → one_of (Some y) (drop i xs) ≡ all → None ≡ all
  one-more y xs i x all lt is e so = sym (by-test (Some y) x (drop (i + 1) xs) true e) ∙ sym (here (Some y) xs i x lt is) ∙ so

  -- no item is left
  only-listed : (found : Option Y) → only (listed found ++ []) ≡ found
  only-listed None = refl
  only-listed (Some y) = refl

  pub one-left : (found : Option Y) (xs : List X) (i : ℕ) (all : Option Y) → length xs ≤ i → one_of found (drop i xs) ≡ all → found ≡ all
  one-left found xs i all past so = sym (only-listed found) ∙ ap (one_of found) (sym (drop_all i xs past)) ∙ so
