-- The pass that finds the classes below a class may begin at its place.
use Rattle.std.proofs.Common.{◌≡◌, ℕ, zero, suc, Bool, true, false, cond, List, [], ◌∷◌, drop, option_map, Option, Some, None, nat_eq, refl, sym, ap, ◌∙◌, arith}
use Rattle.std.specs.Prelude.{◌||◌, if◌then◌else◌, unwrap_or}
use Rattle.std.specs.List.{list_any}
use Rattle.std.specs.Option.{option_map_or}
use Rattle.image_model.specs.Image.{ClassOf}
use Rattle.image_model.specs.Means.{VariableKind}
use Rattle.file_model.specs.Hierarchy.{has_repeat, chain_variables, tree_below, stands_twice}
use Rattle.file_laws.proofs.Below.{is_marked, marked, tree_marked}
use Rattle.image_draft.specs.NameSets.{has}
use Rattle.image_draft.specs.Parts as parts
use Rattle.image_draft.specs.Names.{AreOrdered}
use Rattle.image_draft.specs.Table.{place_in}
use Rattle.image_draft.proofs.ClassPlaces.{place_cons}
use Rattle.image_draft.proofs.NameTests.{marked_told}
use Rattle.image_draft.proofs.Numbers.{nat_itself, nat_equal}
use Rattle.image_draft.proofs.Ordered.{order_of}

-- a class of another name is not marked where no name is
unmarked : (n : ℕ) (x : ClassOf ℕ) → nat_eq n x.name ≡ false → is_marked nat_eq n [] x ≡ false
unmarked n x e = ap (λ b. b || option_map_or (λ (s : ℕ). list_any (nat_eq s) []) x.superclass false) e ∙ by x.superclass
  where
    by : (o : Option ℕ) → option_map_or (λ (s : ℕ). list_any (nat_eq s) []) o false ≡ false
    by None = refl
    by (Some s) = refl

-- so it is passed over
passed_over : (n : ℕ) (x : ClassOf ℕ) (xs : List (ClassOf ℕ)) → nat_eq n x.name ≡ false → marked nat_eq n [] (x ∷ xs) ≡ marked nat_eq n [] xs
passed_over n x xs e = ap (λ (t : Bool). if t then x ∷ marked nat_eq n (x.name ∷ []) xs else marked nat_eq n [] xs) (unmarked n x e)

none_before : (o : Option ℕ) → option_map suc o ≡ None → o ≡ None
none_before None e = refl
none_before (Some k) e = absurd (cc)

never_first : (o : Option ℕ) → option_map suc o ≡ Some 0 → ⊥
never_first None e = cc
never_first (Some k) e = cc

one_before : (o : Option ℕ) (j : ℕ) → option_map suc o ≡ Some (suc j) → o ≡ Some j
one_before None j e = absurd (cc)
one_before (Some k) j e = let more : suc k ≡ suc j = cc in ap Some (omega (arith, more))

-- where no class has the name nothing is marked
marked_none : (cs : List (ClassOf ℕ)) (n : ℕ) → place_in cs n ≡ None → marked nat_eq n [] cs ≡ []
marked_none [] n e = refl
marked_none (x ∷ xs) n e = by (nat_eq n x.name) refl (sym (place_cons x xs n) ∙ e) (λ r. marked_none xs n (none_before (place_in xs n) r))
  where
    by : (b : Bool) → nat_eq n x.name ≡ b → cond b (Some 0) (option_map suc (place_in xs n)) ≡ None → (option_map suc (place_in xs n) ≡ None → marked nat_eq n [] xs ≡ []) → marked nat_eq n [] (x ∷ xs) ≡ []
    by true q r next = absurd (cc)
    by false q r next = passed_over n x xs q ∙ next r

-- nothing in front of the class of the name is marked
marked_from : (cs : List (ClassOf ℕ)) (n k : ℕ) → place_in cs n ≡ Some k → marked nat_eq n [] cs ≡ marked nat_eq n [] (drop k cs)
marked_from [] n k e = absurd (cc)
marked_from (x ∷ xs) n k e = by (nat_eq n x.name) refl k (sym (place_cons x xs n) ∙ e) (λ j r. marked_from xs n j (one_before (place_in xs n) j r))
  where
    by : (b : Bool) → nat_eq n x.name ≡ b → (j : ℕ) → cond b (Some 0) (option_map suc (place_in xs n)) ≡ Some j → ((i : ℕ) → option_map suc (place_in xs n) ≡ Some (suc i) → marked nat_eq n [] xs ≡ marked nat_eq n [] (drop i xs)) → marked nat_eq n [] (x ∷ xs) ≡ marked nat_eq n [] (drop j (x ∷ xs))
    by true q zero r next = refl
    by true q (suc j) r next = absurd (cc)
    by false q zero r next = absurd (never_first (place_in xs n) r)
    by false q (suc j) r next = passed_over n x xs q ∙ next j r

pub twice_none : (cs : List (ClassOf ℕ)) (kind : VariableKind) (n : ℕ) → AreOrdered cs → place_in cs n ≡ None → false ≡ stands_twice nat_eq cs kind n
twice_none cs kind n o e =
    sym (ap (list_any (λ (c : ClassOf ℕ). has_repeat nat_eq (chain_variables nat_eq cs kind c))) (tree_marked nat_eq nat_itself nat_equal cs n (order_of cs o) ∙ marked_none cs n e))

-- one pass from the class of a name on finds it and those below it
tree_passed : (cs : List (ClassOf ℕ)) (n : ℕ) → AreOrdered cs → marked nat_eq n [] (drop (unwrap_or (place_in cs n) 0) cs) ≡ tree_below nat_eq cs n
tree_passed cs n o = by (place_in cs n) refl ∙ sym (tree_marked nat_eq nat_itself nat_equal cs n (order_of cs o))
  where
    by : (q : Option ℕ) → place_in cs n ≡ q → marked nat_eq n [] (drop (unwrap_or q 0) cs) ≡ marked nat_eq n [] cs
    by None e = refl
    by (Some k) e = sym (marked_from cs n k e)

pub tree_told : (cs : List (ClassOf ℕ)) (n : ℕ) → AreOrdered cs → parts.marked n (has []) (drop (unwrap_or (place_in cs n) 0) cs) ≡ tree_below nat_eq cs n
tree_told cs n o = sym (marked_told n [] (has []) (λ m. refl) (drop (unwrap_or (place_in cs n) 0) cs)) ∙ tree_passed cs n o
