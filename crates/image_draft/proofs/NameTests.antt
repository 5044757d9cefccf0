-- Names that are put into sets one after the other.
use Rattle.std.proofs.Common.{◌≡◌, ℕ, Bool, true, false, not, List, [], ◌∷◌, ◌++◌, refl, sym, ap, subst, ◌∙◌, nat_eq}
use Rattle.std.specs.Prelude.{◌&&◌, ◌||◌, if◌then◌else◌}
use Rattle.std.specs.List.{list_any}
use Rattle.std.specs.Option.{option_map_or}
use Rattle.std.proofs.lemmas.List.Folds.{list_any-append}
use Rattle.image_model.specs.Image.{ClassOf}
use Rattle.image_model.specs.Means.{VariableKind, variables}
use Rattle.file_model.specs.Hierarchy.{has_repeat}
use Rattle.file_laws.proofs.Below as below
use Rattle.image_draft.specs.NameSets.{has, with_name, with_names, comes_again}
use Rattle.image_draft.specs.Parts.{brings, marked}
use Rattle.image_draft.proofs.ClassPlaces.{same_back}

-- an item that passes one of two tests
any_either : {X : Type 0} (f g : X → Bool) (xs : List X) → list_any (λ x. f x || g x) xs ≡ (list_any f xs || list_any g xs)
any_either f g [] = refl
any_either f g (x ∷ xs) = ap (λ b. (f x || g x) || b) (any_either f g xs) ∙ by (f x) (g x) (list_any f xs) (list_any g xs)
  where
    by : (a b c d : Bool) → ((a || b) || (c || d)) ≡ ((a || c) || (b || d))
    by true b c d = refl
    by false true true d = refl
    by false true false d = refl
    by false false c d = refl

-- a name that passes a test or is one of these
pub told_names : (xs : List ℕ) (f : ℕ → Bool) (m : ℕ) → with_names xs f m ≡ (list_any (nat_eq m) xs || f m)
told_names [] f m = refl
told_names (x ∷ xs) f m = told_names xs (with_name x f) m ∙ ap (λ b. list_any (nat_eq m) xs || (b || f m)) (same_back x m) ∙ by (nat_eq m x) (list_any (nat_eq m) xs) (f m)
  where
    by : (a b c : Bool) → (b || (a || c)) ≡ ((a || b) || c)
    by true true c = refl
    by true false c = refl
    by false b c = refl

-- a name stands twice or passes a test
again_either : (f : ℕ → Bool) (xs : List ℕ) → comes_again f xs ≡ (list_any f xs || has_repeat nat_eq xs)
again_either f [] = refl
again_either f (x ∷ xs) =
    ap (λ b. f x || b) (again_either (with_name x f) xs ∙ ap (λ b. b || has_repeat nat_eq xs) (any_either (nat_eq x) f xs))
    ∙ by (f x) (list_any (nat_eq x) xs) (list_any f xs) (has_repeat nat_eq xs)
  where
    by : (a b c d : Bool) → (a || ((b || c) || d)) ≡ ((a || c) || (b || d))
    by true b c d = refl
    by false true true d = refl
    by false true false d = refl
    by false false c d = refl

-- tests that tell the same names
again_alike : (f g : ℕ → Bool) → ((m : ℕ) → f m ≡ g m) → (xs : List ℕ) → comes_again f xs ≡ comes_again g xs
again_alike f g same xs = ap (λ h. comes_again h xs) (λ i m. same m i)

-- the empty set tells no name
nothing_told : (xs : List ℕ) → list_any (has []) xs ≡ false
nothing_told [] = refl
nothing_told (x ∷ xs) = nothing_told xs

-- so no class brings one
pub never_brought : (n : ℕ) (kind : VariableKind) (marks : List Bool) (cs : List (ClassOf ℕ)) → marks ≡ [] → false ≡ list_any (brings n kind (has marks)) cs
never_brought n kind marks cs none = sym (ap (λ (ms : List Bool). list_any (brings n kind (has ms)) cs) none ∙ by cs)
  where
    neither : (b : Bool) → (b && false) ≡ false
    neither true = refl
    neither false = refl

    by : (xs : List (ClassOf ℕ)) → list_any (brings n kind (has [])) xs ≡ false
    by [] = refl
    by (x ∷ xs) = ap (λ b. (not (nat_eq n x.name) && b) || list_any (brings n kind (has [])) xs) (nothing_told (variables kind x)) ∙ ap (λ b. b || list_any (brings n kind (has [])) xs) (neither (not (nat_eq n x.name))) ∙ by xs

pub again_none : (marks : List Bool) (xs : List ℕ) → marks ≡ [] → comes_again (has marks) xs ≡ has_repeat nat_eq xs
again_none marks xs none = ap (λ ms. comes_again (has ms) xs) none ∙ again_either (has []) xs ∙ ap (λ b. b || has_repeat nat_eq xs) (nothing_told xs)

-- names behind others
pub again_append : (f : ℕ → Bool) (xs ys : List ℕ) → comes_again f (xs ++ ys) ≡ (comes_again f xs || comes_again (with_names xs f) ys)
again_append f [] ys = refl
again_append f (x ∷ xs) ys = ap (λ b. f x || b) (again_append (with_name x f) xs ys) ∙ by (f x) (comes_again (with_name x f) xs) (comes_again (with_names xs (with_name x f)) ys)
  where
    by : (a b c : Bool) → (a || (b || c)) ≡ ((a || b) || c)
    by true b c = refl
    by false b c = refl

pub with_append : (f : ℕ → Bool) (xs ys : List ℕ) → with_names (xs ++ ys) f ≡ with_names ys (with_names xs f)
with_append f [] ys = refl
with_append f (x ∷ xs) ys = with_append (with_name x f) xs ys

-- what is known of the names that are left, once some are put into the set
pub record IsNotedFrom (f : ℕ → Bool) (names : List ℕ) (now : List Bool) (rest : List ℕ) : Type 0 where
  pub again : comes_again (has now) rest ≡ comes_again f names
  pub told : (m : ℕ) → with_names rest (has now) m ≡ with_names names f m

pub noted_first : (f : ℕ → Bool) (names : List ℕ) (now : List Bool) → f ≡ has now → IsNotedFrom f names now names
noted_first f names now is = record { again = ap (λ g. comes_again g names) (sym is); told = λ m. ap (λ g. with_names names g m) (sym is) }

-- names that are all new are put into the set
pub noted_more : (f : ℕ → Bool) (names rest xs : List ℕ) (now new : List Bool) → IsNotedFrom f names now (xs ++ rest) → comes_again (has now) xs ≡ false → ((m : ℕ) → has new m ≡ with_names xs (has now) m) → IsNotedFrom f names new rest
noted_more f names rest xs now new known fresh noted = record {
  again =
      ap (λ g. comes_again g rest) is
      ∙ sym (ap (λ b. b || comes_again (with_names xs (has now)) rest) fresh)
      ∙ sym (again_append (has now) xs rest) ∙ known.again;
  told = λ m. ap (λ g. with_names rest g m) is ∙ sym (ap (λ g. g m) (with_append (has now) xs rest)) ∙ known.told m;
}
  where
    is : has new ≡ with_names xs (has now)
    is = λ i m. noted m i

-- a name that is new is put into the set
pub noted_one : (f : ℕ → Bool) (names all rest : List ℕ) (x : ℕ) (now new : List Bool) → IsNotedFrom f names now all → all ≡ x ∷ rest → has now x ≡ false → ((m : ℕ) → has new m ≡ with_name x (has now) m) → IsNotedFrom f names new rest
noted_one f names all rest x now new known is fresh noted =
    noted_more f names rest (x ∷ []) now new (subst (IsNotedFrom f names now) is known) (ap (λ b. b || false) fresh) noted

-- once no name is left, none stands twice, and the set tells the names
pub noted_once : (names rest : List ℕ) (now : List Bool) → IsNotedFrom (has []) names now rest → rest ≡ [] → has_repeat nat_eq names ≡ false
noted_once names rest now known none = sym (again_none [] names refl) ∙ sym known.again ∙ ap (comes_again (has now)) none

pub noted_names : (names rest : List ℕ) (now : List Bool) → IsNotedFrom (has []) names now rest → rest ≡ [] → (m : ℕ) → has now m ≡ list_any (nat_eq m) names
noted_names names rest now known none = λ m. sym (ap (λ xs. with_names xs (has now) m) none) ∙ known.told m ∙ told_names names (has []) m ∙ or_none (list_any (nat_eq m) names)
  where
    or_none : (b : Bool) → (b || false) ≡ b
    or_none true = refl
    or_none false = refl

-- where one of the names that come next was there, one stands twice
pub noted_twice : (names rest xs : List ℕ) (now : List Bool) → IsNotedFrom (has []) names now (xs ++ rest) → comes_again (has now) xs ≡ true → has_repeat nat_eq names ≡ true
noted_twice names rest xs now known there =
    sym (again_none [] names refl) ∙ sym known.again ∙ again_append (has now) xs rest ∙ ap (λ b. b || comes_again (with_names xs (has now)) rest) there

-- what is not new was there
pub was_new : (b : Bool) → not b ≡ true → b ≡ false
was_new true h = sym h
was_new false h = refl

pub was_there : (b : Bool) → not b ≡ false → b ≡ true
was_there true h = refl
was_there false h = sym h

pub not_not : (b : Bool) → not (not b) ≡ b
not_not true = refl
not_not false = refl

-- the same classes are marked by a list of names and by a test that tells them
pub marked_told : (n : ℕ) (names : List ℕ) (f : ℕ → Bool) → ((m : ℕ) → f m ≡ list_any (nat_eq m) names) → (cs : List (ClassOf ℕ)) → below.marked nat_eq n names cs ≡ marked n f cs
marked_told n names f told [] = refl
marked_told n names f told (c ∷ cs) =
    λ i. if nat_eq n c.name || option_map_or (λ s. sym (told s) i) c.superclass false then c ∷ marked_told n (names ++ c.name ∷ []) (with_name c.name f) longer cs i else marked_told n names f told cs i
  where
    or_one : (a b : Bool) → (a || b) ≡ (b || (a || false))
    or_one true true = refl
    or_one true false = refl
    or_one false true = refl
    or_one false false = refl

    longer : (m : ℕ) → with_name c.name f m ≡ list_any (nat_eq m) (names ++ c.name ∷ [])
    longer m =
        (λ i. same_back c.name m i || told m i)
        ∙ or_one (nat_eq m c.name) (list_any (nat_eq m) names)
        ∙ sym (list_any-append (nat_eq m) names (c.name ∷ []))
