-- Lists of what is found among live slots, and facts of each item.
use Rattle.std.proofs.Common.{◌≡◌, ℕ, ◌+◌, ◌<◌, Bool, true, false, List, [], ◌∷◌, ◌++◌, length, map, filter, take, get_or, append_assoc, Option, None, Some, option_map, slice_get, refl, sym, ap, ◌∙◌}
use Rattle.std.specs.Prelude.{if◌then◌else◌}
use Rattle.std.specs.List.{filter_map, cons_option, AllByRecursion}
use Rattle.std.specs.Option.{option_and_then}
use Rattle.std.proofs.lemmas.List.{take_more}
use Rattle.std.proofs.lemmas.List.Elements.{filter_map-append}
use Rattle.class_table.specs.Valid.{IsLive}
use Rattle.class_table.specs.View.{live}
use Rattle.class_table.proofs.Live.{IsLive-first, IsLive-rest}

-- what was found so far, in a list that is gone through
pub found-more : {X : Type 0} (f : ℕ → Option X) (order : List ℕ) (i k : ℕ) (before now after : List X) → i < length order → k ≡ get_or order i k → now ≡ before ++ filter_map f (take i order) → after ≡ now ++ cons_option (f k) []
    → after ≡ before ++ filter_map f (take (i + 1) order)
found-more {X} f order i k before now after lt is so e =
    e ∙ ap (λ (xs : List X). xs ++ cons_option (f k) []) so ∙ append_assoc before (filter_map f (take i order)) (cons_option (f k) [])
    ∙ ap (λ (xs : List X). before ++ xs) (sym (ap (filter_map f) taken ∙ filter_map-append f (take i order) (k ∷ [])))
  where
    taken : take (i + 1) order ≡ take i order ++ k ∷ []
    taken = take_more order i k lt ∙ ap (λ (j : ℕ). take i order ++ j ∷ []) (sym is)

-- what is found in live slots, where it is found in those that pass a test of what they hold
pub found-live : {X Y Z W : Type 0} (give : ℕ → Option W) (view : W → Z) (g : X → Y) (t : Y → Bool) (h : Y → Z) (xs : List X) (order : List ℕ)
    → ((k : ℕ) → IsLive order k → option_map view (give k) ≡ option_and_then (λ x. if t (g x) then Some (h (g x)) else None) (slice_get xs k))
    → map view (filter_map give order) ≡ map h (filter t (map g (live xs order)))
found-live give view g t h xs [] same = refl
found-live {X} {Y} {Z} {W} give view g t h xs (k ∷ ks) same =
    given (give k)
    ∙ ap (λ (o : Option Z). cons_option o (map view (filter_map give ks))) (same k (IsLive-first k ks))
    ∙ ap (cons_option (option_and_then (λ x. if t (g x) then Some (h (g x)) else None) (slice_get xs k))) (found-live give view g t h xs ks (λ j l. same j (IsLive-rest j k ks l)))
    ∙ held (slice_get xs k)
  where
    given : (o : Option W) → map view (cons_option o (filter_map give ks)) ≡ cons_option (option_map view o) (map view (filter_map give ks))
    given None = refl
    given (Some w) = refl

    one : (y : Y) (b : Bool) → cons_option (if b then Some (h y) else None) (map h (filter t (map g (live xs ks)))) ≡ map h (if b then y ∷ filter t (map g (live xs ks)) else filter t (map g (live xs ks)))
    one y true = refl
    one y false = refl

    held : (o : Option X) → cons_option (option_and_then (λ x. if t (g x) then Some (h (g x)) else None) o) (map h (filter t (map g (live xs ks)))) ≡ map h (filter t (map g (cons_option o (live xs ks))))
    held None = refl
    held (Some x) = one (g x) (t (g x))

-- a fact of each item of a mapped list
pub all-unmapped : {X Y : Type 0} (P : Y → Type 0) (f : X → Y) (xs : List X) → AllByRecursion P (map f xs) → AllByRecursion (λ x. P (f x)) xs
all-unmapped P f [] a = tt
all-unmapped P f (x ∷ xs) a = (a.0, all-unmapped P f xs a.1)
