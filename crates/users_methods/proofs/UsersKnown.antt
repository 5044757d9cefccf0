-- The names in the user's method that a command names are in the table.
use Rattle.std.proofs.Common.{◌≡◌, ℕ, ◌<◌, Bool, true, false, cond, List, [], ◌∷◌, length, find, Option, None, Some, subst}
use Rattle.std.specs.Prelude.{nat_eq, if◌then◌else◌}
use Rattle.std.specs.List.{AllByRecursion}
use Rattle.std.specs.Option.{option_and_then}
use Rattle.tree_model.specs.AllNames.{MethodNames}
use Rattle.image_model.specs.Image.{EntryOf}
use Rattle.image_model.specs.ImageNames.{EntryNames}
use Rattle.image_model.specs.Lookup.{is_method}
use Rattle.class_table.specs.Slots.{Slots}
use Rattle.class_table.specs.Valid.{IsOrderly}
use Rattle.class_table.specs.View.{number_image}
use Rattle.command_model.specs.Places.{users_method}

-- what holds of each item holds of the one that is found
found-fact : {X : Type 0} (P : X → Type 0) (p : X → Bool) (xs : List X) (m : X) → AllByRecursion P xs → find p xs ≡ Some m → P m
found-fact P p [] m a e = absurd (cc)
found-fact {X} P p (x ∷ xs) m a e = by (p x) e (found-fact P p xs m a.1)
  where
    by : (b : Bool) → cond b (Some x) (find p xs) ≡ Some m → (find p xs ≡ Some m → P m) → P m
    by true is rest = let same : x ≡ m = cc in subst P same a.0
    by false is rest = rest is

of-users : (o : Option (EntryOf ℕ)) (m : EntryOf ℕ) → option_and_then (λ (n : EntryOf ℕ). if n.kernel then None else Some n) o ≡ Some m → o ≡ Some m
of-users None m e = absurd (cc)
of-users (Some n) m e = by n.kernel e
  where
    by : (b : Bool) → (if b then None else Some n) ≡ Some m → Some n ≡ Some m
    by true is = absurd (cc)
    by false is = is

-- its names are in the table
pub users-known : (s : Slots) (o : IsOrderly s) (c : ℕ) (meta : Bool) (selector : ℕ) (m : EntryOf ℕ) → users_method nat_eq (number_image s) c meta selector ≡ Some m → MethodNames (λ n. n < length s.names) m.tree
users-known s o c meta selector m e =
    (found-fact (λ (n : EntryOf ℕ). EntryNames (λ k. k < length s.names) n) (is_method nat_eq c meta selector) (number_image s).methods m o.names_known.methods
    (of-users (find (is_method nat_eq c meta selector) (number_image s).methods) m e)).tree
