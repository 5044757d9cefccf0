-- The user's method that is found for a class, a side and a selector.
use Rattle.std.proofs.Common.{◌≡◌, Option, Some, None}
use Rattle.std.specs.Prelude.{Bool, true, false, if◌then◌else◌, option_and_then}
use Rattle.image_model.specs.Image.{EntryOf, ImageOf}
use Rattle.image_model.specs.Lookup.{own_method}
use Rattle.command_model.specs.Places.{users_method}

-- it is the one that is found among all methods
pub users-own : {N : Type 0} (same : N → N → Bool) (i : ImageOf N) (c : N) (meta : Bool) (s : N) (n : EntryOf N) → users_method same i c meta s ≡ Some n → own_method same i.methods c meta s ≡ Some n
users-own {N} same i c meta s n = by (own_method same i.methods c meta s)
  where
    either : (b : Bool) (m : EntryOf N) → (if b then None else Some m) ≡ Some n → Some m ≡ Some n
    either true m e = cc
    either false m e = e

    by : (o : Option (EntryOf N)) → option_and_then (λ (m : EntryOf N). if m.kernel then None else Some m) o ≡ Some n → o ≡ Some n
    by None e = cc
    by (Some m) e = either m.kernel m e
