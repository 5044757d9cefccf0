-- What is asked of methods that are found.
use Rattle.std.proofs.Common.{◌≡◌, ℕ, Option, Some, None, option_map, ap, ◌∙◌}
use Rattle.std.specs.Option.{option_map_or}
use Rattle.image_model.specs.Image.{EntryOf}
use Rattle.method_questions.specs.Found.{bare_entry}

-- what is asked of code alone
pub asked-bare : {R : Type 0} (f : EntryOf ℕ → R) (d : R) → ((m : EntryOf ℕ) → f (bare_entry m) ≡ f m) → (o : Option (EntryOf ℕ)) (e : EntryOf ℕ) → Some e ≡ option_map bare_entry o → f e ≡ option_map_or f o d
asked-bare f d same None e h = absurd (cc)
asked-bare f d same (Some m) e h = let is : e ≡ bare_entry m = cc in ap f is ∙ same m
