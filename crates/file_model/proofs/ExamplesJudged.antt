-- The examples are as the definitions have them.
use Rattle.std.proofs.Common.{◌≡◌, List, [], ◌∷◌, map, refl}
use Rattle.scope_model.specs.SpecialNames.{is_pseudo_variable}
use Rattle.st_kernel.specs.Selectors.{is_reserved_selector}
use Rattle.file_model.specs.Written.{file_of}
use Rattle.file_model.specs.Examples.{Row, result_of, AllMade, accepted, refusals, written_image, written_text}

-- rows are right whose results are those that stand in them
all_made : (rs : List Row) → map result_of rs ≡ map (λ (r : Row). r.after) rs → AllMade rs
all_made [] e = tt
all_made (r ∷ rs) e =
    let first : result_of r ≡ r.after = cc in
    let others : map result_of rs ≡ map (λ (r : Row). r.after) rs = cc in
    (first, all_made rs others)

-- chunks that are taken
pub makes_accepted : AllMade accepted
unfolding is_pseudo_variable is_reserved_selector
makes_accepted = all_made accepted refl

-- chunks that are refused
pub makes_refusals : AllMade refusals
unfolding is_pseudo_variable is_reserved_selector
makes_refusals = all_made refusals refl

-- an image that is written
pub writes : file_of written_image ≡ written_text
writes = refl
