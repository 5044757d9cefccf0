-- The table is as the definition has it.
use Rattle.std.proofs.Common.{◌≡◌, List, [], ◌∷◌, map, refl}
use Rattle.scope_model.specs.SpecialNames.{is_pseudo_variable}
use Rattle.st_kernel.specs.Selectors.{is_reserved_selector}
use Rattle.import_model.specs.Steps.{spelled}
use Rattle.import_examples.specs.Examples.{Row, chunk, AllMade, rows}

-- rows are right whose results are those that stand in them
all_made : (rs : List Row) → map (λ (r : Row). spelled chunk r.tree) rs ≡ map (λ (r : Row). r.result) rs → AllMade rs
all_made [] e = tt
all_made (r ∷ rs) e =
    let first : spelled chunk r.tree ≡ r.result = cc in
    let others : map (λ (q : Row). spelled chunk q.tree) rs ≡ map (λ (q : Row). q.result) rs = cc in
    (first, all_made rs others)

-- the table
pub makes_rows : AllMade rows
unfolding is_pseudo_variable is_reserved_selector
makes_rows = all_made rows refl
