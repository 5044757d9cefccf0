-- What look-ups give: the method or do-it by its number in the image, and the path of the node there.
use Rattle.std.specs.Prelude.{ℕ, List, map, filter}
use Rattle.std.specs.List.{flat_map, enumerate_from, range_with_len}
use Rattle.image_model.specs.Nodes.{Place, in_method, in_doit, Use}
use Rattle.class_table.specs.declared.record.Place.TheVariants as place
use Rattle.use_index.specs.declared.found.Found.{Found}
use Rattle.use_index.specs.declared.found.Owner.{Owner}
use Rattle.use_index.specs.declared.found.Owner.TheVariants as owner
use Rattle.use_index.specs.declared.uses.UseAt.{UseAt}
use Rattle.use_index.specs.declared.uses.Sought.{Sought}
use Rattle.use_index.specs.Index.{Known}
use Rattle.use_index.specs.Rows.{used_of}
use Rattle.use_index.specs.Uses.{is_use}

-- where it is found in the image
abbrev pub place_of : Owner → Place
place_of (owner.Method k) = in_method k
place_of (owner.DoIt n) = in_doit n

abbrev pub use_of : Found → Use
use_of f = record { place = place_of f.owner; path = f.path }

-- a use at an owner
abbrev pub found_at : Owner → UseAt → Found
found_at o u = record { owner = o; path = u.path }

-- the uses of a name that are looked for, as they are kept of methods in order, and of so many do-its
abbrev pub found_in_row : ℕ → Sought → Owner → List UseAt → List Found
found_in_row n what o row = map (found_at o) (filter (is_use n what) row)

abbrev pub found_in_methods : Known → ℕ → Sought → List ℕ → List Found
found_in_methods x n what order = flat_map (λ e. found_in_row n what (owner.Method e.0) (used_of x.uses (place.Method e.1))) (enumerate_from 0 order)

abbrev pub found_in_doits : Known → ℕ → Sought → ℕ → List Found
found_in_doits x n what count = flat_map (λ k. found_in_row n what (owner.DoIt k) (used_of x.uses (place.DoIt k))) (range_with_len 0 count)
