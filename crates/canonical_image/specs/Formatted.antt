-- An image with canonical sources.
use Rattle.std.specs.Prelude.{ℕ, List, map, if◌then◌else◌}
use Rattle.image_model.specs.Image.{EntryOf, DoItOf, ImageOf}
use Rattle.text_model.specs.Whole.{canonical_method, canonical_doit}

-- the method with the canonical text of its tree as source; one of the kernel stays as it is
abbrev pub formatted_entry : EntryOf (List ℕ) → EntryOf (List ℕ)
formatted_entry m = record m { source = if m.kernel then m.source else canonical_method m.tree }

-- the do-it with the canonical text of its body as source
abbrev pub formatted_doit : DoItOf (List ℕ) → DoItOf (List ℕ)
formatted_doit d = record d { source = canonical_doit d.body }

-- the image with each method and each do-it so; all else is the same
abbrev pub formatted : ImageOf (List ℕ) → ImageOf (List ℕ)
formatted i = record i { methods = map formatted_entry i.methods; doits = map formatted_doit i.doits }
