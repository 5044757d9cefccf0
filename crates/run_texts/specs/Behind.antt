-- Elements of an array behind the first.
use Rattle.std.specs.Prelude.{ℕ, List, ◌++◌, codes, flat_map}
use Rattle.run_model.specs.Values.{Atom}
use Rattle.run_model.specs.Views.{atom_text}

-- the texts of atoms in order, each behind a blank
abbrev pub atoms_behind : List Atom → List ℕ
atoms_behind atoms = flat_map (λ a. codes " " ++ atom_text a) atoms
