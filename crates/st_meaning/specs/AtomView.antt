-- What the program's atoms and views stand for.
use Rattle.run_model.specs.Values.{Atom, nil_atom, true_atom, false_atom, int_atom, char_atom, string_atom, symbol_atom, class_atom, object_atom, array_atom, block_atom, transcript_atom}
use Rattle.st_meaning.specs.declared.view.AtomKind.{AtomKind}
use Rattle.st_meaning.specs.declared.view.AtomKind.TheVariants as kind

-- the atom of runs
abbrev pub atom_of : AtomKind → Atom
atom_of kind.Nil = nil_atom
atom_of kind.True = true_atom
atom_of kind.False = false_atom
atom_of (kind.Int z) = int_atom z
atom_of (kind.Char b) = char_atom b
atom_of (kind.Str t) = string_atom t
atom_of (kind.Sym t) = symbol_atom t
atom_of (kind.Class c) = class_atom c
atom_of (kind.Object c) = object_atom c
atom_of (kind.Array n) = array_atom n
atom_of kind.Block = block_atom
atom_of kind.Transcript = transcript_atom
