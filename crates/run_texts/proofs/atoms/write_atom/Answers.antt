use Rattle.run_texts.proofs.atoms.write_atom.Goals as goal

pub returns-in-Object : goal.returns-in-Object
returns-in-Object c =
    rw (← c.atom.view_is, c.in-Object.is, ← c.as_slice-in-Object.ensures) c.write_pair-in-Object.ensures
