use Rattle.st_program.proofs.fetch.tree_at.Given as goal

abbrev pub ghosts-counted_tree : goal.ghosts-counted_tree
ghosts-counted_tree a = record { name = a.blank.name; parts = a.blank.parts }
