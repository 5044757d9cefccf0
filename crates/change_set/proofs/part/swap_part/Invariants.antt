use Rattle.change_set.proofs.part.swap_part.Given as goal

abbrev pub ghosts-swap_counted : goal.ghosts-swap_counted
ghosts-swap_counted a = record { name = a.blank.name; parts = a.blank.parts }
