use Rattle.applied_scripts.proofs.apply.change_and_tell.Given as goal

abbrev pub ghosts-perform_counted : goal.ghosts-perform_counted
ghosts-perform_counted a = record { name = a.blank.name; parts = a.blank.parts }
