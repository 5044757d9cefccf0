use Rattle.explained_scripts.proofs.explain.explain_and_tell.Given as goal

abbrev pub ghosts-explain_counted : goal.ghosts-explain_counted
ghosts-explain_counted a = record { name = a.blank.name; parts = a.blank.parts }
