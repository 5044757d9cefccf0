use Rattle.strip_texts.proofs.left.strip_from.Given as goal

abbrev pub ghosts-reached : goal.ghosts-reached
ghosts-reached a = record { name = a.blank.name; parts = a.blank.parts }
