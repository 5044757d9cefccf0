use Rattle.image_strip.proofs.stripped.strip.Given as goal

abbrev pub ghosts-anew : goal.ghosts-anew
ghosts-anew a = record { name = a.blank.name; parts = a.blank.parts }
