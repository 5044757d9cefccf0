use Rattle.canonical_image.proofs.format.format_image.Given as goal

abbrev pub ghosts-format_counted : goal.ghosts-format_counted
ghosts-format_counted a = record { name = a.blank.name; parts = a.blank.parts }
