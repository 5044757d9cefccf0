use Rattle.image_search.proofs.lines.write_matches.Given as goal

abbrev pub ghosts-all_lines : goal.ghosts-all_lines
ghosts-all_lines a = record { name = a.blank.name; parts = a.blank.parts }
