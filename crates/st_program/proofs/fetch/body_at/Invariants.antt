use Rattle.st_program.proofs.fetch.body_at.Given as goal

abbrev pub ghosts-counted_body : goal.ghosts-counted_body
ghosts-counted_body a = record { name = a.blank.name; parts = a.blank.parts }
