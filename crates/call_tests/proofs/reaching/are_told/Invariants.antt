use Rattle.call_tests.proofs.reaching.are_told.Given as goal

abbrev pub ghosts-is_told : goal.ghosts-is_told
ghosts-is_told a = record { name = a.blank.name; parts = a.blank.parts }
