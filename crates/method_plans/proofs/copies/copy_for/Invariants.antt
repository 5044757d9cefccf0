use Rattle.method_plans.proofs.copies.copy_for.Given as goal

abbrev pub ghosts-counted_copy : goal.ghosts-counted_copy
ghosts-counted_copy a = record { name = a.blank.name; parts = a.blank.parts }
