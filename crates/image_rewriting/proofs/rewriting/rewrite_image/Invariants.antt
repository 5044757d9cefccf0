use Rattle.image_rewriting.proofs.rewriting.rewrite_image.Given as goal

abbrev pub ghosts-rewrite_counted : goal.ghosts-rewrite_counted
ghosts-rewrite_counted a = record { name = a.blank.name; parts = a.blank.parts }
