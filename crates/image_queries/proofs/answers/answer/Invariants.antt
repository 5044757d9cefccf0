use Rattle.image_queries.proofs.answers.answer.Given as goal

abbrev pub ghosts-asked_nodes : goal.ghosts-asked_nodes
ghosts-asked_nodes a = record { name = a.blank.name; parts = a.blank.parts }
