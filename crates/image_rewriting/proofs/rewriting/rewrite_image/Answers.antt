use Rattle.image_rewriting.proofs.rewriting.rewrite_image.Goals as goal

pub rewrite_counted-requires-clause-rule : goal.rewrite_counted-requires-clause-rule
rewrite_counted-requires-clause-rule c = record { pattern = c.requires.pattern; replacement = c.requires.replacement }
