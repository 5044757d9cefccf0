use Rattle.std.proofs.Common.{sym, ◌∙◌}
use Rattle.image_draft.proofs.Childless.{unnoted_childless}
use Rattle.image_draft.proofs.standing.is_childless.Goals as goal

pub returns-then-not-is_superclass : goal.returns-then-not-is_superclass
returns-then-not-is_superclass c = λ free. unnoted_childless c.args.owners.now.superclasses c.args.classes.now c.args.name c.requires.owned.superclasses (sym c.is_superclass.ensures ∙ c.if-not-is_superclass.true)
