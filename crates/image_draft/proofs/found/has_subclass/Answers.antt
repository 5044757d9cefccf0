use Rattle.std.proofs.Common.{nat_eq, ap, ◌∙◌}
use Rattle.file_model.specs.Hierarchy.{has_subclass}
use Rattle.image_draft.proofs.Childless.{subclass_behind}
use Rattle.image_draft.proofs.found.has_subclass.Goals as goal

pub returns : goal.returns
returns c = c.is_any_below.ensures ∙ ap (λ cs. has_subclass nat_eq cs c.args.name) c.from_class.ensures ∙ subclass_behind c.args.classes.now c.requires c.args.name
