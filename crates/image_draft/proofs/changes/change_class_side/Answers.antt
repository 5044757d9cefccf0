use Rattle.std.proofs.Common.{ℕ, List, is_some, sym, ap, ◌∙◌}
use Rattle.file_model.specs.Causes.{first_cause}
use Rattle.image_draft.specs.Early.{early_side_refusals}
use Rattle.image_draft.proofs.Sound.{untold}
use Rattle.image_draft.proofs.changes.change_class_side.Goals as goal

pub make_class_side-requires-clause-free : goal.make_class_side-requires-clause-free
make_class_side-requires-clause-free c =
    untold (early_side_refusals c.args.classes.now c.args.name c.args.names)
    (ap (λ (names : List ℕ). is_some (first_cause (early_side_refusals c.args.classes.now c.args.name names))) (sym c.as_slice.ensures) ∙ sym c.early_side_refusal-refusal.ensures.some ∙ sym c.is_some.ensures ∙ c.if-is_some.false)
