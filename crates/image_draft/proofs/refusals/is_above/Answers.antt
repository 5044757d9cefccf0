use Rattle.std.proofs.Common.{ℕ, Option, not, nat_eq, sym, ap, ◌∙◌}
use Rattle.image_model.specs.Chain.{chain}
use Rattle.file_model.specs.Hierarchy.{stands_in}
use Rattle.image_draft.proofs.refusals.is_above.Goals as goal

pub returns-else-not-stands_before : goal.returns-else-not-stands_before
returns-else-not-stands_before c =
    ap not c.if-not-stands_before.false
    ∙ sym (ap (λ (q : Option ℕ). stands_in nat_eq c.args.name (chain nat_eq c.args.classes.now q)) c.in-Some.is ∙ c.stands_before.ensures c.if-not-stands_before.false)
