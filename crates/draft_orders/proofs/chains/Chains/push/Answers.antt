use Rattle.std.proofs.Common.{◌∷◌, ◌++◌, [], refl, ap, ◌∙◌}
use Rattle.draft_orders.proofs.Chained.{chained_more}
use Rattle.draft_orders.proofs.chains.Chains.push.Goals as goal

pub returns-clause-chained : goal.returns-clause-chained
returns-clause-chained c =
    chained_more c.args.self.now c.link.new.self _ c.args.superclass c.requires c.in_ok-link.ensures.linked
    (c.in_ok-push_last.ensures ∙ ap (λ a. a.items ++ c.args.superclass ∷ []) c.link.ensures.above) refl refl
