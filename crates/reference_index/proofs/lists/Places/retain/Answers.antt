use Rattle.std.proofs.Common.{rules, ap, ◌∙◌}
use Rattle.std.specs.Prelude.{filter}
use Rattle.std.proofs.lemmas.Fn.{filter_same}
use Rattle.reference_index.specs.Rows.{mentions}
use Rattle.reference_index.proofs.lists.Places.retain.Goals as goal

pub returns : goal.returns
returns c =
    filter_same _ (mentions c.args.rows.now c.args.name) _ (λ x b f' k. search rules) _ _ c.retain.ensures.filtered
    ∙ ap (filter (mentions c.args.rows.now c.args.name)) c.self.view_is
