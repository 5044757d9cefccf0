use Rattle.std.proofs.Common.{rules, filter, not, nat_eq, ap, ◌∙◌}
use Rattle.std.proofs.lemmas.Fn.{filter_same}
use Rattle.placed_draft.proofs.order.without_name.Goals as goal

pub returns : goal.returns
returns c = c.from_vec.ensures ∙ filter_same _ _ _ (λ x b f' k. search rules) _ _ c.retain.ensures.filtered ∙ ap (filter (λ n. not (nat_eq c.args.name n))) c.into_vec-names.ensures
