use Rattle.std.proofs.Common.{ap, ◌∙◌}
use Rattle.std.specs.Prelude.{false}
use Rattle.token_model.specs.declared.kind.Dialect.TheVariants.{Second}
use Rattle.grammar_model.specs.Spanned.{SpannedMethod}
use Rattle.grammar_model.proofs.Texts.{one_SpellsMethodAt}
use Rattle.event_spans.specs.Answers.{sequence_spans}
use Rattle.image_queries.proofs.nodes.method_nodes.Goals as goal

pub returns-in-Ok : goal.returns-in-Ok
returns-in-Ok c = λ tree spells.
    let found = c.in-Ok.ensures.spans in
    found.holds ∙ ap (λ (t : SpannedMethod). sequence_spans t.body) (one_SpellsMethodAt Second false c.args.source.now found.tree tree found.spells spells)
