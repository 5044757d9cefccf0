use Rattle.std.proofs.Common.{ap, ◌∙◌}
use Rattle.token_model.specs.declared.kind.Dialect.TheVariants.{Second}
use Rattle.grammar_model.specs.Spanned.{SpannedSequence}
use Rattle.grammar_model.proofs.Texts.{one_SpellsDoItAt}
use Rattle.event_spans.specs.Answers.{sequence_spans}
use Rattle.image_queries.proofs.nodes.doit_nodes.Goals as goal

pub returns-in-Ok : goal.returns-in-Ok
returns-in-Ok c = λ tree spells.
    let found = c.in-Ok.ensures.spans in
    found.holds ∙ ap (λ (t : SpannedSequence). sequence_spans t) (one_SpellsDoItAt Second c.args.source.now found.tree tree found.spells spells)
