use Rattle.std.proofs.Common.{sym, ap, subst, ◌∙◌}
use Rattle.std.specs.Prelude.{unwrap_or, []}
use Rattle.pattern_model.specs.Patterns.{MetaOf}
use Rattle.grammar_model.specs.Terminal.{Text}
use Rattle.event_trees.proofs.Known.{Grows-twice}
use Rattle.pattern_trees.specs.Reading.{IsMeta}
use Rattle.pattern_trees.proofs.Growing.{same_text, still_known}
use Rattle.pattern_trees.proofs.Read.{a_variable, a_meta}
use Rattle.pattern_trees.proofs.metas.operand_pattern.Goals as goal

pub returns-then-not-is_meta-clause-read : goal.returns-then-not-is_meta-clause-read
returns-then-not-is_meta-clause-read c = λ final g.
    let text = c.as_slice-text.ensures ∙ c.in_ok-copied.ensures ∙ ap (λ o. unwrap_or o []) c.text_of.ensures in
    a_variable final c.args.name c.as_slice-text.result.now (text ∙ sym (same_text g c.args.name c.requires)) (still_known g c.args.name c.requires) (sym c.is_meta.ensures ∙ c.if-not-is_meta.true)

pub returns-clause-read : goal.returns-clause-read
returns-clause-read c = λ final g.
    let text = c.as_slice-text.ensures ∙ c.in_ok-copied.ensures ∙ ap (λ o. unwrap_or o []) c.text_of.ensures in
    let all = Grows-twice c.in_ok-meta.ensures.grows g in
    a_meta final c.args.name c.as_slice-text.result.now (text ∙ sym (same_text all c.args.name c.requires)) c.in_ok-meta.meta (sym c.is_meta.ensures ∙ c.if-not-is_meta.false)
    (subst (λ (s : MetaOf Text). IsMeta final s c.in_ok-meta.meta) (sym c.operand_parts-kind.ensures) (c.in_ok-meta.ensures.read final g))
