use Rattle.std.proofs.Common.{sym, ap, subst, ◌∙◌, List}
use Rattle.std.specs.Prelude.{unwrap_or, []}
use Rattle.std.specs.List.{list_any}
use Rattle.pattern_model.specs.declared.kinds.MetaKind.TheVariants.{Unary, Message}
use Rattle.pattern_model.specs.Spelled.{behind, is_meta, spelled, uncoloned}
use Rattle.grammar_model.specs.Terminal.{Text}
use Rattle.event_trees.proofs.Known.{Grows-twice}
use Rattle.pattern_trees.specs.Reading.{IsMeta, AreKeywords}
use Rattle.pattern_trees.proofs.Growing.{same_text, still_known}
use Rattle.pattern_trees.proofs.Read.{a_plain, a_unary, a_message, a_row}
use Rattle.pattern_trees.proofs.metas.selector_pattern.Goals as goal

pub returns-then-not-have_meta-clause-read : goal.returns-then-not-have_meta-clause-read
returns-then-not-have_meta-clause-read c = λ final g.
    let n = c.args.selector in
    let text = c.as_slice-text.ensures ∙ c.in_ok-copied.ensures ∙ ap (λ o. unwrap_or o []) c.text_of.ensures in
    a_plain final n c.as_slice-text.result.now (text ∙ sym (same_text g n c.requires)) (still_known g n c.requires) (sym (c.have_meta.ensures ∙ ap (list_any is_meta) (c.deref.ensures.value ∙ c.in_ok-keywords.ensures)) ∙ c.if-not-have_meta.true)

pub returns-then-not-has_colon-clause-read : goal.returns-then-not-has_colon-clause-read
returns-then-not-has_colon-clause-read c = λ final g.
    let n = c.args.selector in
    let t = c.as_slice-text.result.now in
    let text = c.as_slice-text.ensures ∙ c.in_ok-copied.ensures ∙ ap (λ o. unwrap_or o []) c.text_of.ensures in
    a_unary final n t (text ∙ sym (same_text (Grows-twice c.in_ok-meta.ensures.grows g) n c.requires)) c.in_ok-meta.meta
    (sym (c.have_meta.ensures ∙ ap (list_any is_meta) (c.deref.ensures.value ∙ c.in_ok-keywords.ensures)) ∙ c.if-not-have_meta.false) (sym c.has_colon.ensures ∙ c.if-not-has_colon.true)
    (subst (λ (s : Text). IsMeta final (spelled t Unary s) c.in_ok-meta.meta) c.marked-rest.ensures (c.in_ok-meta.ensures.read final g))

pub returns-then-is_message-clause-read : goal.returns-then-is_message-clause-read
returns-then-is_message-clause-read c = λ final g.
    let n = c.args.selector in
    let t = c.as_slice-text.result.now in
    let text = c.as_slice-text.ensures ∙ c.in_ok-copied.ensures ∙ ap (λ o. unwrap_or o []) c.text_of.ensures in
    a_message final n t (text ∙ sym (same_text (Grows-twice c.in_ok-meta-2.ensures.grows g) n c.requires)) c.in_ok-meta-2.meta
    (sym (c.have_meta.ensures ∙ ap (list_any is_meta) (c.deref.ensures.value ∙ c.in_ok-keywords.ensures)) ∙ c.if-not-have_meta.false) (sym c.has_colon.ensures ∙ c.if-not-has_colon.false) (sym c.is_message.ensures ∙ c.if-is_message.true)
    (subst (λ (s : Text). IsMeta final (spelled t Message s) c.in_ok-meta-2.meta) (c.uncoloned.ensures ∙ ap uncoloned (c.behind.ensures ∙ ap behind c.marked-rest.ensures)) (c.in_ok-meta-2.ensures.read final g))

pub returns-clause-read : goal.returns-clause-read
returns-clause-read c = λ final g.
    let n = c.args.selector in
    let t = c.as_slice-text.result.now in
    let text = c.as_slice-text.ensures ∙ c.in_ok-copied.ensures ∙ ap (λ o. unwrap_or o []) c.text_of.ensures in
    a_row final n t (text ∙ sym (same_text (Grows-twice c.in_ok-patterns.ensures.grows g) n c.requires)) c.in_ok-patterns.patterns
    (sym (c.have_meta.ensures ∙ ap (list_any is_meta) (c.deref.ensures.value ∙ c.in_ok-keywords.ensures)) ∙ c.if-not-have_meta.false) (sym c.has_colon.ensures ∙ c.if-not-has_colon.false) (sym c.is_message.ensures ∙ c.if-is_message.false)
    (subst (λ (ks : List Text). AreKeywords final ks c.in_ok-patterns.patterns.items) (c.deref-2.ensures.value ∙ c.in_ok-keywords.ensures) (c.in_ok-patterns.ensures.read final g))
