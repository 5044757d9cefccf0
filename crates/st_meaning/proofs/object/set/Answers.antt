use Rattle.std.proofs.Common.{◌∙◌, ◌++◌, ◌∷◌, [], sym, ap, position}
use Rattle.rb_base.specs.Names.{text_eq}
use Rattle.st_meaning.proofs.Entries.{replaced, added}
use Rattle.st_meaning.proofs.object.set.Goals as goal

pub returns-in-Some-clause-ok : goal.returns-in-Some-clause-ok
returns-in-Some-clause-ok c =
    replaced text_eq c.args.name.now c.args.value c.args.fields.now.items c.in-Some.at c.index_mut.result.now c.set.new.self
    (sym (c.in-Some.ensures ∙ (λ i. position (λ e. text_eq (c.as_slice.ensures i) e.0) (c.deref.ensures.value i))))
    c.index_mut.ensures.value c.set.ensures

pub returns-in_ok-push-in-None-clause-ok : goal.returns-in_ok-push-in-None-clause-ok
returns-in_ok-push-in-None-clause-ok c =
    c.in_ok-push-in-None.ensures.items
    ∙ ap (λ n. c.args.fields.now.items ++ (n, c.args.value) ∷ []) c.in_ok-name-in-None.ensures
    ∙ added text_eq c.args.name.now c.args.value c.args.fields.now.items
    (sym (c.in-None.ensures ∙ (λ i. position (λ e. text_eq (c.as_slice.ensures i) e.0) (c.deref.ensures.value i))))
