use Rattle.std.proofs.Common.{◌∙◌, ◌++◌, ◌∷◌, [], sym, position}
use Rattle.run_model.specs.Store.{same_pair}
use Rattle.st_meaning.proofs.Entries.{replaced, added}
use Rattle.st_meaning.proofs.variables.set.Goals as goal

pub returns-in-Some-clause-ok : goal.returns-in-Some-clause-ok
returns-in-Some-clause-ok c =
    replaced same_pair (c.args.class.now, c.args.name.now) c.args.value c.args.items.now.items c.in-Some.at c.index_mut.result.now c.set.new.self
    (sym (c.in-Some.ensures ∙ (λ i. position (λ e. same_pair (c.as_slice.ensures i, c.as_slice-2.ensures i) e.0) (c.deref.ensures.value i))))
    c.index_mut.ensures.value c.set.ensures

pub returns-in_ok-push-in-None-clause-ok : goal.returns-in_ok-push-in-None-clause-ok
returns-in_ok-push-in-None-clause-ok c =
    c.in_ok-push-in-None.ensures.items
    ∙ (λ i. c.args.items.now.items ++ ((c.in_ok-class-in-None.ensures i, c.in_ok-name-in-None.ensures i), c.args.value) ∷ [])
    ∙ added same_pair (c.args.class.now, c.args.name.now) c.args.value c.args.items.now.items
    (sym (c.in-None.ensures ∙ (λ i. position (λ e. same_pair (c.as_slice.ensures i, c.as_slice-2.ensures i) e.0) (c.deref.ensures.value i))))
