use Rattle.std.proofs.Common.{List, map, not, nat_eq, sym, ap, ◌∙◌}
use Rattle.image_model.specs.Lookup.{is_method}
use Rattle.file_model.specs.Refusals.{removal_refusals}
use Rattle.file_model.specs.Applied.{without_method}
use Rattle.image_draft.specs.declared.method_draft.MethodDraft.{MethodDraft}
use Rattle.image_draft.specs.declared.draft.Draft.{Draft}
use Rattle.image_draft.specs.Entries.{entry_of}
use Rattle.image_draft.specs.Drafted.{image_of}
use Rattle.image_draft.proofs.Drafts.{makes-none, without-method, whole-fewer}
use Rattle.image_draft.proofs.draft.Draft.remove_method.Goals as goal

pub returns-clause-made : goal.returns-clause-made
returns-clause-made c = λ kernel.
    let d : Draft = c.args.self.now in
    makes-none c.removal_refusal-refusal.result (removal_refusals nat_eq (image_of d) c.args.class c.args.meta c.args.selector) (without_method nat_eq c.args.class c.args.meta c.args.selector (image_of d))
    (image_of (record d { methods = c.remove.new.self })) (sym c.is_some.ensures ∙ c.if-is_some.false) c.removal_refusal-refusal.ensures.cause
    (λ i. record (image_of d) { methods = (without-method c.args.class c.args.meta c.args.selector d.methods ∙ ap (λ (ms : List MethodDraft). map entry_of ms) (sym c.remove.ensures)) i })

pub returns-clause-whole : goal.returns-clause-whole
returns-clause-whole c =
    whole-fewer c.args.self.now (λ (m : MethodDraft). not (is_method nat_eq c.args.class c.args.meta c.args.selector (entry_of m))) c.remove.new.self c.requires.whole c.remove.ensures
