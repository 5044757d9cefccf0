use Rattle.std.proofs.Common.{List, map, nat_eq, sym, ap, ◌∙◌}
use Rattle.file_model.specs.Refusals.{class_removal_refusals}
use Rattle.file_model.specs.Applied.{without_class}
use Rattle.image_draft.specs.declared.method_draft.MethodDraft.{MethodDraft}
use Rattle.image_draft.specs.declared.draft.Draft.{Draft}
use Rattle.image_draft.specs.Entries.{entry_of}
use Rattle.image_draft.specs.Drafted.{image_of}
use Rattle.image_draft.proofs.Drafts.{makes-none, without-methods_of, whole-without}
use Rattle.image_draft.proofs.draft.Draft.remove_class.Goals as goal

pub returns-clause-made : goal.returns-clause-made
returns-clause-made c = λ kernel.
    let d : Draft = c.args.self.now in
    makes-none c.removal_refusal-refusal.result (class_removal_refusals nat_eq d.classes c.args.class) (without_class nat_eq c.args.class (image_of d))
    (image_of (record d { classes = c.remove.new.self; methods = c.remove_of.new.self })) (sym c.is_some.ensures ∙ c.if-is_some.false) c.removal_refusal-refusal.ensures.cause
    (λ i. record (image_of d) { classes = sym c.remove.ensures.removed i; methods = (without-methods_of c.args.class d.methods ∙ ap (λ (ms : List MethodDraft). map entry_of ms) (sym c.remove_of.ensures)) i })

pub returns-clause-whole : goal.returns-clause-whole
returns-clause-whole c =
    whole-without c.args.self.now c.args.class c.remove.new.self c.remove_of.new.self c.requires.whole c.requires.outside c.remove.ensures.differ c.remove.ensures.before c.remove.ensures.kept c.remove_of.ensures
