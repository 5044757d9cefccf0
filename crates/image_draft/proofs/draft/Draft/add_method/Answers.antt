use Rattle.std.proofs.Common.{false, Some, IfSome, IfOk, nat_eq, sym, ap, subst, ◌∙◌}
use Rattle.st_tree.specs.View.{method_of}
use Rattle.file_model.specs.Applied.{method_added}
use Rattle.image_draft.specs.declared.method_draft.MethodDraft.{MethodDraft}
use Rattle.image_draft.specs.declared.draft.Draft.{Draft}
use Rattle.image_draft.specs.Entries.{run_of}
use Rattle.image_draft.specs.Drafted.{image_of, Makes}
use Rattle.image_draft.proofs.Drafts.{made-with, whole-with}
use Rattle.image_draft.proofs.draft.Draft.add_method.Goals as goal

pub returns-clause-made : goal.returns-clause-made
returns-clause-made c =
    let d : Draft = c.args.self.now in
    let new : Draft = record d { methods = c.put.new.self; at_head = false } in
    subst (λ o. IfOk c.put.result (λ cause. IfSome o (λ r. Makes cause (method_added nat_eq c.args.kernel r c.args.source (method_of c.args.tree) (image_of d)) (image_of new)))) (sym c.in-Some.is)
    (subst (λ (m : MethodDraft). IfOk c.put.result (λ cause. Makes cause (method_added nat_eq m.kernel (run_of m) m.source (method_of m.tree) (image_of d)) (image_of new))) c.in_ok-method-in-Some.ensures
    (made-with c.put.result d c.in_ok-method-in-Some.method c.put.new.self c.put.ensures.cause c.put.ensures.some c.put.ensures.changed))

pub returns-clause-whole : goal.returns-clause-whole
returns-clause-whole c =
    whole-with c.put.result c.args.self.now c.in_ok-method-in-Some.method c.put.new.self c.requires (c.in-Some.is ∙ ap (λ (m : MethodDraft). Some (run_of m)) (sym c.in_ok-method-in-Some.ensures)) c.put.ensures.changed
