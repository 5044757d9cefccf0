use Rattle.std.proofs.Common.{◌≡◌, List, ◌∷◌, subst, rules}
use Rattle.std.specs.Vec.Iter.{into_iter_items}
use Rattle.std.specs.HashMap.{get}
use Rattle.image_draft.specs.declared.method_draft.MethodDraft.{MethodDraft}
use Rattle.draft_orders.specs.Tables.{same_key, key_of}
use Rattle.draft_orders.proofs.Split.{Splits, split_more}
use Rattle.draft_orders.proofs.methods.split.Goals as goal

pub loop-method-preserved : goal.loop-method-preserved
loop-method-preserved c =
    let left : into_iter_items c.loop-method.method-iterator ≡ c.in-Some.method ∷ into_iter_items c.next.new.self = search rules in
    split_more (λ (x : MethodDraft). x.kernel) (λ (x : MethodDraft). get same_key c.args.table.now (key_of x)) c.args.methods.items (into_iter_items c.next.new.self) c.in-Some.method c.loop-method.parts c.add.new.parts
    (subst (λ (xs : List (MethodDraft)). Splits (λ (x : MethodDraft). x.kernel) (λ (x : MethodDraft). get same_key c.args.table.now (key_of x)) c.args.methods.items xs c.loop-method.parts) left c.loop-method.invariant)
    c.in_ok-add.ensures
