use Rattle.std.specs.HashMap.{get}
use Rattle.std.specs.Vec.Iter.{into_iter_items}
use Rattle.image_draft.specs.declared.method_draft.MethodDraft.{MethodDraft}
use Rattle.draft_orders.specs.Tables.{same_key, key_of}
use Rattle.draft_orders.proofs.Split.{Splits}
use Rattle.draft_orders.proofs.methods.split.Given as goal

abbrev pub invariant-loop-method : goal.invariant-loop-method
invariant-loop-method l = Splits (λ (m : MethodDraft). m.kernel) (λ m. get same_key l.table (key_of m)) l.fn.methods.items (into_iter_items l.method-iterator) l.parts
