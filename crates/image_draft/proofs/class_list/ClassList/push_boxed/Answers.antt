use Rattle.std.proofs.Common.{ℕ, length, sym, ap, subst, ◌∙◌}
use Rattle.image_draft.specs.Table.{IsNoted}
use Rattle.image_draft.proofs.ClassPlaces.{table_last}
use Rattle.image_draft.proofs.class_list.ClassList.push_boxed.Goals as goal

pub invariant_of-self-2 : goal.invariant_of-self-2
invariant_of-self-2 c = (
  (λ r. table_last c.self.inside.by_name c.is_noted-self-inside.new.table c.self.inside.items.items c.push.new.self.items _ c.len-place.result (c.self.invariant.0 (c.is_noted-self-inside.ensures.ready r))
      (subst (λ (n : ℕ). IsNoted c.self.inside.by_name c.is_noted-self-inside.new.table n c.len-place.result) c.name-name.ensures (c.is_noted-self-inside.ensures.noted r))
      (c.len-place.ensures ∙ ap length (sym c.self.view_is)) c.in_ok-push.ensures.items),
  c.self.invariant.1,
)
