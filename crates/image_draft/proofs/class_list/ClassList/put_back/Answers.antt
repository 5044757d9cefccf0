use Rattle.std.proofs.Common.{◌<◌, ℕ, List, length, sym, ap, subst, ◌∙◌}
use Rattle.image_model.specs.Image.{ClassOf}
use Rattle.image_draft.specs.Names.{NamesDiffer}
use Rattle.image_draft.specs.Table.{IsPlaceTable}
use Rattle.image_draft.proofs.PutBack.{length_put_back, table_back}
use Rattle.image_draft.proofs.class_list.ClassList.put_back.Goals as goal

pub are_noted-self-inside-requires-clause-within : goal.are_noted-self-inside-requires-clause-within
are_noted-self-inside-requires-clause-within c =
    subst (λ (m : ℕ). c.args.to < m) (sym (ap length (c.deref.ensures.value ∙ c.put_back.ensures) ∙ length_put_back c.args.from c.args.to c.self.inside.items.items ∙ ap length c.self.view_is)) c.requires.within

pub invariant_of-self : goal.invariant_of-self
invariant_of-self c = (
  (λ r. subst (IsPlaceTable c.are_noted-self-inside.new.table) c.deref.ensures.value
      (table_back c.args.from c.args.to c.self.inside.items.items c.deref.result.now c.self.inside.by_name c.are_noted-self-inside.new.table (subst NamesDiffer (sym c.self.view_is) c.requires.differ) c.requires.before
      (subst (λ (cs : List (ClassOf ℕ)). c.args.to < length cs) (sym c.self.view_is) c.requires.within) (c.deref.ensures.value ∙ c.put_back.ensures) (c.self.invariant.0 (c.are_noted-self-inside.ensures.ready r)) (c.are_noted-self-inside.ensures.noted r))),
  c.self.invariant.1,
)
