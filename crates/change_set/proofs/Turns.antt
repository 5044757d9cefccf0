-- Changes that are applied in order and undone backwards, and the other way round.
use Rattle.std.proofs.Common.{◌≡◌, List, [], ◌∷◌, refl, sym, ap, subst, ◌∙◌}
use Rattle.class_table.specs.Slots.{Slots}
use Rattle.image_laws.specs.Orders.{HasOrders}
use Rattle.change_set.specs.declared.change.Change.{Change}
use Rattle.change_set.specs.Change.{applied, inverse, CanApply}
use Rattle.change_set.specs.Changes.{all_applied, inverses, CanApplyAll, all_undone, inverses_undone, CanUndoAll, Undoes, Redoes}
use Rattle.change_set.proofs.Back.{leads_back, orders-applied}

-- what was applied in order is undone
inverses-undo : (s : Slots) (cs : List Change) → HasOrders s → CanApplyAll s cs → Undoes (all_applied s cs) (inverses s cs) s cs
inverses-undo s [] orders can = record { can = tt; image = refl; changes = refl }
inverses-undo s (c ∷ cs) orders can =
    let one = leads_back s c orders can.0 in
    let rest = inverses-undo (applied s c) cs (orders-applied s c orders can.0) can.1 in
    record {
      can = (rest.can, subst (λ (z : Slots). CanApply z (inverse s c)) (sym rest.image) one.can);
      image = ap (λ (z : Slots). applied z (inverse s c)) rest.image ∙ one.image;
      changes = λ i. (ap (λ (z : Slots). inverse z (inverse s c)) rest.image ∙ one.again) i ∷ rest.changes i;
    }

-- what was undone is done again, and the orders are what they must be
record DoneAgain (s : Slots) (cs : List Change) : Type 0 where
  pub orders : HasOrders (all_undone s cs)
  pub again : Redoes (all_undone s cs) (inverses_undone s cs) s cs

done_again : (s : Slots) (cs : List Change) → HasOrders s → CanUndoAll s cs → DoneAgain s cs
done_again s [] orders can = record { orders = orders; again = record { can = tt; image = refl; changes = refl } }
done_again s (c ∷ cs) orders can =
    let rest = done_again s cs orders can.0 in
    let one = leads_back (all_undone s cs) c rest.orders can.1 in
    let back : List Change = inverses_undone s cs in
    record {
      orders = orders-applied (all_undone s cs) c rest.orders can.1;
      again = record {
        can = (one.can, subst (λ (z : Slots). CanApplyAll z back) (sym one.image) rest.again.can);
        image = ap (λ (z : Slots). all_applied z back) one.image ∙ rest.again.image;
        changes = λ i. one.again i ∷ (ap (λ (z : Slots). inverses z back) one.image ∙ rest.again.changes) i;
      };
    }

-- the same of slots and changes that are equal to these
pub undoes : (s t : Slots) (cs ds : List Change) → HasOrders s → CanApplyAll s cs → t ≡ all_applied s cs → ds ≡ inverses s cs → Undoes t ds s cs
undoes s t cs ds orders can image changes =
    subst (λ (z : Slots). Undoes z ds s cs) (sym image) (subst (λ (zs : List Change). Undoes (all_applied s cs) zs s cs) (sym changes) (inverses-undo s cs orders can))

pub redoes : (s t : Slots) (cs ds : List Change) → HasOrders s → CanUndoAll s cs → t ≡ all_undone s cs → ds ≡ inverses_undone s cs → Redoes t ds s cs
redoes s t cs ds orders can image changes =
    subst (λ (z : Slots). Redoes z ds s cs) (sym image) (subst (λ (zs : List Change). Redoes (all_undone s cs) zs s cs) (sym changes) (done_again s cs orders can).again)
