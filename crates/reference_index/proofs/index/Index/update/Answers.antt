use Rattle.std.proofs.Common.{◌≡◌, ◌++◌, ap, ◌∙◌, filter, nat_eq, if◌then◌else◌}
use Rattle.std.specs.List.{list_any, flat_map}
use Rattle.reference_index.specs.Rows.{mentions}
use Rattle.reference_index.specs.Fresh.{comes}
use Rattle.reference_index.specs.Lists.{list_of}
use Rattle.reference_index.proofs.FreshLemmas.{index-after, kept_after-same, names-rise}
use Rattle.reference_index.proofs.IndexLemmas.{lists-after, lists-restored}
use Rattle.reference_index.proofs.index.Index.update.Goals as goal

pub names_gone-requires : goal.names_gone-requires
names_gone-requires g c = rw c.deref.ensures.value (names-rise c.args.image.now c.in_ok-fresh.fresh.items c.in_ok-fresh.ensures.names)

pub make_room-requires : goal.make_room-requires
make_room-requires g c = rw c.deref-2.ensures.value (names-rise c.args.image.now c.in_ok-fresh.fresh.items c.in_ok-fresh.ensures.names)

pub set_all-requires-clause-rise : goal.set_all-requires-clause-rise
set_all-requires-clause-rise g c = names-rise c.args.image.now c.in_ok-fresh.fresh.items c.in_ok-fresh.ensures.names

pub invariant_of-self : goal.invariant_of-self
invariant_of-self g c =
    lists-after c.self.inside.rows c.set_all.new.self c.in_ok-fresh.fresh.items c.self.inside.lists.items c.self.invariant
    c.in_ok-fresh.ensures.places.distinct
    (λ p. c.set_all.ensures p ∙ kept_after-same c.self.inside.rows c.make_room.new.rows c.in_ok-fresh.fresh.items p (c.make_room.ensures.kept p))
    c.in_ok-going.going.items c.settle_each.new.lists.items
    (λ n. ((rw c.deref.ensures.value at c.in_ok-going.ensures).members n).1)
    (λ n.
    let entered : list_of c.make_room.new.lists.items n ≡ list_of c.self.inside.lists.items n ++ flat_map (comes c.self.inside.rows n) c.in_ok-fresh.fresh.items =
    rw c.deref-2.ensures.value at (c.in-Ok.ensures.lists n) in
    let settled : list_of c.settle_each.new.lists.items n ≡ (if list_any (nat_eq n) c.in_ok-going.going.items then filter (mentions c.set_all.new.self n) (list_of c.make_room.new.lists.items n) else list_of c.make_room.new.lists.items n) =
    rw c.deref-in-Ok.ensures.value at (c.settle_each.ensures n) in
    settled ∙ ap (λ ps. if list_any (nat_eq n) c.in_ok-going.going.items then filter (mentions c.set_all.new.self n) ps else ps) entered)

pub invariant_of-self-in-Err-1 : goal.invariant_of-self-in-Err-1
invariant_of-self-in-Err-1 g c =
    rw c.in-Err.ensures.err
    (lists-restored c.self.inside.rows c.self.inside.lists.items c.make_room.new.lists.items c.settle_all.new.lists.items c.self.invariant
    c.make_room.ensures.same
    (λ n. rw c.in-Err.ensures.err at (c.settle_all.ensures n)))

pub returns-in-Ok-clause-ok : goal.returns-in-Ok-clause-ok
returns-in-Ok-clause-ok g c =
    λ s index differs p.
    rw (c.set_all.ensures p ∙ kept_after-same c.self.inside.rows c.make_room.new.rows c.in_ok-fresh.fresh.items p (c.make_room.ensures.kept p))
    (index-after s c.args.image.now c.self.inside.rows c.args.touched.now c.in_ok-fresh.fresh.items
    (rw c.self.view_is index) differs c.in_ok-fresh.ensures.places c.in_ok-fresh.ensures.names p)
