use Rattle.std.proofs.Common.{◌≡◌, ◌<◌, List, [], length, map, get_or, slice_get, ap, arith}
use Rattle.parse_events.specs.declared.event.Declaration.{Declaration}
use Rattle.event_trees.specs.Naming.{AllPass}
use Rattle.event_trees.proofs.Known.{Adds-none, Adds-twice, Grows-Adds, numbers_more, AllPass-declared}
use Rattle.event_trees.proofs.naming.numbers_of.Goals as goal

pub loop-declaration-init : goal.loop-declaration-init
loop-declaration-init c = record {
  numbers = ap (map (slice_get c.args.names.now)) c.new-ids.ensures;
  adds = Adds-none c.args.names.now (AllPass []);
}

pub loop-declaration-preserved : goal.loop-declaration-preserved
loop-declaration-preserved c =
    let ds = c.args.declarations.now in
    let i = c.loop-declaration.declaration-index in
    let d = c.declaration-item.result in
    let lt : i < length ds = omega (arith, ap length c.as_slice-declaration-items.ensures) in
    let is : d ≡ get_or ds i d = cc (ap (λ (xs : List Declaration). get_or xs i d) c.as_slice-declaration-items.ensures) in
    record {
      numbers = numbers_more c.loop-declaration.ids c.push.new.self c.in_ok-number_of.field-0 ds i d lt is (Grows-Adds c.in_ok-number_of.ensures.adds) c.loop-declaration.invariant.numbers c.in_ok-number_of.ensures.number c.in_ok-push.ensures.ok;
      adds = Adds-twice (λ p h. AllPass-declared p ds i d lt is h) c.loop-declaration.invariant.adds c.in_ok-number_of.ensures.adds;
    }
