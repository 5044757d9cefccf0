use Rattle.std.proofs.Common.{◌≡◌, ℕ, Bool, true, false, List, map, sym, ap, ◌∙◌, rules}
use Rattle.std.specs.List.{list_all}
use Rattle.pattern_model.specs.Bindings.{BindingOf}
use Rattle.pattern_match.specs.Bound.{held_of}
use Rattle.pattern_match.specs.declared.bindings.Held.{Held}
use Rattle.filled_patterns.specs.Left.{Holds}
use Rattle.derivations.specs.Numbered.{Table, table_of}
use Rattle.derivations.specs.Turned.{fits}
use Rattle.derivations.proofs.Filled.{turned_unfit, turned_filled, filled_known, found_some}
use Rattle.derivations.proofs.turning.turned.Goals as goal

may_be : (table : Table) (held all : List Held) (b c : Bool) → b ≡ list_all (λ (x : BindingOf ℕ). fits table x.bound) (map held_of held) → held ≡ all → b ≡ c → list_all (λ (x : BindingOf ℕ). fits table x.bound) (map held_of all) ≡ c
may_be table held all b c e same t = ap (λ (hs : List Held). list_all (λ (x : BindingOf ℕ). fits table x.bound) (map held_of hs)) (sym same) ∙ sym e ∙ t

pub returns-then-not-all_may_stand-clause-turned : goal.returns-then-not-all_may_stand-clause-turned
returns-then-not-all_may_stand-clause-turned c =
    let table = table_of c.args.marks.now in
    let found = found_some c.args.names.now c.args.sides.now.0 c.args.node.now _ c.in-Some.held c.in-Some.is c.in_ok-held.ensures in
    sym (turned_unfit table c.args.names.now c.args.sides.now c.args.node.now (map held_of c.in-Some.held.items) found (may_be table c.as_slice.result.now c.in-Some.held.items c.all_may_stand.result false c.all_may_stand.ensures c.as_slice.ensures.value c.if-not-all_may_stand.true))

pub returns-clause-turned : goal.returns-clause-turned
returns-clause-turned c =
    let table = table_of c.args.marks.now in
    let found = found_some c.args.names.now c.args.sides.now.0 c.args.node.now _ c.in-Some.held c.in-Some.is c.in_ok-held.ensures in
    let holds : Holds (map held_of c.in-Some.held.items) c.as_mut_slice.result.now = search rules in
    turned_filled table c.args.names.now c.args.sides.now c.args.node.now (map held_of c.in-Some.held.items) found (may_be table c.as_slice.result.now c.in-Some.held.items c.all_may_stand.result true c.all_may_stand.ensures c.as_slice.ensures.value c.if-not-all_may_stand.false) c.requires.first c.requires.second c.requires.node c.fill.ensures.grows c.as_mut_slice.result.now holds c.in_ok-made.made c.in_ok-made.ensures.filled

pub returns-clause-known : goal.returns-clause-known
returns-clause-known c =
    let table = table_of c.args.marks.now in
    let found = found_some c.args.names.now c.args.sides.now.0 c.args.node.now _ c.in-Some.held c.in-Some.is c.in_ok-held.ensures in
    let holds : Holds (map held_of c.in-Some.held.items) c.as_mut_slice.result.now = search rules in
    filled_known table c.args.names.now c.args.sides.now c.args.node.now (map held_of c.in-Some.held.items) found (may_be table c.as_slice.result.now c.in-Some.held.items c.all_may_stand.result true c.all_may_stand.ensures c.as_slice.ensures.value c.if-not-all_may_stand.false) c.requires.first c.requires.second c.requires.node c.fill.ensures.grows c.as_mut_slice.result.now holds c.in_ok-made.made c.in_ok-made.ensures.known
