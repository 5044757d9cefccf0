use Rattle.std.proofs.Common.{◌≡◌, Some, option_map, ap, sym, ◌∙◌}
use Rattle.std.specs.Option.{option_and_then}
use Rattle.class_table.specs.View.{live_at}
use Rattle.hierarchy_questions.specs.OwnMethods.{own_slot}
use Rattle.users_methods.proofs.Named.{user_at, named-entry}
use Rattle.part_witnesses.specs.Held.{IsHeld, held_as}
use Rattle.part_witnesses.proofs.InSlots.{no-user, kernel-user, is-user, of-found}
use Rattle.part_witnesses.proofs.held.users_held.Goals as goal

pub returns-in_default-clause-method : goal.returns-in_default-clause-method
returns-in_default-clause-method g c =
    let s = c.args.image.now in
    let m = c.args.method in
    ap (option_and_then (user_at s)) (sym c.in_default.is ∙ c.own_method.ensures) ∙ named-entry s c.requires m.class m.meta m.selector

pub returns-in_default-slot_method-clause-method : goal.returns-in_default-slot_method-clause-method
returns-in_default-slot_method-clause-method g c =
    let s = c.args.image.now in
    let m = c.args.method in
    let own : own_slot s m.class m.meta m.selector ≡ Some c.in-Some.slot = sym c.own_method.ensures ∙ c.in-Some.is in
    no-user s (live_at s.methods s.method_order c.in-Some.slot) (ap (option_map (held_as s.classes)) (sym c.in_default-slot_method.is) ∙ c.slot_method.ensures.method)
    ∙ ap (option_and_then (user_at s)) (sym own)
    ∙ named-entry s c.requires m.class m.meta m.selector

pub returns-then-found-clause-method : goal.returns-then-found-clause-method
returns-then-found-clause-method g c =
    let s = c.args.image.now in
    let m = c.args.method in
    let own : own_slot s m.class m.meta m.selector ≡ Some c.in-Some.slot = sym c.own_method.ensures ∙ c.in-Some.is in
    kernel-user s c.in-Some-slot_method.found (live_at s.methods s.method_order c.in-Some.slot) (ap (option_map (held_as s.classes)) (sym c.in-Some-slot_method.is) ∙ c.slot_method.ensures.method) c.if-found.true
    ∙ ap (option_and_then (user_at s)) (sym own)
    ∙ named-entry s c.requires m.class m.meta m.selector

pub returns-clause-method : goal.returns-clause-method
returns-clause-method g c =
    let s = c.args.image.now in
    let m = c.args.method in
    let own : own_slot s m.class m.meta m.selector ≡ Some c.in-Some.slot = sym c.own_method.ensures ∙ c.in-Some.is in
    is-user s c.in-Some-slot_method.found (live_at s.methods s.method_order c.in-Some.slot) (ap (option_map (held_as s.classes)) (sym c.in-Some-slot_method.is) ∙ c.slot_method.ensures.method) c.if-found.false
    ∙ ap (option_and_then (user_at s)) (sym own)
    ∙ named-entry s c.requires m.class m.meta m.selector

pub returns-clause-held : goal.returns-clause-held
returns-clause-held g c x e = of-found (IsHeld c.args.image.now) c.in-Some-slot_method.found x e (c.slot_method.ensures.held c.in-Some-slot_method.found c.in-Some-slot_method.is)
