use Rattle.std.proofs.Common.{◌≡◌, Some, option_map, ap, sym, ◌∙◌}
use Rattle.std.specs.Option.{option_and_then}
use Rattle.class_table.specs.View.{class_name, live_at}
use Rattle.hierarchy_questions.specs.OwnMethods.{own_slot}
use Rattle.users_methods.specs.Users.{entry_in}
use Rattle.users_methods.proofs.Named.{user_at, named-entry, none-told, kernel-told, user-told, named-told, class-of-found}
use Rattle.users_methods.proofs.methods.users_method.Goals as goal

pub returns-in_err-slot-clause-method : goal.returns-in_err-slot-clause-method
returns-in_err-slot-clause-method g c =
    let s = c.args.image.now in
    let m = c.args.method in
    ap (option_map (entry_in s.classes)) c.from_residual.ensures ∙ ap (option_and_then (user_at s)) c.in_err-slot.ensures ∙ named-entry s c.requires m.class m.meta m.selector

pub returns-in_default-clause-method : goal.returns-in_default-clause-method
returns-in_default-clause-method g c =
    let s = c.args.image.now in
    let m = c.args.method in
    let own : own_slot s m.class m.meta m.selector ≡ Some c.in_ok-slot.slot = sym c.own_method.ensures ∙ c.in_ok-slot.was in
    none-told s (live_at s.methods s.method_order c.in_ok-slot.slot) c.in_default.ensures ∙ ap (option_and_then (user_at s)) (sym own) ∙ named-entry s c.requires m.class m.meta m.selector

pub returns-then-info-clause-method : goal.returns-then-info-clause-method
returns-then-info-clause-method g c =
    let s = c.args.image.now in
    let m = c.args.method in
    let own : own_slot s m.class m.meta m.selector ≡ Some c.in_ok-slot.slot = sym c.own_method.ensures ∙ c.in_ok-slot.was in
    kernel-told s c.in-Some.info (live_at s.methods s.method_order c.in_ok-slot.slot) c.in-Some.ensures c.if-info.true ∙ ap (option_and_then (user_at s)) (sym own) ∙ named-entry s c.requires m.class m.meta m.selector

pub returns-clause-method : goal.returns-clause-method
returns-clause-method g c =
    let s = c.args.image.now in
    let m = c.args.method in
    let own : own_slot s m.class m.meta m.selector ≡ Some c.in_ok-slot.slot = sym c.own_method.ensures ∙ c.in_ok-slot.was in
    user-told s c.in-Some.info c.in_ok-tree.tree (live_at s.methods s.method_order c.in_ok-slot.slot) c.in-Some.ensures c.if-info.false c.in_ok-tree.ensures.tree ∙ ap (option_and_then (user_at s)) (sym own)
    ∙ named-entry s c.requires m.class m.meta m.selector

pub returns-clause-named : goal.returns-clause-named
returns-clause-named g c x e =
    let s = c.args.image.now in
    let m = c.args.method in
    let own : own_slot s m.class m.meta m.selector ≡ Some c.in_ok-slot.slot = sym c.own_method.ensures ∙ c.in_ok-slot.was in
    class-of-found (λ k. class_name s.classes k ≡ Some m.class) _ x e (named-told s m.class m.meta m.selector c.in_ok-slot.slot c.in-Some.info own c.in-Some.ensures)
