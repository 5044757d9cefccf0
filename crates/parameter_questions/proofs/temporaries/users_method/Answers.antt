use Rattle.std.proofs.Common.{◌≡◌, Some, option_map, ap, sym, ◌∙◌}
use Rattle.std.specs.Option.{option_and_then, option_copied}
use Rattle.st_tree.specs.View.{method_of}
use Rattle.class_table.specs.View.{live_at}
use Rattle.hierarchy_questions.specs.OwnMethods.{own_slot}
use Rattle.parameter_questions.proofs.Declared.{tree_at, named-tree, none-told, kernel-told, user-told}
use Rattle.parameter_questions.proofs.temporaries.users_method.Goals as goal

pub returns-in_err-slot : goal.returns-in_err-slot
returns-in_err-slot g c =
    let s = c.args.image.now in
    let m = c.args.method in
    ap (λ o. option_map method_of (option_copied o)) c.from_residual.ensures ∙ ap (option_and_then (tree_at s)) c.in_err-slot.ensures ∙ named-tree s c.requires m.class m.meta m.selector

pub returns-in_default : goal.returns-in_default
returns-in_default g c =
    let s = c.args.image.now in
    let m = c.args.method in
    let own : own_slot s m.class m.meta m.selector ≡ Some c.in_ok-slot.slot = sym c.own_method.ensures ∙ c.in_ok-slot.was in
    none-told (live_at s.methods s.method_order c.in_ok-slot.slot) c.in_default.ensures ∙ ap (option_and_then (tree_at s)) (sym own) ∙ named-tree s c.requires m.class m.meta m.selector

pub returns-then-info : goal.returns-then-info
returns-then-info g c =
    let s = c.args.image.now in
    let m = c.args.method in
    let own : own_slot s m.class m.meta m.selector ≡ Some c.in_ok-slot.slot = sym c.own_method.ensures ∙ c.in_ok-slot.was in
    kernel-told c.in-Some.info (live_at s.methods s.method_order c.in_ok-slot.slot) c.in-Some.ensures c.if-info.true ∙ ap (option_and_then (tree_at s)) (sym own) ∙ named-tree s c.requires m.class m.meta m.selector

pub returns : goal.returns
returns g c =
    let s = c.args.image.now in
    let m = c.args.method in
    let own : own_slot s m.class m.meta m.selector ≡ Some c.in_ok-slot.slot = sym c.own_method.ensures ∙ c.in_ok-slot.was in
    ap (option_map method_of) c.open_body.ensures.tree ∙ user-told c.in-Some.info (live_at s.methods s.method_order c.in_ok-slot.slot) c.in-Some.ensures c.if-info.false ∙ ap (option_and_then (tree_at s)) (sym own)
    ∙ named-tree s c.requires m.class m.meta m.selector
