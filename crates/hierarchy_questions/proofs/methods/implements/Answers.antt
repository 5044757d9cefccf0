use Rattle.std.proofs.Common.{Some, None, ap, ◌∙◌}
use Rattle.class_table.specs.View.{live_at}
use Rattle.hierarchy_questions.proofs.OwnMethods.{user_at, user-same, user-told}
use Rattle.hierarchy_questions.proofs.methods.implements.Goals as goal

pub returns-in_default : goal.returns-in_default
returns-in_default c =
    let s = c.args.image.now in
    let m = c.args.method in
    ap (user_at s) c.in_default.ensures ∙ user-same s c.requires m.class m.meta m.selector

pub returns-in-None : goal.returns-in-None
returns-in-None c =
    let s = c.args.image.now in
    let m = c.args.method in
    user-told None (live_at s.methods s.method_order c.in-Some.slot) c.in-None.ensures ∙ ap (user_at s) c.in-Some.ensures ∙ user-same s c.requires m.class m.meta m.selector

pub returns-in-Some-method_info : goal.returns-in-Some-method_info
returns-in-Some-method_info c =
    let s = c.args.image.now in
    let m = c.args.method in
    user-told (Some c.in-Some-method_info.info) (live_at s.methods s.method_order c.in-Some.slot) c.in-Some-method_info.ensures ∙ ap (user_at s) c.in-Some.ensures
    ∙ user-same s c.requires m.class m.meta m.selector
