use Rattle.std.proofs.Common.{option_map, sym, ap, subst, ◌∙◌}
use Rattle.std.specs.Prelude.{nat_eq}
use Rattle.class_table.specs.View.{number_image}
use Rattle.command_model.specs.MethodEffects.{method_pushed_up}
use Rattle.method_questions.specs.declared.moves.Moved.{Moved}
use Rattle.method_questions.specs.Found.{as_entry}
use Rattle.method_questions.specs.Moves.{comes_first}
use Rattle.method_questions.specs.Unreached.{LeadsTo}
use Rattle.method_questions.proofs.MayMove.{goes-up, no-method, no-superclass, some-same, user-opened}
use Rattle.method_questions.proofs.unreached.moved_up.Goals as goal

pub returns-in_default-clause-there : goal.returns-in_default-clause-there
returns-in_default-clause-there g c =
    let m = c.args.method in
    no-method c.args.image.now c.requires m.class m.meta m.selector (sym c.user_slot.ensures ∙ c.in_default.is)

pub returns-in_default-superclass_slot-clause-there : goal.returns-in_default-superclass_slot-clause-there
returns-in_default-superclass_slot-clause-there g c =
    let m = c.args.method in
    no-superclass c.args.image.now c.requires m.class m.meta m.selector (sym c.superclass_slot.ensures ∙ c.in_default-superclass_slot.is)

pub returns-in_default-opened-clause-there : goal.returns-in_default-opened-clause-there
returns-in_default-opened-clause-there g c =
    let s = c.args.image.now in
    let m = c.args.method in
    absurd (user-opened s c.requires m.class m.meta m.selector c.in-Some.slot (sym c.user_slot.ensures ∙ c.in-Some.is) (sym c.opened.ensures.method ∙ ap (option_map (as_entry s.classes)) c.in_default-opened.is))

pub returns-clause-there : goal.returns-clause-there
returns-clause-there g c =
    let s = c.args.image.now in
    let m = c.args.method in
    let found = c.in-Some-opened.method in
    (goes-up s c.requires m.class m.meta m.selector c.in-Some.slot c.in-Some-superclass_slot.above found c.comes_first-first.result (sym c.user_slot.ensures ∙ c.in-Some.is) (sym c.superclass_slot.ensures ∙ c.in-Some-superclass_slot.is)
    (c.opened.ensures.live found c.in-Some-opened.is) (sym (ap (option_map (as_entry s.classes)) c.in-Some-opened.is) ∙ c.opened.ensures.method)
    (c.comes_first-first.ensures ∙ ap (comes_first s.method_order c.in-Some.slot) c.own_slot.ensures)).is_there

pub returns-clause-moved : goal.returns-clause-moved
returns-clause-moved g c =
    let s = c.args.image.now in
    let m = c.args.method in
    let found = c.in-Some-opened.method in
    λ v e.
    subst (λ (x : Moved). LeadsTo s x (method_pushed_up nat_eq m.class m.meta m.selector (number_image s)) m.meta m.selector) (some-same _ v e)
    (goes-up s c.requires m.class m.meta m.selector c.in-Some.slot c.in-Some-superclass_slot.above found c.comes_first-first.result (sym c.user_slot.ensures ∙ c.in-Some.is) (sym c.superclass_slot.ensures ∙ c.in-Some-superclass_slot.is)
    (c.opened.ensures.live found c.in-Some-opened.is) (sym (ap (option_map (as_entry s.classes)) c.in-Some-opened.is) ∙ c.opened.ensures.method)
    (c.comes_first-first.ensures ∙ ap (comes_first s.method_order c.in-Some.slot) c.own_slot.ensures)).leads
