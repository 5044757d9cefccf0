use Rattle.std.proofs.Common.{◌≡◌, Bool, sym, ◌∙◌}
use Rattle.std.proofs.lemmas.Result.{IfOk-weaker}
use Rattle.method_questions.specs.Found.{opened_at, are_same}
use Rattle.method_questions.proofs.MayGo.{removable, not-there, sent-nowhere, sent-somewhere, nothing}
use Rattle.method_questions.proofs.removable.is_removable.Goals as goal

pub returns-in_default : goal.returns-in_default
returns-in_default g c =
    let m = c.args.method in
    sym (not-there c.args.image.now c.requires.orderly m.class m.meta m.selector (sym c.named_slot.ensures ∙ c.in_default.is))

pub returns-then-branch : goal.returns-then-branch
returns-then-branch g c =
    let m = c.args.method in
    sym (sent-nowhere c.args.image.now c.requires.orderly m.class m.meta m.selector c.in-Some.slot (sym c.named_slot.ensures ∙ c.in-Some.is) (sym c.in_ok-is_sent_nowhere.ensures ∙ c.if-branch.true))

pub returns-in-None : goal.returns-in-None
returns-in-None g c =
    let s = c.args.image.now in
    let m = c.args.method in
    sym (sent-somewhere s c.requires.orderly m.class m.meta m.selector c.in-Some.slot (sym c.named_slot.ensures ∙ c.in-Some.is) (sym c.in_ok-is_sent_nowhere.ensures ∙ c.if-branch.false) _ (sym c.inherited_slot.ensures ∙ c.in-None.is)
    ∙ nothing s c.requires.orderly m.class m.meta m.selector (opened_at s c.in-Some.slot))

pub returns-in-Some-inherited_slot : goal.returns-in-Some-inherited_slot
returns-in-Some-inherited_slot g c =
    let s = c.args.image.now in
    let m = c.args.method in
    IfOk-weaker c.are_same.result (λ (is : Bool). is ≡ are_same s (opened_at s c.in-Some.slot) (opened_at s c.in-Some-inherited_slot.other)) (λ (is : Bool). is ≡ removable s c.requires.orderly m.class m.meta m.selector)
    (λ is h. h ∙ sym (sent-somewhere s c.requires.orderly m.class m.meta m.selector c.in-Some.slot (sym c.named_slot.ensures ∙ c.in-Some.is) (sym c.in_ok-is_sent_nowhere.ensures ∙ c.if-branch.false) _ (sym c.inherited_slot.ensures ∙ c.in-Some-inherited_slot.is)))
    c.are_same.ensures
