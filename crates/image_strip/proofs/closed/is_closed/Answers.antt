use Rattle.std.proofs.Common.{◌≡◌, ◌&&◌, Bool, sym, ◌∙◌}
use Rattle.std.specs.List.{list_all}
use Rattle.std.proofs.lemmas.Result.{IfOk-weaker}
use Rattle.image_strip.specs.Closed.{start_of, is_closed_with}
use Rattle.image_strip.specs.Code.{doit_at}
use Rattle.image_strip.specs.SlotsClosed.{code_closed, doit_closed, method_closed}
use Rattle.image_strip.proofs.SlotsAgree.{closed-agree}
use Rattle.image_strip.proofs.closed.is_closed.Goals as goal

pub returns-then-not-are_classes_closed : goal.returns-then-not-are_classes_closed
returns-then-not-are_classes_closed g c =
    let s = c.args.image.now in
    let r = c.args.reach.now in
    sym (closed-agree s c.requires.orderly c.requires.once (start_of c.args.start.now) r
    ∙ (λ j. (sym c.are_classes_closed.ensures ∙ c.if-not-are_classes_closed.true) j && (code_closed r (doit_at s c.args.start.now) && (list_all (doit_closed s r) s.doits && list_all (method_closed s r) s.method_order))))

pub returns-then-not-branch : goal.returns-then-not-branch
returns-then-not-branch g c =
    let s = c.args.image.now in
    let r = c.args.reach.now in
    sym (closed-agree s c.requires.orderly c.requires.once (start_of c.args.start.now) r
    ∙ (λ j. (sym c.are_classes_closed.ensures ∙ c.if-not-are_classes_closed.false) j
    && ((sym c.in_ok-is_doit_closed.ensures ∙ c.if-not-branch.true) j && (list_all (doit_closed s r) s.doits && list_all (method_closed s r) s.method_order))))

pub returns-then-not-branch-2 : goal.returns-then-not-branch-2
returns-then-not-branch-2 g c =
    let s = c.args.image.now in
    let r = c.args.reach.now in
    sym (closed-agree s c.requires.orderly c.requires.once (start_of c.args.start.now) r
    ∙ (λ j. (sym c.are_classes_closed.ensures ∙ c.if-not-are_classes_closed.false) j
    && ((sym c.in_ok-is_doit_closed.ensures ∙ c.if-not-branch.false) j && ((sym c.in_ok-are_doits_closed.ensures ∙ c.if-not-branch-2.true) j && list_all (method_closed s r) s.method_order))))

pub returns : goal.returns
returns g c =
    let s = c.args.image.now in
    let r = c.args.reach.now in
    IfOk-weaker c.are_methods_closed.result (λ (is : Bool). is ≡ list_all (method_closed s r) s.method_order) (λ (is : Bool). is ≡ is_closed_with s (start_of c.args.start.now) r)
    (λ is e. e ∙ sym (closed-agree s c.requires.orderly c.requires.once (start_of c.args.start.now) r
    ∙ (λ j. (sym c.are_classes_closed.ensures ∙ c.if-not-are_classes_closed.false) j
    && ((sym c.in_ok-is_doit_closed.ensures ∙ c.if-not-branch.false) j && ((sym c.in_ok-are_doits_closed.ensures ∙ c.if-not-branch-2.false) j && list_all (method_closed s r) s.method_order)))))
    c.are_methods_closed.ensures
