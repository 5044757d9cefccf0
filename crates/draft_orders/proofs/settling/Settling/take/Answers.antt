use Rattle.std.proofs.Common.{◌≡◌, suc, ◌+◌, ◌-◌, Bool, true, false, nat_eq, subst, sym, ap, ◌∙◌, arith}
use Rattle.file_model.specs.Hierarchy.{settle_behind}
use Rattle.draft_orders.specs.Settling.{left, IsStep}
use Rattle.draft_orders.proofs.settling.Settling.take.Goals as goal

pub loop-init : goal.loop-init
loop-init c =
    let all : c.args.count - 0 ≡ c.args.count = omega arith in
    (c.requires, ap (λ n. settle_behind nat_eq n c.args.self.now.taken.items (left c.args.self.now.slots.items)) all)

pub loop-preserved : goal.loop-preserved
loop-preserved c =
    let step : IsStep true c.loop.self c.step.new.self = subst (λ (b : Bool). IsStep b c.loop.self c.step.new.self) c.if-not-branch.false c.in_ok-step.ensures in
    let one_less : c.args.count - c.loop.counter ≡ suc (c.args.count - (c.loop.counter + 1)) = omega arith in (
      step.1,
      sym (step.0 (c.args.count - (c.loop.counter + 1)))
          ∙ ap (λ n. settle_behind nat_eq n c.loop.self.taken.items (left c.loop.self.slots.items)) (sym one_less) ∙ c.loop.invariant.1,
    )

pub returns-then-not-branch : goal.returns-then-not-branch
returns-then-not-branch c =
    let step : IsStep false c.loop.self c.step.new.self = subst (λ (b : Bool). IsStep b c.loop.self c.step.new.self) c.if-not-branch.true c.in_ok-step.ensures in
    step.1 ∙ sym (step.0 (c.args.count - c.loop.counter)) ∙ c.loop.invariant.1

pub returns : goal.returns
returns c =
    let none : c.args.count - c.loop.counter ≡ 0 = omega arith in
    ap (λ n. settle_behind nat_eq n c.loop.self.taken.items (left c.loop.self.slots.items)) (sym none) ∙ c.loop.invariant.1
