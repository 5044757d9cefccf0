use Rattle.std.proofs.Common.{arith, sym}
use Rattle.tree_model.specs.Path.{children}
use Rattle.class_table.specs.View.{number_image}
use Rattle.command_model.specs.Asked.{no_parts}
use Rattle.command_model.specs.Numbers.{number_asked}
use Rattle.part_questions.specs.Codes.{entry_of}
use Rattle.part_questions.proofs.Firsts.{first-all, first-short, first-fails}
use Rattle.part_questions.proofs.first.are_first_plain.Goals as goal

pub returns-in-None : goal.returns-in-None
returns-in-None c =
    let s = c.args.image.now in
    sym
    (first-short (number_asked s.names c.args.self_name no_parts) (number_image s) (entry_of s c.args.code.now) c.args.path.now c.args.count c.loop-step.step (children c.args.node.now)
    (sym c.in-None.ensures) c.loop-step.invariant)

pub returns-then-not-is_plain : goal.returns-then-not-is_plain
returns-then-not-is_plain c =
    let s = c.args.image.now in
    sym
    (first-fails (number_asked s.names c.args.self_name no_parts) (number_image s) (entry_of s c.args.code.now) c.args.path.now c.args.count c.loop-step.step (children c.args.node.now)
    c.in-Some.child.now c.loop-step-test.true (sym c.in-Some.ensures) (sym c.if-not-is_plain.ensures))

pub returns : goal.returns
returns c =
    let s = c.args.image.now in
    sym
    (first-all (number_asked s.names c.args.self_name no_parts) (number_image s) (entry_of s c.args.code.now) c.args.path.now c.args.count (children c.args.node.now)
    (λ j h. c.loop-step.invariant j (omega (arith, h, c.loop-step-test.false))))
