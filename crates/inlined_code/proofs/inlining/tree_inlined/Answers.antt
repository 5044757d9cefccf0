use Rattle.std.proofs.Common.{◌≡◌, ℕ, None, Some, sym, ap, ◌∙◌}
use Rattle.tree_model.specs.Tree.{StatementsOf, MethodOf}
use Rattle.st_tree.specs.View.{method_of, statements_of}
use Rattle.command_model.specs.Inlined.{answered, last_unanswered}
use Rattle.command_model.specs.Places.{sequence_round}
use Rattle.command_model.specs.Sequences.{put_for, sequence_changed}
use Rattle.commands.specs.Views.{asked_by}
use Rattle.inlined_code.specs.Sending.{send_of}
use Rattle.inlined_code.proofs.Inlined.{whole-inlined}
use Rattle.inlined_code.proofs.inlining.tree_inlined.Goals as goal

pub returns : goal.returns
returns c =
    let m : MethodOf ℕ = method_of c.args.method.now in
    let ss : StatementsOf ℕ = statements_of c.in_ok-statements.statements in
    let k = c.in-Some-whole_statement.number in
    let none : answered ss ≡ None = (cc) in
    let made : method_of c.in_ok-statement_replaced.field-0 ≡ sequence_changed (put_for k (last_unanswered ss)) (sequence_round m c.args.path.now) m =
    c.in_ok-statement_replaced.ensures ∙ (λ i. sequence_changed (put_for k (c.in_ok-new.ensures i)) (c.in_ok-sequence.ensures i) m) in
    ap Some made
    ∙ sym (whole-inlined (asked_by c.args.names.now) m (method_of c.args.target.now) (send_of c.in-Some.sent) c.args.path.now ss k (sym c.in-Some.ensures) (sym c.in_ok-statements.ensures) none (sym c.in-Some-whole_statement.ensures))
