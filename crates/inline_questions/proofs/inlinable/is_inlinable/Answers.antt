use Rattle.std.proofs.Common.{◌≡◌, ◌==◌, ℕ, true, false, List, length, ap, sym, ◌∙◌}
use Rattle.std.specs.Prelude.{nat_eq}
use Rattle.std.specs.List.{list_any}
use Rattle.std.proofs.lemmas.Result.{IfOk-weaker}
use Rattle.tree_model.specs.Nodes.{nodes}
use Rattle.scope_model.specs.Control.{is_empty}
use Rattle.st_tree.specs.View.{sequence_of, statements_of, method_of}
use Rattle.st_tree.specs.declared.tree.Statement.{Statement}
use Rattle.class_table.specs.View.{number_image}
use Rattle.command_model.specs.Hierarchy.{is_method_of}
use Rattle.commands.specs.Views.{asked_by}
use Rattle.placed_nodes.specs.Placing.{placed}
use Rattle.part_questions.specs.Codes.{entry_of}
use Rattle.inlined_code.specs.Sending.{send_of}
use Rattle.inline_questions.specs.Codes.{entry_in}
use Rattle.inline_questions.specs.Bound.{is_bound, is_fit}
use Rattle.inline_questions.proofs.Fit.{no-temporaries, with-temporaries, with-bound, as-fit}
use Rattle.inline_questions.proofs.inlinable.is_inlinable.Goals as goal

pub returns-then-not-is_empty : goal.returns-then-not-is_empty
returns-then-not-is_empty c =
    let s = c.args.image.now in
    let call = c.args.call.now in
    let some : is_empty call.target.code.tree.now.body.temporaries ≡ false =
    sym (no-temporaries call.target.code.tree.now.body.temporaries) ∙ ap (λ (xs : List ℕ). length xs == 0) (sym c.as_slice.ensures) ∙ sym c.is_empty.ensures ∙ c.if-not-is_empty.true in
    with-temporaries (asked_by s.names) (number_image s) c.args.class (entry_of s call.method) (send_of call.sent) (entry_in s call.target) c.if-call.false some

pub returns-then-is_any_bound : goal.returns-then-is_any_bound
returns-then-is_any_bound c =
    let s = c.args.image.now in
    let call = c.args.call.now in
    let none : is_empty call.target.code.tree.now.body.temporaries ≡ true =
    sym (no-temporaries call.target.code.tree.now.body.temporaries) ∙ ap (λ (xs : List ℕ). length xs == 0) (sym c.as_slice.ensures) ∙ sym c.is_empty.ensures ∙ c.if-not-is_empty.false in
    let same = is_method_of nat_eq c.args.class (entry_of s call.target.code) in
    let found : c.is_any_bound.result ≡ list_any (is_bound (asked_by s.names).is_super same) (nodes (sequence_of call.target.code.tree.now.body)) =
    c.is_any_bound.ensures
    ∙ (λ i. list_any (is_bound (asked_by (c.names.ensures i)).is_super (c.is_method_of-same_class.ensures i)) (placed (c.as_slice-2.ensures.value i)))
    ∙ ap (list_any (is_bound (asked_by s.names).is_super same)) c.in_ok-found.ensures in
    with-bound (asked_by s.names) (number_image s) c.args.class (entry_of s call.method) (send_of call.sent) (entry_in s call.target) c.if-call.false none (sym found ∙ c.if-is_any_bound.true)

pub returns : goal.returns
returns c =
    let s = c.args.image.now in
    let call = c.args.call.now in
    let none : is_empty call.target.code.tree.now.body.temporaries ≡ true =
    sym (no-temporaries call.target.code.tree.now.body.temporaries) ∙ ap (λ (xs : List ℕ). length xs == 0) (sym c.as_slice.ensures) ∙ sym c.is_empty.ensures ∙ c.if-not-is_empty.false in
    let same = is_method_of nat_eq c.args.class (entry_of s call.target.code) in
    let found : c.is_any_bound.result ≡ list_any (is_bound (asked_by s.names).is_super same) (nodes (sequence_of call.target.code.tree.now.body)) =
    c.is_any_bound.ensures
    ∙ (λ i. list_any (is_bound (asked_by (c.names.ensures i)).is_super (c.is_method_of-same_class.ensures i)) (placed (c.as_slice-2.ensures.value i)))
    ∙ ap (list_any (is_bound (asked_by s.names).is_super same)) c.in_ok-found.ensures in
    let fits = as-fit (asked_by s.names) (number_image s) c.args.class (entry_of s call.method) (send_of call.sent) (entry_in s call.target) c.if-call.false none (sym found ∙ c.if-is_any_bound.false) in
    IfOk-weaker c.is_fit.result _ _
    (λ is e. e ∙ ap (λ (ss : List Statement). is_fit (method_of call.method.tree.now) call.sent.path.now (statements_of ss)) c.as_slice-3.ensures ∙ fits)
    c.is_fit.ensures
