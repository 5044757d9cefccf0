use Rattle.std.proofs.Common.{◌≡◌, ℕ, suc, ◌&&◌, ◌||◌, true, false, List, sym, ap, ◌∙◌}
use Rattle.std.specs.Prelude.{nat_lt}
use Rattle.std.proofs.lemmas.Result.{IfOk-weaker}
use Rattle.tree_model.specs.Path.{count, statement_trees}
use Rattle.scope_model.specs.FreeNames.{statements_at}
use Rattle.st_tree.specs.View.{method_of}
use Rattle.command_model.specs.Asked.{no_parts}
use Rattle.command_model.specs.Numbers.{number_asked}
use Rattle.command_model.specs.Temporaries.{reads_of}
use Rattle.let_questions.specs.Places.{is_plain_let, is_let_for_one}
use Rattle.let_questions.proofs.form.is_let_form.Goals as goal

pub returns-then-branch : goal.returns-then-branch
returns-then-branch c =
    let s = c.args.image.now in
    let it = c.args.question.now in
    let self = c.args.self_name in
    let all : List (List ℕ) = reads_of (number_asked s.names 0 no_parts) (method_of it.code.tree.now) it.variable in
    let reads : c.as_slice-reads.result.now ≡ all =
    c.as_slice-reads.ensures.value ∙ c.in_ok-found.ensures ∙ ap (λ (ns : List (List ℕ)). reads_of (number_asked ns 0 no_parts) (method_of it.code.tree.now) it.variable) c.names.ensures in
    let followed : nat_lt (suc it.assignment.now.number) (count (statement_trees (statements_at (method_of it.code.tree.now).body it.assignment.now.sequence))) ≡ true =
    sym c.is_followed.ensures ∙ c.if-not-is_followed.false in
    let plain : is_plain_let s it self all ≡ true = ap (is_plain_let s it self) (sym reads) ∙ sym c.in_ok-is_plain_let.ensures ∙ c.if-branch.true in
    sym (λ j. followed j && (plain j || is_let_for_one s it self all))

pub returns : goal.returns
returns c =
    let s = c.args.image.now in
    let it = c.args.question.now in
    let self = c.args.self_name in
    let all : List (List ℕ) = reads_of (number_asked s.names 0 no_parts) (method_of it.code.tree.now) it.variable in
    let reads : c.as_slice-reads.result.now ≡ all =
    c.as_slice-reads.ensures.value ∙ c.in_ok-found.ensures ∙ ap (λ (ns : List (List ℕ)). reads_of (number_asked ns 0 no_parts) (method_of it.code.tree.now) it.variable) c.names.ensures in
    let followed : nat_lt (suc it.assignment.now.number) (count (statement_trees (statements_at (method_of it.code.tree.now).body it.assignment.now.sequence))) ≡ true =
    sym c.is_followed.ensures ∙ c.if-not-is_followed.false in
    let plain : is_plain_let s it self all ≡ false = ap (is_plain_let s it self) (sym reads) ∙ sym c.in_ok-is_plain_let.ensures ∙ c.if-branch.false in
    IfOk-weaker c.is_let_for_one.result _ _ (λ is e. e ∙ ap (is_let_for_one s it self) reads ∙ sym (λ j. followed j && (plain j || is_let_for_one s it self all))) c.is_let_for_one.ensures
