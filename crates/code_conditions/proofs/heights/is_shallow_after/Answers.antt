use Rattle.std.proofs.Common.{sym, ap, ◌∙◌}
use Rattle.class_table.specs.View.{number_image}
use Rattle.command_model.specs.CodeHolds.{code_holds, is_low_made, are_low_abstracted}
use Rattle.command_model.specs.Conditions.{Shallow}
use Rattle.commands.specs.Views.{asked_by, code_command, self_in}
use Rattle.commands.specs.declared.command.CodeMove.{CodeMove}
use Rattle.code_conditions.specs.Trees.{is_shallow_extracted, with_body, with_temporary, with_value}
use Rattle.code_conditions.proofs.Made.{low_made, answer_is}
use Rattle.code_conditions.proofs.Retreed.{temporary-extracted, message-inlined, temporary-inlined}
use Rattle.code_conditions.proofs.heights.is_shallow_after.Goals as goal

pub is_shallow_abstracted-requires-clause-self_name : goal.is_shallow_abstracted-requires-clause-self_name
is_shallow_abstracted-requires-clause-self_name g c = c.self_name.ensures ∙ ap self_in c.names.ensures

pub returns-in-AbstractVariable : goal.returns-in-AbstractVariable
returns-in-AbstractVariable g c =
    let s = c.args.image.now in
    let v = c.in-AbstractVariable in
    answer_is c.is_shallow_abstracted.result (are_low_abstracted (asked_by s.names) (number_image s) v.class v.variable v.setter v.parameter) (code_holds (asked_by s.names) (number_image s) (code_command c.args.change.now) Shallow)
    (ap (λ (m : CodeMove). code_holds (asked_by s.names) (number_image s) (code_command m) Shallow) (sym v.is)) c.is_shallow_abstracted.ensures

pub returns-in-ExtractMethod : goal.returns-in-ExtractMethod
returns-in-ExtractMethod g c =
    let s = c.args.image.now in
    answer_is c.is_shallow_extracted.result (is_shallow_extracted s c.in-ExtractMethod.part c.in-ExtractMethod.to) (code_holds (asked_by s.names) (number_image s) (code_command c.args.change.now) Shallow)
    (ap (λ (m : CodeMove). code_holds (asked_by s.names) (number_image s) (code_command m) Shallow) (sym c.in-ExtractMethod.is)) c.is_shallow_extracted.ensures

pub returns-in_ok-tree-in-InlineMethod : goal.returns-in_ok-tree-in-InlineMethod
returns-in_ok-tree-in-InlineMethod g c =
    let s = c.args.image.now in
    let p = c.in-InlineMethod.part in
    c.is_low.ensures
    ∙ low_made _ (with_body s p) c.in_ok-tree-in-InlineMethod.ensures
    ∙ ap (is_low_made (asked_by s.names) (number_image s)) (message-inlined s p)
    ∙ ap (λ (m : CodeMove). code_holds (asked_by s.names) (number_image s) (code_command m) Shallow) (sym c.in-InlineMethod.is)

pub returns-in_ok-tree-in-ExtractTemporary : goal.returns-in_ok-tree-in-ExtractTemporary
returns-in_ok-tree-in-ExtractTemporary g c =
    let s = c.args.image.now in
    let p = c.in-ExtractTemporary.part in
    let x = c.in-ExtractTemporary.variable in
    c.is_low-in-ExtractTemporary.ensures
    ∙ low_made _ (with_temporary s p x) c.in_ok-tree-in-ExtractTemporary.ensures
    ∙ ap (is_low_made (asked_by s.names) (number_image s)) (temporary-extracted s p x)
    ∙ ap (λ (m : CodeMove). code_holds (asked_by s.names) (number_image s) (code_command m) Shallow) (sym c.in-ExtractTemporary.is)

pub returns-in_ok-tree-in-InlineTemporary : goal.returns-in_ok-tree-in-InlineTemporary
returns-in_ok-tree-in-InlineTemporary g c =
    let s = c.args.image.now in
    let n = c.in-InlineTemporary.method in
    let x = c.in-InlineTemporary.variable in
    c.is_low-in-InlineTemporary.ensures
    ∙ low_made _ (with_value s n x) c.in_ok-tree-in-InlineTemporary.ensures
    ∙ ap (is_low_made (asked_by s.names) (number_image s)) (temporary-inlined s n x)
    ∙ ap (λ (m : CodeMove). code_holds (asked_by s.names) (number_image s) (code_command m) Shallow) (sym c.in-InlineTemporary.is)
