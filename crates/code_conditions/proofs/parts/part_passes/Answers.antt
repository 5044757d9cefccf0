use Rattle.std.proofs.Common.{◌≡◌, ℕ, Bool, List, sym, ap, ◌∙◌}
use Rattle.std.proofs.lemmas.Result.{IfOk-weaker}
use Rattle.st_tree.specs.View.{method_of}
use Rattle.class_table.specs.View.{number_image}
use Rattle.command_model.specs.Asked.{no_parts}
use Rattle.command_model.specs.Numbers.{number_asked}
use Rattle.command_model.specs.PartConditions.{assigns_no_outer, are_temporaries_steady, is_first_evaluated}
use Rattle.commands.specs.Views.{self_in}
use Rattle.commands.specs.declared.condition.Condition.{Condition}
use Rattle.part_questions.specs.Parts.{part_of}
use Rattle.users_methods.specs.Users.{entry_in}
use Rattle.code_conditions.specs.Passes.{part_passes}
use Rattle.code_conditions.proofs.parts.part_passes.Goals as goal

pub returns-in-AssignsNoOuter : goal.returns-in-AssignsNoOuter
returns-in-AssignsNoOuter c =
    let s = c.args.image.now in
    let f = c.args.found.now in
    IfOk-weaker {X = Bool} c.assigns_no_outer.result (λ is. is ≡ assigns_no_outer (number_asked c.names-names.result.now 0 no_parts) (method_of f.method.tree.now) (part_of f.part))
    (λ is. is ≡ part_passes s c.args.condition.now (entry_in s.classes f.method) (part_of f.part))
    (λ is e. e ∙ ap (λ (ns : List (List ℕ)). assigns_no_outer (number_asked ns 0 no_parts) (method_of f.method.tree.now) (part_of f.part)) c.names-names.ensures
    ∙ ap (λ (q : Condition). part_passes s q (entry_in s.classes f.method) (part_of f.part)) (sym c.in-AssignsNoOuter.is)) c.assigns_no_outer.ensures

pub returns-in-TempsSteady : goal.returns-in-TempsSteady
returns-in-TempsSteady c =
    let s = c.args.image.now in
    let f = c.args.found.now in
    IfOk-weaker {X = Bool} c.are_temporaries_steady.result (λ is. is ≡ are_temporaries_steady (number_asked c.names-names.result.now 0 no_parts) (method_of f.method.tree.now) (part_of f.part))
    (λ is. is ≡ part_passes s c.args.condition.now (entry_in s.classes f.method) (part_of f.part))
    (λ is e. e ∙ ap (λ (ns : List (List ℕ)). are_temporaries_steady (number_asked ns 0 no_parts) (method_of f.method.tree.now) (part_of f.part)) c.names-names.ensures
    ∙ ap (λ (q : Condition). part_passes s q (entry_in s.classes f.method) (part_of f.part)) (sym c.in-TempsSteady.is)) c.are_temporaries_steady.ensures

pub returns-in-FirstEvaluated : goal.returns-in-FirstEvaluated
returns-in-FirstEvaluated c =
    let s = c.args.image.now in
    let f = c.args.found.now in
    IfOk-weaker {X = Bool} c.is_first_evaluated.result (λ is. is ≡ is_first_evaluated (number_asked s.names c.self_name.result no_parts) (number_image s) (entry_in s.classes f.method) (part_of f.part))
    (λ is. is ≡ part_passes s c.args.condition.now (entry_in s.classes f.method) (part_of f.part))
    (λ is e. e
    ∙ ap (λ (n : ℕ). is_first_evaluated (number_asked s.names n no_parts) (number_image s) (entry_in s.classes f.method) (part_of f.part)) (c.self_name.ensures ∙ ap self_in c.names-names.ensures)
    ∙ ap (λ (q : Condition). part_passes s q (entry_in s.classes f.method) (part_of f.part)) (sym c.in-FirstEvaluated.is)) c.is_first_evaluated.ensures
