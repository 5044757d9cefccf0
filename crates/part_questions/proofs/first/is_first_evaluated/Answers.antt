use Rattle.std.proofs.Common.{take, drop, sym, ap, ◌∙◌}
use Rattle.class_table.specs.View.{number_image}
use Rattle.st_tree.specs.declared.path.Part.{Part}
use Rattle.command_model.specs.Asked.{no_parts}
use Rattle.command_model.specs.Numbers.{number_asked}
use Rattle.command_model.specs.PartConditions.{is_first_evaluated}
use Rattle.part_questions.specs.Parts.{part_of}
use Rattle.part_questions.specs.Codes.{entry_of}
use Rattle.part_questions.proofs.Firsts.{first-evaluated}
use Rattle.part_questions.proofs.first.is_first_evaluated.Goals as goal

pub returns : goal.returns
returns c =
    let s = c.args.image.now in
    let a = number_asked s.names c.args.self_name no_parts in
    let m = entry_of s c.args.code.now in
    let steps = c.steps_to_statement.result in
    c.is_plain_before.ensures
    ∙ first-evaluated a (number_image s) m c.in-Expression.path c.in-Some.node.now c.in-Some-part_at.statement.now c.from_vec-way.result c.split_at.result.1.now
    c.in-Some.ensures (sym c.if-is_return.ensures)
    (c.from_vec-way.ensures ∙ c.in_ok-from_slice.ensures.items ∙ c.split_at.ensures.front ∙ ap (take steps) c.as_slice.ensures ∙ c.steps_to_statement.ensures.way)
    (c.split_at.ensures.back ∙ ap (drop steps) c.as_slice.ensures ∙ c.steps_to_statement.ensures.rest)
    c.in-Some-part_at.ensures
    ∙ ap (λ (p : Part). is_first_evaluated a (number_image s) m (part_of p)) (sym c.in-Expression.is)
