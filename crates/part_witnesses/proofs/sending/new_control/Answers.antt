use Rattle.std.proofs.Common.{◌≡◌, ℕ, List, ◌++◌, OnOk, not, subst, ◌∙◌}
use Rattle.class_table.specs.View.{number_image}
use Rattle.command_model.specs.InlineConditions.{makes_no_control}
use Rattle.commands.specs.Views.{asked_by}
use Rattle.inlined_code.specs.Sending.{send_of}
use Rattle.inline_questions.specs.Codes.{entry_in}
use Rattle.part_questions.specs.Codes.{entry_of}
use Rattle.refusal_witnesses.specs.InlineWitnesses.{above}
use Rattle.refusal_witnesses.specs.Witnesses.{WitnessOf, a_node, where_true}
use Rattle.witness_lists.specs.Views.{shown}
use Rattle.part_witnesses.specs.Held.{held_as}
use Rattle.part_witnesses.proofs.sending.new_control.Goals as goal

pub returns : goal.returns
returns c =
    let s = c.args.image.now in
    let it = c.args.sending.now in
    let none : c.in_ok-is_none.is_none ≡ makes_no_control (asked_by s.names) (number_image s) (held_as s.classes it.method.now) (send_of it.call.sent) (held_as s.classes it.target.now) =
    c.in_ok-is_none.ensures ∙ (λ j. makes_no_control (asked_by s.names) (number_image s) (entry_of s (c.requires.same j).method) (send_of (c.requires.same j).sent) (entry_in s (c.requires.same j).target)) in
    subst (λ (ws : List (WitnessOf ℕ)). OnOk c.push_above_if.result (shown s c.push_above_if.new.found.items ≡ shown s c.args.found.now.items ++ ws))
    (λ j. where_true (not (none j)) (a_node (c.requires.method.owner j) (above it.call.sent.path.now)))
    (c.push_above_if.ensures s)
