use Rattle.std.proofs.Common.{◌≡◌, ℕ, Option, Some, option_map, sym, ap, ◌∙◌}
use Rattle.image_model.specs.Image.{EntryOf}
use Rattle.st_tree.specs.View.{method_of}
use Rattle.class_table.specs.View.{number_image}
use Rattle.command_model.specs.InlineConditions.{is_self_send}
use Rattle.command_model.specs.Parts.{Part}
use Rattle.command_model.specs.Places.{SendOf, sent_by}
use Rattle.commands.specs.Views.{self_in}
use Rattle.part_questions.specs.Parts.{part_of}
use Rattle.part_lookup.specs.Found.{found_in}
use Rattle.users_methods.specs.Users.{entry_in}
use Rattle.inlined_code.specs.Sending.{send_of}
use Rattle.code_conditions.specs.Trees.{asked, users_part}
use Rattle.code_conditions.proofs.Sends.{no_message, one_message}
use Rattle.code_conditions.proofs.targets.is_self_send.Goals as goal

pub returns-in_default-sent_of : goal.returns-in_default-sent_of
returns-in_default-sent_of g c =
    let s = c.args.image.now in
    let f = c.in-Some.found in
    let there : ◌≡◌ {A = Option (EntryOf ℕ × Part)} (Some (found_in s.classes f)) (users_part s c.args.part.now) = sym (ap (option_map (found_in s.classes)) c.in-Some.is) ∙ c.in_ok-found.ensures.part in
    no_message s c.args.part.now (λ (x : EntryOf ℕ × SendOf ℕ). is_self_send (asked s) (number_image s) x.1) (entry_in s.classes f.method) (part_of f.part) there
    (sym (ap (option_map send_of) c.in_default-sent_of.is) ∙ c.sent_of.ensures.sent)

pub returns : goal.returns
returns g c =
    let s = c.args.image.now in
    let f = c.in-Some.found in
    let there : ◌≡◌ {A = Option (EntryOf ℕ × Part)} (Some (found_in s.classes f)) (users_part s c.args.part.now) = sym (ap (option_map (found_in s.classes)) c.in-Some.is) ∙ c.in_ok-found.ensures.part in
    let e : SendOf ℕ = send_of c.in-Some-sent_of.sent in
    let one : Some e ≡ sent_by (method_of f.method.tree.now) (part_of f.part) = sym (ap (option_map send_of) c.in-Some-sent_of.is) ∙ c.sent_of.ensures.sent in
    c.is_self_send.ensures s (c.self_name-name.ensures ∙ ap self_in c.names.ensures)
    ∙ one_message s c.args.part.now (λ (x : EntryOf ℕ × SendOf ℕ). is_self_send (asked s) (number_image s) x.1) (entry_in s.classes f.method) (part_of f.part) there e one
