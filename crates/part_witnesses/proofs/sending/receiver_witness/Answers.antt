use Rattle.std.proofs.Common.{◌≡◌, ℕ, List, [], ◌∷◌, ◌++◌, Some, Option, OnOk, not, option_map, sym, ap, subst, ◌∙◌}
use Rattle.command_model.specs.InlineConditions.{is_self_send}
use Rattle.refusal_witnesses.specs.InlineWitnesses.{other_receiver}
use Rattle.refusal_witnesses.specs.Witnesses.{WitnessOf, a_node, where_true}
use Rattle.image_model.specs.Image.{EntryOf}
use Rattle.st_tree.specs.View.{method_of}
use Rattle.class_table.specs.View.{number_image}
use Rattle.command_model.specs.Parts.{Part}
use Rattle.command_model.specs.Places.{SendOf, sent_by}
use Rattle.commands.specs.Views.{asked_by, self_in}
use Rattle.inlined_code.specs.Sending.{send_of}
use Rattle.part_questions.specs.Parts.{part_of}
use Rattle.code_conditions.specs.Trees.{users_part}
use Rattle.witness_lists.specs.Views.{shown}
use Rattle.part_witnesses.specs.Held.{held_as}
use Rattle.part_witnesses.specs.Standing.{found_as}
use Rattle.part_witnesses.proofs.Pushed.{nothing}
use Rattle.part_witnesses.proofs.Sends.{no-part, no-message, one-message}
use Rattle.part_witnesses.proofs.sending.receiver_witness.Goals as goal

pub returns-in_default : goal.returns-in_default
returns-in_default g c =
    let s = c.args.image.now in
    nothing (shown s c.args.found.now.items) _
    (no-part s c.args.part.now (λ (e : EntryOf ℕ × SendOf ℕ). other_receiver (asked_by s.names) (number_image s) e.0 e.1) (sym (ap (option_map (found_as s.classes)) c.in_default.is) ∙ c.in_ok-there.ensures.part))

pub returns-in_default-sent_of : goal.returns-in_default-sent_of
returns-in_default-sent_of g c =
    let s = c.args.image.now in
    let f = c.in-Some.there in
    let there : ◌≡◌ {A = Option (EntryOf ℕ × Part)} (Some (found_as s.classes f)) (users_part s c.args.part.now) = sym (ap (option_map (found_as s.classes)) c.in-Some.is) ∙ c.in_ok-there.ensures.part in
    nothing (shown s c.args.found.now.items) _
    (no-message s c.args.part.now (λ (e : EntryOf ℕ × SendOf ℕ). other_receiver (asked_by s.names) (number_image s) e.0 e.1) (held_as s.classes f.method) (part_of f.part) there
    (sym (ap (option_map send_of) c.in_default-sent_of.is) ∙ c.sent_of.ensures))

pub returns : goal.returns
returns g c =
    let s = c.args.image.now in
    let f = c.in-Some.there in
    let m : EntryOf ℕ = held_as s.classes f.method in
    let there : ◌≡◌ {A = Option (EntryOf ℕ × Part)} (Some (found_as s.classes f)) (users_part s c.args.part.now) = sym (ap (option_map (found_as s.classes)) c.in-Some.is) ∙ c.in_ok-there.ensures.part in
    let e : SendOf ℕ = send_of c.in-Some-sent_of.sent in
    let one : Some e ≡ sent_by (method_of f.method.tree.now) (part_of f.part) = sym (ap (option_map send_of) c.in-Some-sent_of.is) ∙ c.sent_of.ensures in
    let is : c.is_self_send-is_self.result ≡ is_self_send (asked_by s.names) (number_image s) e = c.is_self_send-is_self.ensures s (c.self_name.ensures ∙ ap self_in c.names.ensures) in
    let held = (c.in_ok-there.ensures.held f c.in-Some.is).owner in
    subst (λ (ws : List (WitnessOf ℕ)). OnOk c.push_child_if.result (shown s c.push_child_if.new.found.items ≡ shown s c.args.found.now.items ++ ws))
    ((λ j. where_true (not (is j)) (a_node (held j) (e.path ++ 0 ∷ [])))
    ∙ one-message s c.args.part.now (λ (x : EntryOf ℕ × SendOf ℕ). other_receiver (asked_by s.names) (number_image s) x.0 x.1) m (part_of f.part) there e one)
    (c.push_child_if.ensures s)
