use Rattle.std.proofs.Common.{◌≡◌, ℕ, List, [], ◌++◌, Some, None, Option, OnOk, option_map, sym, ap, subst, ◌∙◌}
use Rattle.std.specs.Option.{option_map_or}
use Rattle.image_model.specs.Image.{EntryOf}
use Rattle.st_tree.specs.View.{method_of}
use Rattle.class_table.specs.View.{number_image}
use Rattle.command_model.specs.CodeEffects.{target_of}
use Rattle.command_model.specs.Places.{SendOf, sent_by}
use Rattle.commands.specs.Views.{asked_by}
use Rattle.inlined_code.specs.Sending.{send_of}
use Rattle.part_questions.specs.Parts.{part_of}
use Rattle.refusal_witnesses.specs.Witnesses.{WitnessOf}
use Rattle.witness_lists.specs.Views.{shown}
use Rattle.part_witnesses.specs.Held.{held_as}
use Rattle.part_witnesses.specs.Standing.{target_standing}
use Rattle.part_witnesses.proofs.Pushed.{nothing}
use Rattle.part_witnesses.proofs.sending.sent_witnesses.Goals as goal

pub returns-in_default : goal.returns-in_default
returns-in_default g c =
    let s = c.args.image.now in
    let f = c.args.there.now in
    let m : EntryOf ℕ = held_as s.classes f.method in
    let none : None ≡ sent_by (method_of f.method.tree.now) (part_of f.part) = sym (ap (option_map send_of) c.in_default.is) ∙ c.sent_of.ensures in
    nothing (shown s c.args.found.now.items) _
    (ap (λ (o : Option (SendOf ℕ)). option_map_or (λ (e : SendOf ℕ). option_map_or (target_standing s c.args.class c.args.condition.now m e) (target_of (asked_by s.names) (number_image s) c.args.class f.method.info.meta e) []) o []) none)

pub returns-in_default-target_of : goal.returns-in_default-target_of
returns-in_default-target_of g c =
    let s = c.args.image.now in
    let f = c.args.there.now in
    let m : EntryOf ℕ = held_as s.classes f.method in
    let e : SendOf ℕ = send_of c.in-Some.sent in
    let one : Some e ≡ sent_by (method_of f.method.tree.now) (part_of f.part) = sym (ap (option_map send_of) c.in-Some.is) ∙ c.sent_of.ensures in
    let none : None ≡ target_of (asked_by s.names) (number_image s) c.args.class f.method.info.meta e =
    sym (ap (option_map (held_as s.classes)) c.in_default-target_of.is) ∙ c.target_of.ensures.target c.args.class c.requires.class in
    nothing (shown s c.args.found.now.items) _
    (ap (λ (o : Option (EntryOf ℕ)). option_map_or (target_standing s c.args.class c.args.condition.now m e) o []) none
    ∙ ap (λ (o : Option (SendOf ℕ)). option_map_or (λ (e : SendOf ℕ). option_map_or (target_standing s c.args.class c.args.condition.now m e) (target_of (asked_by s.names) (number_image s) c.args.class f.method.info.meta e) []) o []) one)

pub standing-requires-clause-sending : goal.standing-requires-clause-sending
standing-requires-clause-sending g c = record {
  method = c.requires.held;
  target = c.target_of.ensures.held c.in-Some-target_of.target c.in-Some-target_of.is;
  same = λ j. record { method = c.code_of.ensures j; sent = c.in-Some.sent; target = record { code = c.code_of-2.ensures j; kernel = c.in-Some-target_of.target.info.kernel } };
}

pub returns : goal.returns
returns g c =
    let s = c.args.image.now in
    let f = c.args.there.now in
    let m : EntryOf ℕ = held_as s.classes f.method in
    let e : SendOf ℕ = send_of c.in-Some.sent in
    let t : EntryOf ℕ = held_as s.classes c.in-Some-target_of.target in
    let one : Some e ≡ sent_by (method_of f.method.tree.now) (part_of f.part) = sym (ap (option_map send_of) c.in-Some.is) ∙ c.sent_of.ensures in
    let found : Some t ≡ target_of (asked_by s.names) (number_image s) c.args.class f.method.info.meta e =
    sym (ap (option_map (held_as s.classes)) c.in-Some-target_of.is) ∙ c.target_of.ensures.target c.args.class c.requires.class in
    subst (λ (ws : List (WitnessOf ℕ)). OnOk c.standing.result (shown s c.standing.new.found.items ≡ shown s c.args.found.now.items ++ ws))
    (ap (λ (o : Option (EntryOf ℕ)). option_map_or (target_standing s c.args.class c.args.condition.now m e) o []) found
    ∙ ap (λ (o : Option (SendOf ℕ)). option_map_or (λ (e : SendOf ℕ). option_map_or (target_standing s c.args.class c.args.condition.now m e) (target_of (asked_by s.names) (number_image s) c.args.class f.method.info.meta e) []) o []) one)
    c.standing.ensures
