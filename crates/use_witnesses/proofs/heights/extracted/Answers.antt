use Rattle.std.proofs.Common.{◌≡◌, ℕ, Option, Some, None, option_map, sym, ap, ◌∙◌}
use Rattle.tree_model.specs.Normal.{normal}
use Rattle.tree_model.specs.Tree.{MethodOf}
use Rattle.image_model.specs.Image.{EntryOf}
use Rattle.command_model.specs.Extracted.{call_of, method_of, part_replaced}
use Rattle.command_model.specs.Parts.{Part}
use Rattle.commands.specs.Views.{asked_by}
use Rattle.part_lookup.specs.Found.{found_in}
use Rattle.part_questions.specs.Parts.{part_of}
use Rattle.users_methods.specs.Users.{entry_in}
use Rattle.code_conditions.specs.Trees.{users_part}
use Rattle.code_conditions.proofs.Extracting.{method-told, sender-told}
use Rattle.use_witnesses.proofs.heights.extracted.Goals as goal

pub returns-in_default-clause-method : goal.returns-in_default-clause-method
returns-in_default-clause-method g c =
    let s = c.args.image.now in
    let none : ◌≡◌ {A = Option (EntryOf ℕ × Part)} None (users_part s c.args.part.now) = sym (ap (option_map (found_in s.classes)) c.in_default.is) ∙ c.in_ok-found.ensures.part in
    ap (option_map {T = EntryOf ℕ × Part} (λ (e : EntryOf ℕ × Part). method_of (asked_by s.names) c.args.to e.0.tree e.1)) none

pub returns-in_default-clause-sender : goal.returns-in_default-clause-sender
returns-in_default-clause-sender g c =
    let s = c.args.image.now in
    let none : ◌≡◌ {A = Option (EntryOf ℕ × Part)} None (users_part s c.args.part.now) = sym (ap (option_map (found_in s.classes)) c.in_default.is) ∙ c.in_ok-found.ensures.part in
    ap (option_map {T = EntryOf ℕ × Part} (λ (e : EntryOf ℕ × Part). normal (part_replaced e.0.tree e.1 (call_of (asked_by s.names) c.args.to e.0.tree e.1)))) none

pub returns-clause-method : goal.returns-clause-method
returns-clause-method g c =
    let s = c.args.image.now in
    let f = c.in-Some.found in
    let there : ◌≡◌ {A = Option (EntryOf ℕ × Part)} (Some (found_in s.classes f)) (users_part s c.args.part.now) = sym (ap (option_map (found_in s.classes)) c.in-Some.is) ∙ c.in_ok-found.ensures.part in
    ap (λ (x : MethodOf ℕ). Some x)
    (c.in_ok-made.ensures.method ∙ method-told s c.args.part.now c.args.to (entry_in s.classes f.method) (part_of f.part) there c.names-names.result.now c.self_name.result c.names-names.ensures c.self_name.ensures)
    ∙ ap (option_map {T = EntryOf ℕ × Part} (λ (e : EntryOf ℕ × Part). method_of (asked_by s.names) c.args.to e.0.tree e.1)) there

pub returns-clause-sender : goal.returns-clause-sender
returns-clause-sender g c =
    let s = c.args.image.now in
    let f = c.in-Some.found in
    let there : ◌≡◌ {A = Option (EntryOf ℕ × Part)} (Some (found_in s.classes f)) (users_part s c.args.part.now) = sym (ap (option_map (found_in s.classes)) c.in-Some.is) ∙ c.in_ok-found.ensures.part in
    ap (λ (x : MethodOf ℕ). Some x)
    (c.in_ok-made.ensures.sender ∙ sender-told s c.args.part.now c.args.to (entry_in s.classes f.method) (part_of f.part) there c.names-names.result.now c.self_name.result c.names-names.ensures c.self_name.ensures)
    ∙ ap (option_map {T = EntryOf ℕ × Part} (λ (e : EntryOf ℕ × Part). normal (part_replaced e.0.tree e.1 (call_of (asked_by s.names) c.args.to e.0.tree e.1)))) there
