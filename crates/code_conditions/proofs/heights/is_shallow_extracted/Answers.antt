use Rattle.std.proofs.Common.{◌≡◌, ℕ, option_map, Option, Some, sym, ap, ◌∙◌}
use Rattle.st_tree.specs.View.{method_of}
use Rattle.image_model.specs.Image.{EntryOf}
use Rattle.command_model.specs.Parts.{Part}
use Rattle.part_questions.specs.Parts.{part_of}
use Rattle.users_methods.specs.Users.{entry_in}
use Rattle.part_lookup.specs.Found.{found_in}
use Rattle.code_conditions.specs.Trees.{users_part}
use Rattle.code_conditions.proofs.Extracting.{extracted_high, extracted_low}
use Rattle.code_conditions.proofs.heights.is_shallow_extracted.Goals as goal

pub returns-then-is_high : goal.returns-then-is_high
returns-then-is_high g c =
    let s = c.args.image.now in
    let f = c.in-Some.found in
    let there : ◌≡◌ {A = Option (EntryOf ℕ × Part)} (Some (found_in s.classes f)) (users_part s c.args.part.now) = sym (ap (option_map (found_in s.classes)) c.in-Some.is) ∙ c.in_ok-found.ensures.part in
    extracted_high s c.args.part.now c.args.to (entry_in s.classes f.method) (part_of f.part) there c.names-names.result.now c.self_name.result c.names-names.ensures c.self_name.ensures
    (method_of c.in_ok-made.made.method) c.in_ok-made.ensures.method (sym c.is_high.ensures ∙ c.if-is_high.true)

pub returns : goal.returns
returns g c =
    let s = c.args.image.now in
    let f = c.in-Some.found in
    let there : ◌≡◌ {A = Option (EntryOf ℕ × Part)} (Some (found_in s.classes f)) (users_part s c.args.part.now) = sym (ap (option_map (found_in s.classes)) c.in-Some.is) ∙ c.in_ok-found.ensures.part in
    extracted_low s c.args.part.now c.args.to (entry_in s.classes f.method) (part_of f.part) there c.names-names.result.now c.self_name.result c.names-names.ensures c.self_name.ensures
    (method_of c.in_ok-made.made.method) c.in_ok-made.ensures.method (sym c.is_high.ensures ∙ c.if-is_high.false) (method_of c.in_ok-made.made.sender) c.in_ok-made.ensures.sender c.is_high-2.result c.is_high-2.ensures
