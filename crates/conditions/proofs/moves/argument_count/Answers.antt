use Rattle.std.proofs.Common.{◌≡◌, ℕ, List, length, Option, Some, option_map, sym, ap, ◌∙◌}
use Rattle.st_tree.specs.View.{method_of}
use Rattle.image_model.specs.Image.{EntryOf}
use Rattle.command_model.specs.Asked.{no_parts}
use Rattle.command_model.specs.Extracted.{free_temporaries}
use Rattle.command_model.specs.Numbers.{number_asked}
use Rattle.command_model.specs.Parts.{Part}
use Rattle.part_questions.specs.Parts.{part_of}
use Rattle.part_lookup.specs.Found.{found_in}
use Rattle.conditions.proofs.Messages.{users_part, count_of}
use Rattle.conditions.proofs.moves.argument_count.Goals as goal

pub returns : goal.returns
returns g c =
    let s = c.args.image.now in
    let f = c.in-Some.found in
    let there : ◌≡◌ {A = Option (EntryOf ℕ × Part)} (Some (found_in s.classes f)) (users_part s c.args.part.now) = sym (ap (option_map (found_in s.classes)) c.in-Some.is) ∙ c.in_ok-found.ensures.part in
    ap (λ (ns : List ℕ). Some (length ns)) (c.as_slice.ensures ∙ c.in_ok-free.ensures ∙ ap (λ (ns : List (List ℕ)). free_temporaries (number_asked ns 0 no_parts) (method_of f.method.tree.now) (part_of f.part)) c.names.ensures)
    ∙ ap (option_map (count_of s c.args.part.now)) there
