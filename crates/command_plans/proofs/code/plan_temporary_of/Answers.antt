use Rattle.std.proofs.Common.{◌≡◌, ℕ, Option, None, Some, option_map, sym, ap, ◌∙◌}
use Rattle.image_model.specs.Image.{EntryOf}
use Rattle.class_table.specs.View.{number_image}
use Rattle.command_model.specs.CodeEffects.{part_at}
use Rattle.command_model.specs.Parts.{Part}
use Rattle.commands.specs.Views.{asked_by}
use Rattle.part_lookup.specs.declared.lookup.UsersPart.{UsersPart}
use Rattle.part_lookup.specs.Found.{found_in}
use Rattle.command_plans.proofs.Parts.{part-there, part-missing}
use Rattle.command_plans.proofs.code.plan_temporary_of.Goals as goal

pub returns-in_default : goal.returns-in_default
returns-in_default g c =
    let s = c.args.image.now in
    let p = c.args.part in
    let none : None ≡ part_at (asked_by s.names) (number_image s) p.method.class p.method.meta p.method.selector p.from p.to =
    sym (ap (λ (q : Option UsersPart). option_map (found_in s.classes) q) c.in_default.is) ∙ c.in_ok-found.ensures.part in
    part-missing s p c.requires.orderly c.args.variable c.no_changes.result.changes c.no_changes.result.touched.items c.no_changes.ensures.changes c.no_changes.ensures.touched none

pub plan_extracted_temporary-requires-clause-found : goal.plan_extracted_temporary-requires-clause-found
plan_extracted_temporary-requires-clause-found g c =
    let s = c.args.image.now in
    let p = c.args.part in
    let e : EntryOf ℕ × Part = found_in s.classes c.in-Some.found in
    let there : Some e ≡ part_at (asked_by s.names) (number_image s) p.method.class p.method.meta p.method.selector p.from p.to =
    sym (ap (λ (q : Option UsersPart). option_map (found_in s.classes) q) c.in-Some.is) ∙ c.in_ok-found.ensures.part in
    part-there s p e there
