use Rattle.std.proofs.Common.{ℕ, subst}
use Rattle.commands.specs.Views.{renaming_command}
use Rattle.plan_laws.specs.Planned.{MayBePlanned}
use Rattle.reference_index.specs.Mentioned.{ListsPlaces}
use Rattle.rename_plans.specs.Given.{renamed_by, new_name}
use Rattle.rename_plans.proofs.Assembled.{may_be, one_command, planned_same, touched_same, is_plan}
use Rattle.rename_plans.proofs.planning.plan.Goals as goal

pub returns : goal.returns
returns g c =
    let s = c.args.image.now in
    let command = c.args.command.now in
    let places = c.listed-places.result.now in
    let may : MayBePlanned s (renamed_by command) (new_name command) places =
    may_be s c.args.index.now (renamed_by command) (new_name command) (renaming_command command) places (one_command command) c.requires.orderly c.requires.index c.requires.known c.requires.holds (
    subst (λ (n : ℕ). ListsPlaces c.args.index.now n places) c.old_name.ensures c.listed-places.ensures) in
    let law = c.law_planned.ensures in
    is_plan s command places c.put_code_changes.new.changes c.put_code_changes.new.touched.items
    (planned_same s command places c.new-changes.result c.put_class_change.new.changes c.put_code_changes.new.changes c.new-changes.ensures c.in_ok-put_class_change.ensures c.in_ok-put_code_changes.ensures.changes)
    (touched_same s command places c.new-touched.result.items c.put_code_changes.new.touched.items c.new-touched.ensures.items c.in_ok-put_code_changes.ensures.touched)
    (law.can s (renamed_by command) (new_name command) places may) (law.fit s (renamed_by command) (new_name command) places may) (law.effect s (renamed_by command) (new_name command) places may) (law.names s (renamed_by command) (new_name command) places may) (law.orderly s (renamed_by command) (new_name command) places may) (law.touched s (renamed_by command) (new_name command) places may)
