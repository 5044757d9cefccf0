use Rattle.std.proofs.Common.{◌≡◌, ◌++◌, List, None, Some, sym, ap, ◌∙◌}
use Rattle.std.specs.Option.{option_copied}
use Rattle.std.proofs.lemmas.List.{append-nil}
use Rattle.change_set.specs.declared.change.Change.{Change}
use Rattle.class_table.specs.View.{live_at}
use Rattle.commands.specs.declared.command.Renaming.{Renaming}
use Rattle.plan_laws.specs.Planned.{class_renamed_in}
use Rattle.rename_plans.specs.Given.{renamed_by, new_name}
use Rattle.rename_plans.proofs.Slot.{no_record}
use Rattle.rename_plans.proofs.class_change.put_class_change.Goals as goal
use Rattle.rename_plans.proofs.class_change.put_class_change.Goals.{in-Class, in-Variable}

pub returns-in_default-class_rec : goal.returns-in_default-class_rec
returns-in_default-class_rec c =
    let is : class_renamed_in (renamed_by c.args.command.now) ≡ Some c.match-command.class =
    elim c.match-command.branch [
      | in-Class w ↦ ap (λ (x : Renaming). class_renamed_in (renamed_by x)) w.in-Class.is ∙ ap Some (sym w.class-is)
      | in-Variable w ↦ ap (λ (x : Renaming). class_renamed_in (renamed_by x)) w.in-Variable.is ∙ ap Some (sym w.class-is)
    ] in
    let none : live_at c.args.image.now.classes c.args.image.now.class_order c.in-Some.id ≡ None = sym c.class_rec.ensures ∙ ap option_copied c.in_default-class_rec.is in
    let no = no_record c.args.image.now (renamed_by c.args.command.now) (new_name c.args.command.now) c.match-command.class c.in-Some.id is (sym c.class_named.ensures ∙ c.in-Some.is) none in
    sym (ap (λ (cs : List Change). c.args.changes.now ++ cs) no ∙ append-nil c.args.changes.now)
