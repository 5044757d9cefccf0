use Rattle.std.proofs.Common.{◌++◌, map, filter, None, Some, option_copied, refl, sym, ap, ◌∙◌}
use Rattle.composites.specs.Pushed.{variable_push, have_all}
use Rattle.composites.proofs.Upwards.{shared-pushed}
use Rattle.composites.proofs.pushes.shared_pushes.Goals as goal
use Rattle.composites.proofs.pushes.shared_pushes.Goals.{in-Some-class_named+in-Some-class_rec+in_ok-put_shared, in-Some-class_named+in_default-class_rec, in_default-class_named}

pub returns : goal.returns
returns c =
    let s = c.args.image.now in
    let class = c.in-Some.first.now in
    let others = c.in-Some.others.now in
    let none = c.new-commands.ensures.items in
    let found = shared-pushed s c.args.classes.now class others c.in-Some.ensures.cases.0 in
    elim c.match-class_named.branch [
      | in-Some-class_named+in-Some-class_rec+in_ok-put_shared w ↦
          found (Some w.in-Some-class_named.id) (sym w.in-Some-class_named.is ∙ c.class_named.ensures) (Some w.in-Some-class_rec.rec.now)
          (sym (ap option_copied w.in-Some-class_rec.is) ∙ w.class_rec.ensures)
          c.match-class_named.commands.items
          (ap (λ v. v.items) w.commands-is ∙ w.in_ok-put_shared.ensures ∙ (λ j. none j ++ map (variable_push class) (filter (have_all s others) (w.as_slice.ensures j))))
      | in-Some-class_named+in_default-class_rec w ↦
          found (Some w.in-Some-class_named.id) (sym w.in-Some-class_named.is ∙ c.class_named.ensures) None (sym (ap option_copied w.in_default-class_rec.is) ∙ w.class_rec.ensures)
          c.match-class_named.commands.items (ap (λ v. v.items) w.commands-is ∙ none)
      | in_default-class_named w ↦
          found None (sym w.in_default-class_named.is ∙ c.class_named.ensures) None refl c.match-class_named.commands.items (ap (λ v. v.items) w.commands-is ∙ none)
    ]
