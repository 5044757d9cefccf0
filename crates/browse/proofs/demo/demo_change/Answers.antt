use Rattle.std.proofs.Common.{ℕ, List, ◌++◌, ap, sym, subst, ◌∙◌}
use Rattle.image_maker.specs.Generated.{script_text}
use Rattle.class_table.specs.View.{image_of}
use Rattle.image_forms.specs.declared.status.Status.{Status}
use Rattle.image_forms.specs.Answers.{ChangesIn}
use Rattle.browse.proofs.Shown.{nothing_told, shown_after, shown_as_told}
use Rattle.browse.proofs.demo.demo_change.Goals as goal

pub push_summary-requires : goal.push_summary-requires
push_summary-requires c =
    nothing_told (image_of c.args.image.now) (image_of c.change_image.new.image) c.as_slice.result.now c.change_image.new.out c.in-Done.commands (rw c.in-Done.is at c.in_ok-commands.ensures.changed)

pub returns-in-Done : goal.returns-in-Done
returns-in-Done c =
    shown_after c.args.classes c.in-Done.commands (image_of c.args.image.now) (image_of c.change_image.new.image) c.as_slice.result.now c.change_image.new.out c.push_summary.new.out
    (c.as_slice.ensures ∙ c.in_ok-make_script.ensures.made ∙ ap (λ (t : List ℕ). t ++ script_text c.args.classes) c.new-script.ensures) (rw c.in-Done.is at c.in_ok-commands.ensures.changed)
    (c.in_ok-push_summary-in-Done.ensures (image_of c.args.image.now) (image_of c.change_image.new.image) c.requires.before (c.as_slice-in-Done.ensures ∙ c.in_ok-after-in-Done.ensures.line))

pub returns : goal.returns
returns c =
    subst (λ (s : Status). ChangesIn c.args.classes (image_of c.args.image.now) s c.change_image.new.out) (sym c.status_of.ensures)
    (shown_as_told c.args.classes (image_of c.args.image.now) (image_of c.change_image.new.image) c.as_slice.result.now c.change_image.new.out c.in-Told.verdict
    (c.as_slice.ensures ∙ c.in_ok-make_script.ensures.made ∙ ap (λ (t : List ℕ). t ++ script_text c.args.classes) c.new-script.ensures) (rw c.in-Told.is at c.in_ok-commands.ensures.changed))
