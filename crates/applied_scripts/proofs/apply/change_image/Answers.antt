use Rattle.std.proofs.Common.{ℕ, List, ◌++◌, ap, sym, subst, ◌∙◌}
use Rattle.class_table.specs.View.{image_of}
use Rattle.applied_scripts.specs.Changed.{IsChanged}
use Rattle.applied_scripts.proofs.apply.change_image.Goals as goal

pub returns-clause-changed : goal.returns-clause-changed
returns-clause-changed c =
    subst (λ (sent : List ℕ). IsChanged (image_of c.args.image.now) c.args.script.now (image_of c.change_and_tell.new.image) sent c.in_ok-changed.changed)
    (sym (c.in_ok-append.ensures.ok ∙ ap (λ (t : List ℕ). t ++ c.change_and_tell.new.out) c.requires.empty)) c.in_ok-changed.ensures.changed
