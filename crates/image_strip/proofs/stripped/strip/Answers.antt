use Rattle.std.proofs.Common.{◌≡◌, filter, sym, ap, subst, ◌∙◌}
use Rattle.class_table.specs.Slots.{Slots}
use Rattle.class_table.specs.Valid.{IsOrderly}
use Rattle.class_table.specs.View.{number_image}
use Rattle.image_strip.specs.Stripped.{is_class_marked, stripped}
use Rattle.image_strip.proofs.AnewImage.{image-made, orderly-made}
use Rattle.image_strip.proofs.StrippedImage.{image-left, orderly-left}
use Rattle.image_strip.proofs.stripped.strip.Goals as goal

pub returns-in-Ok-clause-image : goal.returns-in-Ok-clause-image
returns-in-Ok-clause-image c =
    let s = c.args.image.now in
    let r = c.args.reach.now in
    let o = orderly-left s c.requires.orderly c.requires.once r c.requires.closed.0 c.requires.closed.1 in
    ap number_image c.replace_all_but_names.ensures ∙ image-made (stripped s r) c.in-Ok.made o c.in-Ok.ensures ∙ image-left s c.requires.orderly c.requires.once r

pub returns-in-Ok-clause-orderly : goal.returns-in-Ok-clause-orderly
returns-in-Ok-clause-orderly c =
    let s = c.args.image.now in
    let r = c.args.reach.now in
    let o = orderly-left s c.requires.orderly c.requires.once r c.requires.closed.0 c.requires.closed.1 in
    subst IsOrderly (sym c.replace_all_but_names.ensures) (orderly-made (stripped s r) c.in-Ok.made o c.in-Ok.ensures)

pub returns-in-Err-clause-image : goal.returns-in-Err-clause-image
returns-in-Err-clause-image c =
    let s = c.args.image.now in
    let r = c.args.reach.now in
    let is : c.strip_classes.new.image ≡ stripped s r =
    c.strip_classes.ensures ∙ ap (λ (t : Slots). record t { class_order = filter (is_class_marked t.classes r.classes) t.class_order }) c.strip_methods.ensures in
    ap number_image is ∙ image-left s c.requires.orderly c.requires.once r

pub returns-in-Err-clause-orderly : goal.returns-in-Err-clause-orderly
returns-in-Err-clause-orderly c =
    let s = c.args.image.now in
    let r = c.args.reach.now in
    let is : c.strip_classes.new.image ≡ stripped s r =
    c.strip_classes.ensures ∙ ap (λ (t : Slots). record t { class_order = filter (is_class_marked t.classes r.classes) t.class_order }) c.strip_methods.ensures in
    subst IsOrderly (sym is) (orderly-left s c.requires.orderly c.requires.once r c.requires.closed.0 c.requires.closed.1)
