use Rattle.std.proofs.Common.{◌≡◌, ◌++◌, ◌∙◌, ap, take, take_all, length, arith}
use Rattle.std.specs.Prelude.{flat_map}
use Rattle.image_file.specs.Writable.{class_text_at}
use Rattle.image_file.proofs.Written.{IsLive-at, item_at, classes_written}
use Rattle.image_file.proofs.class_texts.write_classes.Goals as goal

pub returns : goal.returns
returns c =
    let items = c.classes-id-items.result.now in
    c.loop-id.invariant
    ∙ ap (λ ks. c.args.out.now ++ flat_map (class_text_at c.args.image.now) ks) (take_all c.loop-id.id-index items c.loop-id-test.false ∙ c.classes-id-items.ensures.value)
    ∙ ap (λ t. c.args.out.now ++ t) (classes_written c.args.image.now c.args.image.now.class_order)
