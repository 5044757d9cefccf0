use Rattle.std.proofs.Common.{◌≡◌, ◌∙◌, sym}
use Rattle.image_file.proofs.Written.{writable_class, live_at-live}
use Rattle.image_file.proofs.class_texts.write_slot.Goals as goal

pub write_class-requires : goal.write_class-requires
write_class-requires c =
    writable_class c.args.image.now c.args.id c.in-Some.rec.now c.requires.writable c.requires.live
    (sym (live_at-live c.args.image.now.classes c.args.image.now.class_order c.args.id c.requires.live) ∙ sym c.in-Some.ensures)
