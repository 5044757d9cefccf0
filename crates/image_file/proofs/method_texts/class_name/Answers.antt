use Rattle.std.proofs.Common.{◌≡◌, ◌<◌, ◌∙◌, sym, subst, List, ℕ, length}
use Rattle.image_file.proofs.Written.{writable_class, live_at-live}
use Rattle.image_file.proofs.method_texts.class_name.Goals as goal

pub text_of-requires : goal.text_of-requires
text_of-requires c =
    subst (λ (names : List (List ℕ)). c.in-Some.rec.now.name < length names) (sym c.names.ensures)
    (writable_class c.args.image.now c.args.class c.in-Some.rec.now c.requires.writable c.requires.live
    (sym (live_at-live c.args.image.now.classes c.args.image.now.class_order c.args.class c.requires.live) ∙ sym c.in-Some.ensures)).names.name
