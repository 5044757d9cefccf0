use Rattle.std.proofs.Common.{ℕ, Result, Ok, ap, sym, subst, ◌∙◌}
use Rattle.rb_base.specs.Names.{name_at}
use Rattle.image_model.specs.Image.{DoItOf, map_doit}
use Rattle.image_model.specs.ImageNames.{DoItNames}
use Rattle.class_table.specs.View.{doit_of}
use Rattle.file_model.specs.Causes.{Cause}
use Rattle.file_model.specs.Filing.{Filing, with_doit}
use Rattle.file_reading.specs.Filed.{filed, IsNumberIn}
use Rattle.file_reading.proofs.Taking.{was_added}
use Rattle.file_reading.proofs.take.add_doit.Goals as goal

pub returns : goal.returns
returns c =
    let names = c.args.reading.names in
    let later = record c.args.reading.draft { value = c.add_doit.new.self } in
    let known = subst (DoItNames (IsNumberIn names)) (sym c.in_ok-doit.ensures) c.requires.known in
    let added = was_added names c.args.reading.draft c.requires.sound (doit_of c.in_ok-doit.doit) later known
    (rw c.deref_mut.ensures.value at c.in_ok-add_doit.ensures.image) (rw c.deref_mut.ensures.value at c.in_ok-add_doit.ensures.run) (rw c.deref_mut.ensures.value at c.in_ok-add_doit.ensures.head) (rw c.deref_mut.ensures.value at c.in_ok-add_doit.ensures.places) c.in_ok-add_doit.ensures.whole in
    let made : DoItOf ℕ → Result Filing Cause = λ (d : DoItOf ℕ). Ok (with_doit (filed c.args.reading) (map_doit (name_at names) d)) in
    (added.0, added.1 ∙ ap made c.in_ok-doit.ensures)
