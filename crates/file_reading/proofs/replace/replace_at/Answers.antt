use Rattle.std.proofs.Common.{◌-◌, ℕ, Result, Ok, None, ap, sym, subst, ◌∙◌}
use Rattle.std.specs.Prelude.{slice_set}
use Rattle.rb_base.specs.Names.{name_at}
use Rattle.image_model.specs.Image.{DoItOf, map_doit}
use Rattle.image_model.specs.ImageNames.{DoItNames}
use Rattle.class_table.specs.View.{doit_of}
use Rattle.file_model.specs.Causes.{Cause}
use Rattle.file_model.specs.Places.{opened_at}
use Rattle.file_model.specs.Filing.{Filing, goes_on}
use Rattle.file_reading.specs.Filed.{image_so_far, places_so_far, IsNumberIn}
use Rattle.file_reading.proofs.Taking.{was_replaced}
use Rattle.file_reading.proofs.replace.replace_at.Goals as goal

pub returns : goal.returns
returns c =
    let names = c.args.reading.names in
    let known = subst (DoItNames (IsNumberIn names)) (sym c.in_ok-doit.ensures) c.requires.known in
    let replaced = was_replaced names c.args.reading.draft c.requires.sound (c.args.number - 1) (doit_of c.in_ok-doit.doit) (record c.args.reading.draft { value = c.replace_doit.new.self }) known
    (rw c.deref_mut.ensures.value at c.replace_doit.ensures.image) c.replace_doit.ensures.run c.replace_doit.ensures.head (rw c.deref_mut.ensures.value at c.replace_doit.ensures.places) c.replace_doit.ensures.whole in
    let made : DoItOf ℕ → Result Filing Cause = λ (d : DoItOf ℕ). Ok (goes_on (opened_at None (places_so_far c.args.reading)) None (record (image_so_far c.args.reading) { doits = slice_set (image_so_far c.args.reading).doits (c.args.number - 1) (map_doit (name_at names) d) })) in
    (replaced.0, ap Ok replaced.1 ∙ ap made c.in_ok-doit.ensures)
