use Rattle.rb_base.specs.Names.{name_at}
use Rattle.tree_model.specs.Tree.{map_sequence}
use Rattle.st_tree.specs.View.{sequence_of}
use Rattle.chunk_forms.specs.Told.{replacement_text}
use Rattle.placed_draft.specs.Placed.{image_of}
use Rattle.file_reading.specs.Filed.{image_so_far}
use Rattle.file_reading.proofs.Replacing.{where_none, has_no_doit, no_number}
use Rattle.file_reading.proofs.replace.replaced_number.Goals as goal

pub returns-in_err-number-clause-refused : goal.returns-in_err-number-clause-refused
returns-in_err-number-clause-refused c =
    let reading = c.args.reading.now in
    let f = name_at reading.names in
    where_none c.from_residual.result (no_number c.args.kernel (image_so_far reading) (replacement_text c.args.replacement.now) (map_sequence f (sequence_of c.args.body.now))
    (has_no_doit f (image_of reading.draft.value) c.args.replacement.now.numeral.now c.doit_count.result (rw c.deref.ensures at c.doit_count.ensures) c.in_err-number.ensures.none))
