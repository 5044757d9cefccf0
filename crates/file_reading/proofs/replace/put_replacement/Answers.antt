use Rattle.std.proofs.Common.{◌≡◌, ◌-◌, None, Ok, refl, ◌∙◌}
use Rattle.std.specs.Prelude.{slice_set}
use Rattle.rb_base.specs.Names.{name_at}
use Rattle.token_model.specs.declared.kind.Dialect.TheVariants.{Second}
use Rattle.tree_model.specs.Tree.{map_sequence}
use Rattle.st_tree.specs.View.{sequence_of}
use Rattle.file_model.specs.Causes.{UnknownDefinition}
use Rattle.file_model.specs.Places.{opened_at}
use Rattle.file_model.specs.Filing.{Filing, ReplacementChunk, goes_on, taken}
use Rattle.chunk_forms.specs.Told.{replacement_text}
use Rattle.file_reading.specs.Filed.{filed, image_so_far, places_so_far, text_doit}
use Rattle.file_reading.proofs.Taking.{Answers-weaker}
use Rattle.file_reading.proofs.Replacing.{replaced, not_replaced}
use Rattle.file_reading.proofs.replace.put_replacement.Goals as goal

pub returns-in-None : goal.returns-in-None
returns-in-None c =
    let body = map_sequence (name_at c.args.reading.names) (sequence_of c.args.body) in
    (UnknownDefinition, refl, not_replaced c.args.kernel (filed c.args.reading) (replacement_text c.args.replacement.now) body c.in-None.ensures.refused)

pub returns-in-Some : goal.returns-in-Some
returns-in-Some c =
    let reading = c.args.reading in
    let body = map_sequence (name_at reading.names) (sequence_of c.args.body) in
    let number = c.in-Some.number in
    let last : Filing = goes_on (opened_at None (places_so_far reading)) None (record (image_so_far reading) { doits = slice_set (image_so_far reading).doits (number - 1) (text_doit reading.names c.args.replacement.now.source.now c.args.body) }) in
    Answers-weaker (λ r. r ≡ Ok last) (λ r. r ≡ taken Second c.args.kernel (filed reading) (ReplacementChunk (replacement_text c.args.replacement.now) body))
    (λ r e. e ∙ replaced c.args.kernel (filed reading) (replacement_text c.args.replacement.now) body number c.args.replacement.now.source.now last c.in-Some.ensures.accepted c.in-Some.ensures.stated refl refl)
    c.replace_at.result c.replace_at.ensures
