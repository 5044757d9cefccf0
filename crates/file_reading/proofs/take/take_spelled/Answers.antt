use Rattle.std.proofs.Common.{refl, sym, ap, option_map, ◌∙◌}
use Rattle.token_model.specs.declared.kind.Dialect.TheVariants.{Second}
use Rattle.rb_base.specs.Names.{name_at}
use Rattle.tree_model.specs.Tree.{map_sequence}
use Rattle.st_tree.specs.View.{sequence_of}
use Rattle.file_model.specs.Changes.{map_run}
use Rattle.file_model.specs.Forms.{form_of}
use Rattle.chunk_forms.specs.Told.{replacement_text}
use Rattle.file_reading.specs.Filed.{filed}
use Rattle.file_reading.proofs.TakenSources.{doit_taken, replacement_taken}
use Rattle.file_reading.proofs.take.take_spelled.Goals as goal

pub returns-in-Some : goal.returns-in-Some
returns-in-Some c =
    let f = name_at c.args.reading.names in
    replacement_taken c.args.kernel (filed c.args.reading) c.args.source.now c.requires.some (map_sequence f (sequence_of c.args.body)) (replacement_text c.in-Some.replacement) c.replace.result
    (ap (option_map (map_run f)) c.requires.outside) c.requires.spelled (sym c.replacement_in.ensures ∙ ap (option_map replacement_text) c.in-Some.is) c.replace.ensures

pub returns-in-None : goal.returns-in-None
returns-in-None c =
    let f = name_at c.args.reading.names in
    let body = map_sequence f (sequence_of c.args.body) in
    doit_taken c.args.kernel (filed c.args.reading) c.args.source.now c.requires.some body body (form_of Second c.args.kernel body) (filed c.args.reading) c.take_body.result
    (ap (option_map (map_run f)) c.requires.outside) c.requires.spelled (sym c.replacement_in.ensures ∙ ap (option_map replacement_text) c.in-None.is) refl refl refl c.take_body.ensures
