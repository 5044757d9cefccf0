use Rattle.std.proofs.Common.{◌∙◌}
use Rattle.import_chunks.specs.Told.{strings_text}
use Rattle.import_chunks.proofs.Written.{definition_joined}
use Rattle.import_chunks.proofs.texts.definition_source.Goals as goal

pub returns : goal.returns
returns c =
    definition_joined c.args.superclass.now (strings_text c.args.strings.now) c.in_ok-source.source c.push_slice.new.self c.push_slice-2.new.self c.write_argument.new.out c.write_argument-2.new.out c.write_argument-3.new.out c.write_argument-4.new.out c.as_slice.result.now
    c.in_ok-source.ensures c.in_ok-push_slice.ensures.ok c.in_ok-push_slice-2.ensures.ok c.in_ok-write_argument.ensures c.in_ok-write_argument-2.ensures c.in_ok-write_argument-3.ensures c.in_ok-write_argument-4.ensures
    (c.as_slice.ensures ∙ c.in_ok-category.ensures)
