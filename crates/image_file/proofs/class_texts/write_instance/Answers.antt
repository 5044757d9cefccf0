use Rattle.std.proofs.Common.{◌≡◌, ◌++◌, ◌∙◌, ap, map}
use Rattle.std.specs.Prelude.{codes}
use Rattle.std.proofs.lemmas.Result.{on_ok_weaker}
use Rattle.rb_base.specs.Names.{name_at}
use Rattle.file_model.specs.Written.{keyword_line, names_text}
use Rattle.image_file.proofs.class_texts.write_instance.Goals as goal

pub returns : goal.returns
returns c =
    on_ok_weaker c.write_names_line.result
    (λ e. e
    ∙ ap (λ ns. c.args.out.now ++ keyword_line (codes "instanceVariableNames: ") (names_text (map (name_at ns) c.as_slice.result.now))) c.names.ensures
    ∙ ap (λ ids. c.args.out.now ++ keyword_line (codes "instanceVariableNames: ") (names_text (map (name_at c.args.image.now.names) ids))) c.as_slice.ensures)
    c.write_names_line.ensures
