use Rattle.std.proofs.Common.{[], ◌++◌, ◌∙◌, ap}
use Rattle.std.proofs.lemmas.Result.{on_ok_weaker}
use Rattle.file_model.specs.Changes.{Define, SetClassSide}
use Rattle.file_model.specs.Filing.{Text}
use Rattle.file_model.specs.Written.{paragraph}
use Rattle.change_model.specs.Edits.{bare_definition}
use Rattle.change_model.specs.Text.{change_source}
use Rattle.change_file.proofs.Walks.{written_twice}
use Rattle.change_file.proofs.class_edits.write_cleared.Goals as goal

pub returns : goal.returns
returns c =
    let d = change_source (Define (bare_definition c.args.name.now c.args.category.now)) in
    let s = change_source (SetClassSide c.args.name.now []) in
    on_ok_weaker c.write_paragraph-2.result
    (λ e. written_twice c.args.out.now c.write_paragraph.new.out c.write_paragraph-2.new.out (paragraph d) (paragraph s)
    (c.in_ok-write_paragraph.ensures ∙ ap (λ (t : Text). c.args.out.now ++ paragraph t) (c.as_slice.ensures ∙ c.in_ok-definition.ensures))
    (e ∙ ap (λ (t : Text). c.write_paragraph.new.out ++ paragraph t) (c.as_slice-2.ensures ∙ c.in_ok-side.ensures)))
    c.write_paragraph-2.ensures
