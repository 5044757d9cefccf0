use Rattle.std.proofs.Common.{[], ◌∷◌, ◌++◌, ◌∙◌, ap, sym, append_assoc}
use Rattle.std.specs.Prelude.{codes}
use Rattle.text_model.specs.Literals.{quoted_text}
use Rattle.file_model.specs.Filing.{Text}
use Rattle.file_model.specs.Written.{keyword_line, names_text}
use Rattle.change_file.proofs.Walks.{five}
use Rattle.change_file.proofs.class_edits.bare_source.Goals as goal

pub returns : goal.returns
returns c =
    let n = c.args.name.now in
    let q = quoted_text c.args.category.now in
    let none = keyword_line (codes "instanceVariableNames: ") (names_text []) in
    let shared = keyword_line (codes "classVariableNames: ") (names_text []) in
    let pools = keyword_line (codes "poolDictionaries: ") (quoted_text []) in
    let last = 10 ∷ 9 ∷ codes "category: " in
    let lines = none ++ (shared ++ (pools ++ last)) in
    c.in_ok-write_string.ensures
    ∙ ap (λ (t : Text). t ++ q)
    (c.in_ok-push_slice-3.ensures.ok
    ∙ ap (λ (t : Text). t ++ lines) (c.in_ok-push_slice-2.ensures.ok ∙ ap (λ (t : Text). t ++ n) (c.in_ok-push_slice.ensures.ok ∙ ap (λ (t : Text). t ++ codes "Object subclass: #") c.new-source.ensures)))
    ∙ ap (λ (t : Text). codes "Object subclass: #" ++ t) (append_assoc n lines q ∙ sym (five n none shared pools (last ++ q)))
