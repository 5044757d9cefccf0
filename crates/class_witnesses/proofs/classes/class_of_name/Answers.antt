use Rattle.std.proofs.Common.{ℕ, Option, option_map, option_copied, ap, sym, ◌∙◌}
use Rattle.std.specs.Option.{option_and_then}
use Rattle.class_table.specs.View.{class_of, live_at}
use Rattle.class_questions.proofs.ChainLaws.{named-record}
use Rattle.class_witnesses.proofs.classes.class_of_name.Goals as goal

pub returns-in_err-class_named : goal.returns-in_err-class_named
returns-in_err-class_named c =
    let s = c.args.image.now in
    ap (λ o. option_map (class_of s.classes) (option_copied o)) c.from_residual.ensures
    ∙ ap (λ (o : Option ℕ). option_map (class_of s.classes) (option_and_then (live_at s.classes s.class_order) o)) (sym c.in_err-class_named.was ∙ c.class_named.ensures)
    ∙ named-record s c.args.name

pub returns : goal.returns
returns c =
    let s = c.args.image.now in
    ap (option_map (class_of s.classes)) (c.class_rec.ensures ∙ ap (option_and_then (live_at s.classes s.class_order)) (sym c.in_ok-class_named.was ∙ c.class_named.ensures)) ∙ named-record s c.args.name
