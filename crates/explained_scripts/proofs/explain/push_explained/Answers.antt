use Rattle.std.proofs.Common.{◌-◌, ℕ, Option, sym, ap, ◌∙◌}
use Rattle.std.specs.Prelude.{option_map}
use Rattle.std.proofs.lemmas.Result.{on_ok_weaker}
use Rattle.session.specs.History.{history_of}
use Rattle.applied_scripts.specs.Refused.{refusal_shown}
use Rattle.explained_scripts.specs.declared.explain.Told.{Told}
use Rattle.explained_scripts.specs.declared.lines.NumberedLine.{NumberedLine}
use Rattle.explained_scripts.specs.Lines.{line_shown}
use Rattle.explained_scripts.specs.Shown.{told_shown}
use Rattle.explained_scripts.proofs.Explaining.{told-there, explains, known-at, stop-line, IsToldOf}
use Rattle.explained_scripts.proofs.explain.push_explained.Goals as goal

pub line_hindered-requires-clause-known : goal.line_hindered-requires-clause-known
line_hindered-requires-clause-known g c = known-at c.args.image.now.names c.args.asked.items c.saturating_sub-place.result c.in-Some-take_line.asked c.requires.known (sym c.in-Some-take_line.is ∙ c.take_line.ensures)

pub returns : goal.returns
returns g c =
    let names = c.args.image.now.names in
    let stop = c.args.stop.now in
    let of : IsToldOf names stop c.in-Some.told = told-there names stop c.in-Some.told (ap (λ (o : Option Told). option_map told_shown o) (sym c.in-Some.is) ∙ c.told_by.ensures names) in
    on_ok_weaker c.push_hindered.result
    (λ is. (
      of.refusal,
      of.shown,
      explains (history_of c.args.image.now c.args.session.now) c.args.script.now names c.args.asked.items c.in-Some-take_line.asked of.refusal c.saturating_sub-place.result c.in-Some-2.line c.in_ok-hindered.hindered c.in-Some.told.sentence.now c.args.out.now c.push_stop.new.out c.push_hindered.new.out
          (c.saturating_sub-place.ensures ∙ ap (λ (n : ℕ). n - 1) of.number)
          (ap (λ (o : Option NumberedLine). option_map line_shown o) (sym c.in-Some-2.is) ∙ c.in_ok-line.ensures)
          (sym c.in-Some-take_line.is ∙ c.take_line.ensures) c.in_ok-hindered.ensures of.sentence
          (stop-line (refusal_shown names stop) of.refusal c.args.out.now c.push_stop.new.out of.shown (rw c.names.ensures at c.in_ok-push_stop.ensures))
          is,
    ))
    c.push_hindered.ensures
