use Rattle.std.proofs.Common.{Ok, Err, refl, sym, ap, subst, ◌∙◌}
use Rattle.std.proofs.lemmas.Result.{err_from_is_err_and}
use Rattle.command_words.specs.Spelling.{number_of}
use Rattle.script_model.specs.Makers.{Text}
use Rattle.script_model.specs.Additions.{first_word, behind_word}
use Rattle.script_model.specs.Commands.{BadArgument}
use Rattle.log_model.specs.Events.{ActSays, EventSays, Wordless, Does, is_blank_text}
use Rattle.log_lang.specs.Shown.{act_in}
use Rattle.log_lang.proofs.Acting.{number-within}
use Rattle.log_lang.proofs.Telling.{told-cause}
use Rattle.log_lang.proofs.log.event_of.Goals as goal

pub returns-then-is_blank_line-clause-fault : goal.returns-then-is_blank_line-clause-fault
returns-then-is_blank_line-clause-fault c = λ n cause e.
    told-cause c.args.line n BadArgument cause (λ x. EventSays c.args.text.now (Err x))
    (Wordless c.in-Some.session (ap (number_of 64) (sym c.split_word.ensures.word) ∙ sym c.in-Some.ensures)
    (ap is_blank_text (sym c.split_word.ensures.rest) ∙ sym c.is_blank_line.ensures ∙ c.if-is_blank_line.true) refl) e

pub returns-in_err-act-clause-fault : goal.returns-in_err-act-clause-fault
returns-in_err-act-clause-fault c =
    let p = err_from_is_err_and c.from_residual.result c.from_residual.ensures.1 in
    rw (p.1, p.2) (λ n cause e.
    let h = c.in_err-act.ensures.fault n cause e in (
      h.0,
      Does c.in-Some.session (Err cause) (ap (number_of 64) (sym c.split_word.ensures.word) ∙ sym c.in-Some.ensures)
          (ap is_blank_text (sym c.split_word.ensures.rest) ∙ sym c.is_blank_line.ensures ∙ c.if-is_blank_line.false)
          (subst (λ (t : Text). ActSays (first_word t) (behind_word t) (Err cause)) c.split_word.ensures.rest h.1) refl,
    ))

pub returns-clause-said : goal.returns-clause-said
returns-clause-said c =
    let act = act_in c.act_of.new.names c.in_ok-act.act in
    Does c.in-Some.session (Ok act) (ap (number_of 64) (sym c.split_word.ensures.word) ∙ sym c.in-Some.ensures)
    (ap is_blank_text (sym c.split_word.ensures.rest) ∙ sym c.is_blank_line.ensures ∙ c.if-is_blank_line.false)
    (subst (λ (t : Text). ActSays (first_word t) (behind_word t) (Ok act)) c.split_word.ensures.rest c.in_ok-act.ensures.said) refl

pub returns-clause-known : goal.returns-clause-known
returns-clause-known c =
    let within = number-within 64 c.in-Some.session c.split_word.result.0.now (sym c.in-Some.ensures) in
    record { first = within.0; last = within.1; act = c.in_ok-act.ensures.known }
