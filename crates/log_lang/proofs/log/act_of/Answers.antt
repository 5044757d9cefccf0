use Rattle.std.proofs.Common.{Ok, Err, refl, sym, ◌∙◌}
use Rattle.script_model.specs.Additions.{first_word, behind_word}
use Rattle.script_model.specs.Commands.{UnknownCommand, BadArgument}
use Rattle.log_model.specs.Events.{ActSays, Alone, NoAct}
use Rattle.log_lang.specs.Shown.{act_in}
use Rattle.log_lang.proofs.Acting.{ok-also, err-also, says-there, stands-alone, not-alone}
use Rattle.log_lang.proofs.Telling.{told-cause}
use Rattle.log_lang.proofs.log.act_of.Goals as goal

pub returns-then-same_text-clause-said : goal.returns-then-same_text-clause-said
returns-then-same_text-clause-said c =
    let words = c.split_word.result in
    ok-also c.proposal.result
    (λ act h. says-there words.0.now words.1.now (first_word c.args.text.now) (behind_word c.args.text.now) (Ok (act_in c.proposal.new.names act)) c.split_word.ensures.word c.split_word.ensures.rest
    (h words.0.now (sym c.same_text.ensures ∙ c.if-same_text.true)))
    c.proposal.ensures.said

pub returns-then-same_text-clause-fault : goal.returns-then-same_text-clause-fault
returns-then-same_text-clause-fault c =
    let words = c.split_word.result in
    err-also c.proposal.result
    (λ f h n cause e. let told = h n cause e in (
      told.0,
      says-there words.0.now words.1.now (first_word c.args.text.now) (behind_word c.args.text.now) (Err cause) c.split_word.ensures.word c.split_word.ensures.rest
          (told.1 words.0.now (sym c.same_text.ensures ∙ c.if-same_text.true)),
    ))
    c.proposal.ensures.fault

pub returns-in-None-clause-fault : goal.returns-in-None-clause-fault
returns-in-None-clause-fault c = λ n cause e.
    let words = c.split_word.result in
    told-cause c.args.line n UnknownCommand cause (λ x. ActSays (first_word c.args.text.now) (behind_word c.args.text.now) (Err x))
    (says-there words.0.now words.1.now (first_word c.args.text.now) (behind_word c.args.text.now) (Err UnknownCommand) c.split_word.ensures.word c.split_word.ensures.rest
    (NoAct (sym c.same_text.ensures ∙ c.if-same_text.false) (sym (c.in-None.ensures.said c.args.names.now)) refl)) e

pub returns-then-is_blank_line-clause-said : goal.returns-then-is_blank_line-clause-said
returns-then-is_blank_line-clause-said c =
    let words = c.split_word.result in
    let act = act_in c.args.names.now c.in-Some.act in
    says-there words.0.now words.1.now (first_word c.args.text.now) (behind_word c.args.text.now) (Ok act) c.split_word.ensures.word c.split_word.ensures.rest
    (Alone act (sym c.same_text.ensures ∙ c.if-same_text.false) (sym (c.in-Some.ensures.said c.args.names.now)) (stands-alone act words.1.now (sym c.is_blank_line.ensures ∙ c.if-is_blank_line.true)))

pub returns-then-is_blank_line-clause-known : goal.returns-then-is_blank_line-clause-known
returns-then-is_blank_line-clause-known c = c.in-Some.ensures.known c.args.names.now

pub returns-else-is_blank_line-clause-fault : goal.returns-else-is_blank_line-clause-fault
returns-else-is_blank_line-clause-fault c = λ n cause e.
    let words = c.split_word.result in
    let act = act_in c.args.names.now c.in-Some.act in
    told-cause c.args.line n BadArgument cause (λ x. ActSays (first_word c.args.text.now) (behind_word c.args.text.now) (Err x))
    (says-there words.0.now words.1.now (first_word c.args.text.now) (behind_word c.args.text.now) (Err BadArgument) c.split_word.ensures.word c.split_word.ensures.rest
    (Alone act (sym c.same_text.ensures ∙ c.if-same_text.false) (sym (c.in-Some.ensures.said c.args.names.now)) (not-alone act words.1.now (sym c.is_blank_line.ensures ∙ c.if-is_blank_line.false)))) e
