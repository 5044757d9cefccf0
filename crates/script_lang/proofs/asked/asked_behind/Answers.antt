use Rattle.std.proofs.Common.{Ok, Err, refl, sym, ap, ◌∙◌}
use Rattle.std.proofs.lemmas.Result.{err_from_is_err_and}
use Rattle.commands.specs.Views.{request_in}
use Rattle.script_model.specs.Commands.{BadArgument}
use Rattle.script_lang.specs.Shown.{asked, texts}
use Rattle.script_lang.proofs.asked.asked_behind.Goals as goal

pub returns-in_err-request-in-AddMethod-clause-wrong : goal.returns-in_err-request-in-AddMethod-clause-wrong
returns-in_err-request-in-AddMethod-clause-wrong c =
    let p = err_from_is_err_and c.from_residual-in_err-request-in-AddMethod.result c.from_residual-in_err-request-in-AddMethod.ensures.1 in
    rw (p.1, p.2, c.in-AddMethod.is) (λ e. record { said = Err BadArgument; says = c.in_err-request-in-AddMethod.ensures.wrong e; is = refl })

pub returns-in_err-request-in-AddParameter-clause-wrong : goal.returns-in_err-request-in-AddParameter-clause-wrong
returns-in_err-request-in-AddParameter-clause-wrong c =
    let p = err_from_is_err_and c.from_residual-in_err-request-in-AddParameter.result c.from_residual-in_err-request-in-AddParameter.ensures.1 in
    rw (p.1, p.2, c.in-AddParameter.is) (λ e. record { said = Err BadArgument; says = c.in_err-request-in-AddParameter.ensures.wrong e; is = refl })

pub returns-in_err-request-in-Words-clause-wrong : goal.returns-in_err-request-in-Words-clause-wrong
returns-in_err-request-in-Words-clause-wrong c =
    let p = err_from_is_err_and c.from_residual-in_err-request-in-Words.result c.from_residual-in_err-request-in-Words.ensures.1 in
    rw (p.1, p.2, c.in-Words.is)
    (λ e. record {
      said = Err BadArgument;
      says = sym (c.in_err-request-in-Words.ensures.wrong e) ∙ ap (λ ws. asked c.in-Words.verb (texts ws)) c.as_slice.ensures.value ∙ ap (asked c.in-Words.verb) c.in_ok-words-in-Words.ensures;
      is = refl;
    })

pub returns-in_ok-request-in-AddMethod-clause-said : goal.returns-in_ok-request-in-AddMethod-clause-said
returns-in_ok-request-in-AddMethod-clause-said c =
    rw c.in-AddMethod.is (record { said = Ok (request_in c.add_method.new.names c.in_ok-request-in-AddMethod.request); says = c.in_ok-request-in-AddMethod.ensures.said; is = refl })

pub returns-in_ok-request-in-AddParameter-clause-said : goal.returns-in_ok-request-in-AddParameter-clause-said
returns-in_ok-request-in-AddParameter-clause-said c =
    rw c.in-AddParameter.is (record { said = Ok (request_in c.add_parameter.new.names c.in_ok-request-in-AddParameter.request); says = c.in_ok-request-in-AddParameter.ensures.said; is = refl })

pub returns-in_ok-request-in-Words-clause-said : goal.returns-in_ok-request-in-Words-clause-said
returns-in_ok-request-in-Words-clause-said c =
    rw c.in-Words.is
    (record {
      said = Ok (request_in c.request_of.new.names c.in_ok-request-in-Words.request);
      says = sym c.in_ok-request-in-Words.ensures.said ∙ ap (λ ws. asked c.in-Words.verb (texts ws)) c.as_slice.ensures.value ∙ ap (asked c.in-Words.verb) c.in_ok-words-in-Words.ensures;
      is = refl;
    })
