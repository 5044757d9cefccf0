use Rattle.std.proofs.Common.{false, length, ap, sym, ◌∙◌, arith}
use Rattle.std.proofs.lemmas.Result.{err_from_is_err_and}
use Rattle.script_lang.specs.declared.verb.Verb.TheVariants as verb
use Rattle.script_lang.specs.Shown.{texts}
use Rattle.commands.specs.Views.{command_of}
use Rattle.script_lang.proofs.Named.{triple-asked, unspelled, miscounted, three-items, triple-said, triple-names_known}
use Rattle.script_lang.proofs.requests.triple_request.Goals.{in_default-via-then-as_slice-lt3, in_default-via-else-as_slice-lt3+else-this-lt4}
use Rattle.script_lang.proofs.requests.triple_request.Goals as goal

pub returns-in_err-ids-clause-wrong : goal.returns-in_err-ids-clause-wrong
returns-in_err-ids-clause-wrong c =
    let p = err_from_is_err_and c.from_residual.result c.from_residual.ensures.1 in
    rw (p.1, p.2) (λ e. unspelled (verb.Triple c.args.verb) 3 false (triple-asked c.args.verb) (texts c.args.words.now) (c.in_err-ids.ensures.wrong e))

pub returns-in_default-clause-wrong : goal.returns-in_default-clause-wrong
returns-in_default-clause-wrong c = λ _.
    elim c.in_default.branch [
      | in_default-via-then-as_slice-lt3 w ↦ miscounted (verb.Triple c.args.verb) 3 (triple-asked c.args.verb) c.in_ok-ids.ensures.said (λ e. grind (arith, e, ap length c.as_slice.ensures))
      | in_default-via-else-as_slice-lt3+else-this-lt4 w ↦ miscounted (verb.Triple c.args.verb) 3 (triple-asked c.args.verb) c.in_ok-ids.ensures.said (λ e. grind (arith, e, ap length c.as_slice.ensures))
    ]

pub returns-clause-said : goal.returns-clause-said
returns-clause-said c =
    triple-said c.in_ok-ids.ensures.said c.args.verb c.class-item.result c.variable-item.result c.to-item.result
    (sym c.as_slice.ensures ∙ three-items c.as_slice.result.now c.class-item.result c.variable-item.result c.to-item.result (omega (arith, c.in-len3.len_at_least, c.in-len3.len_below)) c.class-item.is c.variable-item.is c.to-item.is) (command_of c.triple_command-command.result) c.triple_command-command.ensures

pub returns-clause-known : goal.returns-clause-known
returns-clause-known c =
    triple-names_known c.in_ok-ids.ensures.said c.args.verb c.class-item.result c.variable-item.result c.to-item.result
    (sym c.as_slice.ensures ∙ three-items c.as_slice.result.now c.class-item.result c.variable-item.result c.to-item.result (omega (arith, c.in-len3.len_at_least, c.in-len3.len_below)) c.class-item.is c.variable-item.is c.to-item.is) (command_of c.triple_command-command.result) c.triple_command-command.ensures
