use Rattle.std.proofs.Common.{false, length, ap, sym, ◌∙◌, arith}
use Rattle.std.proofs.lemmas.Result.{err_from_is_err_and}
use Rattle.script_lang.specs.declared.verb.Verb.TheVariants as verb
use Rattle.script_lang.specs.Shown.{texts}
use Rattle.commands.specs.Views.{action_of}
use Rattle.script_lang.proofs.Named.{accessors-asked, unspelled, miscounted, two-items, accessors-said, accessors-known}
use Rattle.script_lang.proofs.requests.accessors.Goals.{in_default-via-then-as_slice-lt2, in_default-via-else-as_slice-lt2+else-this-lt3}
use Rattle.script_lang.proofs.requests.accessors.Goals as goal

pub returns-in_err-ids-clause-wrong : goal.returns-in_err-ids-clause-wrong
returns-in_err-ids-clause-wrong c =
    let p = err_from_is_err_and c.from_residual.result c.from_residual.ensures.1 in
    rw (p.1, p.2) (λ e. unspelled (verb.Accessors c.args.verb) 2 false (accessors-asked c.args.verb) (texts c.args.words.now) (c.in_err-ids.ensures.wrong e))

pub returns-in_default-clause-wrong : goal.returns-in_default-clause-wrong
returns-in_default-clause-wrong c = λ _.
    elim c.in_default.branch [
      | in_default-via-then-as_slice-lt2 w ↦ miscounted (verb.Accessors c.args.verb) 2 (accessors-asked c.args.verb) c.in_ok-ids.ensures.said (λ e. grind (arith, e, ap length c.as_slice.ensures))
      | in_default-via-else-as_slice-lt2+else-this-lt3 w ↦ miscounted (verb.Accessors c.args.verb) 2 (accessors-asked c.args.verb) c.in_ok-ids.ensures.said (λ e. grind (arith, e, ap length c.as_slice.ensures))
    ]

pub returns-clause-said : goal.returns-clause-said
returns-clause-said c =
    accessors-said c.in_ok-ids.ensures.said c.args.verb c.class-item.result c.variable-item.result c.in_ok-setter.setter c.in_ok-parameter.parameter
    (sym c.as_slice.ensures ∙ two-items c.as_slice.result.now c.class-item.result c.variable-item.result (omega (arith, c.in-len2.len_at_least, c.in-len2.len_below)) c.class-item.is c.variable-item.is) c.in_ok-setter.ensures.grows c.in_ok-parameter.ensures.grows c.in_ok-setter.ensures.text c.in_ok-setter.ensures.known c.in_ok-parameter.ensures.text
    (action_of c.accessor_action-action.result) c.accessor_action-action.ensures

pub returns-clause-known : goal.returns-clause-known
returns-clause-known c =
    accessors-known c.in_ok-ids.ensures.said c.args.verb c.class-item.result c.variable-item.result c.in_ok-setter.setter c.in_ok-parameter.parameter
    (sym c.as_slice.ensures ∙ two-items c.as_slice.result.now c.class-item.result c.variable-item.result (omega (arith, c.in-len2.len_at_least, c.in-len2.len_below)) c.class-item.is c.variable-item.is) c.in_ok-setter.ensures.grows c.in_ok-parameter.ensures.grows c.in_ok-setter.ensures.known c.in_ok-parameter.ensures.known
    (action_of c.accessor_action-action.result) c.accessor_action-action.ensures
