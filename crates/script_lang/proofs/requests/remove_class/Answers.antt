use Rattle.std.proofs.Common.{false, length, ap, arith}
use Rattle.std.proofs.lemmas.Result.{err_from_is_err_and}
use Rattle.script_lang.specs.declared.verb.Verb.TheVariants as verb
use Rattle.script_lang.specs.Shown.{texts}
use Rattle.script_lang.proofs.Named.{removal-asked, unspelled, miscounted}
use Rattle.script_lang.proofs.requests.remove_class.Goals.{in_default-via-then-as_slice-lt1, in_default-via-else-as_slice-lt1+else-this-lt2}
use Rattle.script_lang.proofs.requests.remove_class.Goals as goal

pub returns-in_err-ids-clause-wrong : goal.returns-in_err-ids-clause-wrong
returns-in_err-ids-clause-wrong c =
    let p = err_from_is_err_and c.from_residual.result c.from_residual.ensures.1 in
    rw (p.1, p.2) (λ e. unspelled verb.RemoveClass 1 false removal-asked (texts c.args.words.now) (c.in_err-ids.ensures.wrong e))

pub returns-in_default-clause-wrong : goal.returns-in_default-clause-wrong
returns-in_default-clause-wrong c = λ _.
    elim c.in_default.branch [
      | in_default-via-then-as_slice-lt1 w ↦ miscounted verb.RemoveClass 1 removal-asked c.in_ok-ids.ensures.said (λ e. grind (arith, e, ap length c.as_slice.ensures))
      | in_default-via-else-as_slice-lt1+else-this-lt2 w ↦ miscounted verb.RemoveClass 1 removal-asked c.in_ok-ids.ensures.said (λ e. grind (arith, e, ap length c.as_slice.ensures))
    ]
