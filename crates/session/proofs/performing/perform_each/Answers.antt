use Rattle.std.proofs.Common.{◌<◌, ◌∷◌, [], length, Ok, Err, sym, subst, arith}
use Rattle.std.proofs.lemmas.Result.{err_from_is_err_and}
use Rattle.commands.specs.Views.{HasSelf}
use Rattle.session.specs.Stepping.{IsCarriedOut}
use Rattle.session.proofs.Each.{text_in, known-next, each-next, each-refused}
use Rattle.session.proofs.performing.perform_each.Goals as goal

pub perform_one-requires-clause-under_way : goal.perform_one-requires-clause-under_way
perform_one-requires-clause-under_way g c = (c.requires.under_way.0, c.loop-command.invariant.done.under_way c.requires.under_way.0 c.requires.under_way.1)

pub perform_one-requires-clause-self_known : goal.perform_one-requires-clause-self_known
perform_one-requires-clause-self_known g c = subst HasSelf (sym c.loop-command.invariant.done.names) c.requires.self_known

pub returns-in_err-perform_one : goal.returns-in_err-perform_one
returns-in_err-perform_one g c =
    let s = c.args.image.now in
    let l = c.loop-command in
    let p = err_from_is_err_and c.from_residual.result c.from_residual.ensures.1 in
    let h : l.command-index < length c.args.commands.now = omega arith in
    rw (p.1, p.2) (
    each-refused c.args.commands.now l.command-index c.command-item.result h c.command-item.is s c.perform_one.new.image c.args.index.now c.perform_one.new.index c.args.done.now c.perform_one.new.done c.in_err-perform_one.field-0.0
    (each-next c.args.commands.now l.command-index c.command-item.result h c.command-item.is s l.image c.perform_one.new.image c.args.index.now l.index c.perform_one.new.index c.args.done.now l.done c.perform_one.new.done (Err c.in_err-perform_one.field-0.0)
    l.invariant.done c.in_err-perform_one.ensures))

pub loop-command-preserved : goal.loop-command-preserved
loop-command-preserved g c =
    let s = c.args.image.now in
    let l = c.loop-command in
    let h : l.command-index < length c.args.commands.now = omega arith in
    let made : IsCarriedOut l.image l.index l.done (text_in l.image.names c.command-item.result ∷ []) c.perform_one.new.image c.perform_one.new.index c.perform_one.new.done (Ok tt) = c.in_ok-perform_one.ensures in
    record {
      known = known-next c.args.commands.now l.command-index c.command-item.result h c.command-item.is l.image.names c.perform_one.new.image.names made.names l.invariant.known;
      done = each-next c.args.commands.now l.command-index c.command-item.result h c.command-item.is s l.image c.perform_one.new.image c.args.index.now l.index c.perform_one.new.index c.args.done.now l.done c.perform_one.new.done (Ok tt)
          l.invariant.done made;
    }
