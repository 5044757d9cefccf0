use Rattle.std.proofs.Common.{sym, subst}
use Rattle.class_table.specs.Slots.{Slots}
use Rattle.commands.specs.Views.{HasSelf}
use Rattle.script_lang.specs.Shown.{AreKnown}
use Rattle.script_lang.proofs.Growing.{all_known-grown}
use Rattle.explained_scripts.proofs.Answered.{accepted-script, stopped-script}
use Rattle.explained_scripts.proofs.explain.explain_counted.Goals as goal

pub perform_all-requires-clause-self_known : goal.perform_all-requires-clause-self_known
perform_all-requires-clause-self_known g c = subst (λ (s : Slots). HasSelf s.names) (sym c.reindex.ensures) c.requires.self_known

pub push_explained-requires-clause-known : goal.push_explained-requires-clause-known
push_explained-requires-clause-known g c =
    all_known-grown c.perform_all.ensures.names c.args.lines.second.items (subst (λ (s : Slots). AreKnown s.names c.args.lines.second.items) (sym c.reindex.ensures) c.requires.asked)

pub returns-in-Ok : goal.returns-in-Ok
returns-in-Ok g c =
    accepted-script c.args.image.now c.reindex.new.self c.open.new.self c.args.script.now c.args.lines.first.items c.reindex.ensures c.in_ok-open.ensures.history c.requires.says
    c.perform_all.new.image c.perform_all.new.session c.args.out.now c.in-Ok.ensures.done c.requires.empty

pub returns-in_ok-push_explained-in-Err : goal.returns-in_ok-push_explained-in-Err
returns-in_ok-push_explained-in-Err g c =
    stopped-script c.args.image.now c.reindex.new.self c.open.new.self c.args.script.now c.args.lines.first.items c.reindex.ensures c.in_ok-open.ensures.history c.requires.says
    c.has_one_reading.ensures.requests c.args.lines.second.items c.requires.repeats c.requires.asked
    c.perform_all.new.image c.perform_all.new.session c.perform_all.ensures.names c.in-Err.stop c.in-Err.ensures.reached
    c.args.out.now c.push_explained.new.out c.requires.empty c.in_ok-push_explained-in-Err.ensures
