use Rattle.std.proofs.Common.{ℕ, List, length, ap, sym, subst, ◌∙◌}
use Rattle.class_table.specs.Slots.{Slots}
use Rattle.class_table.specs.View.{image_of}
use Rattle.commands.specs.Views.{HasSelf}
use Rattle.applied_scripts.specs.Changed.{is_same}
use Rattle.applied_scripts.proofs.Answering.{performed, stopped, after_lines}
use Rattle.applied_scripts.proofs.apply.perform_counted.Goals as goal

pub perform_all-requires-clause-self_known : goal.perform_all-requires-clause-self_known
perform_all-requires-clause-self_known g c = subst (λ (s : Slots). HasSelf s.names) (sym c.reindex.ensures) c.requires.self_known

pub returns-in-Ok-clause-changed : goal.returns-in-Ok-clause-changed
returns-in-Ok-clause-changed g c =
    performed c.args.image.now c.reindex.new.self c.open.new.self c.args.lines.items c.args.out.now c.reindex.ensures c.in_ok-open.ensures.history c.perform_all.new.image
    c.perform_all.new.session _ (ap length c.as_slice-commands.ensures.value) c.in-Ok.ensures.done c.requires.empty

pub returns-clause-changed : goal.returns-clause-changed
returns-clause-changed g c =
    stopped c.args.image.now c.reindex.new.self c.open.new.self c.args.lines.items c.push_stop.new.out c.reindex.ensures c.in_ok-open.ensures.history (image_of c.perform_all.new.image) c.perform_all.new.image.names c.in-Err.stop
    c.in-Err.ensures.stopped (rw (c.requires.empty, c.names.ensures) at c.in_ok-push_stop-in-Err.ensures)

pub returns-in_err-reindex-clause-part : goal.returns-in_err-reindex-clause-part
returns-in_err-reindex-clause-part g c = λ script says. is_same (ap image_of c.reindex.ensures)

pub returns-in_err-open-clause-part : goal.returns-in_err-open-clause-part
returns-in_err-open-clause-part g c = λ script says. is_same (ap image_of c.reindex.ensures)

pub returns-in-Ok-clause-part : goal.returns-in-Ok-clause-part
returns-in-Ok-clause-part g c =
    after_lines c.args.image.now c.reindex.new.self c.open.new.self c.args.lines.items c.reindex.ensures c.in_ok-open.ensures.history c.perform_all.new.image c.perform_all.new.session c.perform_all.ensures.part

pub returns-in_err-push_stop-in-Err-clause-part : goal.returns-in_err-push_stop-in-Err-clause-part
returns-in_err-push_stop-in-Err-clause-part g c =
    after_lines c.args.image.now c.reindex.new.self c.open.new.self c.args.lines.items c.reindex.ensures c.in_ok-open.ensures.history c.perform_all.new.image c.perform_all.new.session c.perform_all.ensures.part

pub returns-clause-part : goal.returns-clause-part
returns-clause-part g c =
    after_lines c.args.image.now c.reindex.new.self c.open.new.self c.args.lines.items c.reindex.ensures c.in_ok-open.ensures.history c.perform_all.new.image c.perform_all.new.session c.perform_all.ensures.part
