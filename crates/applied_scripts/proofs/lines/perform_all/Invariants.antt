use Rattle.std.proofs.Common.{◌≡◌, ◌+◌, length}
use Rattle.std.specs.Vec.Iter.{into_iter_items}
use Rattle.event_trees.specs.Naming.{Grows}
use Rattle.commands.specs.Views.{HasSelf}
use Rattle.script_lang.specs.Shown.{lines_in, AreKnown}
use Rattle.session.specs.Log.{IsLogOf}
use Rattle.session.specs.History.{history_of}
use Rattle.applied_scripts.proofs.Performed.{HasFront}
use Rattle.applied_scripts.proofs.lines.perform_all.Given as goal

abbrev pub invariant-loop-line : goal.invariant-loop-line
invariant-loop-line g l = record {
  log : IsLogOf l.image l.session;
  self_known : HasSelf l.image.names;
  grown : Grows l.initial.image.names l.image.names;
  number : l.number + length (into_iter_items l.line-iterator) ≡ length l.fn.lines.items;
  known : AreKnown l.initial.image.names (into_iter_items l.line-iterator);
  front : HasFront (history_of l.initial.image l.initial.session) (lines_in l.initial.image.names l.fn.lines.items) (lines_in l.initial.image.names (into_iter_items l.line-iterator)) l.number (history_of l.image l.session);
}
