use Rattle.std.proofs.Common.{◌≡◌, take}
use Rattle.event_trees.specs.Naming.{Grows}
use Rattle.script_lang.specs.Shown.{texts}
use Rattle.log_lang.proofs.Reading.{HasRead}
use Rattle.log_lang.proofs.log.read_events.Given as goal

abbrev pub invariant-loop-line : goal.invariant-loop-line
invariant-loop-line l = record {
  read : HasRead l.names l.events.items (texts (take l.line-index l.lines));
  counted : l.number ≡ l.line-index;
  grown : Grows l.fn.names l.names;
}
