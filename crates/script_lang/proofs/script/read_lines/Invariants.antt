use Rattle.std.proofs.Common.{◌≡◌, take}
use Rattle.event_trees.specs.Naming.{Grows}
use Rattle.script_lang.specs.Shown.{texts}
use Rattle.script_lang.specs.Read.{HasRead}
use Rattle.script_lang.proofs.script.read_lines.Given as goal

abbrev pub invariant-loop-line : goal.invariant-loop-line
invariant-loop-line l = record {
  read : HasRead l.names l.requests.items (texts (take l.line-index l.lines));
  counted : l.number ≡ l.line-index;
  grown : Grows l.fn.names l.names;
}
