use Rattle.std.proofs.Common.{◌≡◌, ◌+◌, drop, slice_get}
use Rattle.script_lang.specs.Shown.{texts}
use Rattle.explained_scripts.specs.Lines.{said_from}
use Rattle.explained_scripts.proofs.lines.line_among.Given as goal

abbrev pub invariant-loop-text : goal.invariant-loop-text
invariant-loop-text l = record {
  counted : l.number ≡ l.text-index;
  left : slice_get (said_from (l.number + 1) (texts (drop l.text-index l.lines))) l.left ≡ slice_get (said_from 1 (texts l.lines)) l.fn.place;
}
