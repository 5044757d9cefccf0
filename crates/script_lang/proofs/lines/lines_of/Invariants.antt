use Rattle.std.proofs.Common.{◌≡◌, map, take}
use Rattle.std.specs.Str.Lines.{strip_carriage_return}
use Rattle.script_lang.specs.Shown.{texts}
use Rattle.script_lang.proofs.lines.lines_of.Given as goal

abbrev pub invariant-loop-part : goal.invariant-loop-part
invariant-loop-part l = texts l.lines.items ≡ map strip_carriage_return (texts (take l.part-index l.front))
