use Rattle.std.proofs.Common.{◌≡◌, take}
use Rattle.script_lang.specs.Shown.{texts, filled}
use Rattle.script_lang.proofs.lines.filled.Given as goal

abbrev pub invariant-loop-piece : goal.invariant-loop-piece
invariant-loop-piece l = texts l.words.items ≡ filled (texts (take l.piece-index l.pieces))
