use Rattle.std.proofs.Common.{sym}
use Rattle.script_lang.proofs.Selectors.{no-words-undo, no-words-redo}
use Rattle.script_lang.proofs.requests.request_of.Goals.{in-Undo+else-is_empty, in-Redo+else-is_empty-2}
use Rattle.script_lang.proofs.requests.request_of.Goals as goal

pub returns-in-Undo-2-clause-wrong : goal.returns-in-Undo-2-clause-wrong
returns-in-Undo-2-clause-wrong c = λ _.
    elim c.in-Undo-2-1.branch [
      | in-Undo+else-is_empty w ↦ rw w.in-Undo.is (no-words-undo c.args.words.now (sym w.if-is_empty.ensures))
      | in-Redo+else-is_empty-2 w ↦ rw w.in-Redo.is (no-words-redo c.args.words.now (sym w.if-is_empty-2.ensures))
    ]
