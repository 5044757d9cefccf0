use Rattle.std.proofs.Common.{take}
use Rattle.event_trees.specs.Naming.{Grows}
use Rattle.script_lang.specs.Shown.{AreNames, texts}
use Rattle.script_lang.proofs.words.identifiers.Given as goal

abbrev pub invariant-loop-word : goal.invariant-loop-word
invariant-loop-word l = record {
  read : AreNames l.names l.ids (texts (take l.word-index l.words));
  grown : Grows l.fn.names l.names;
}
