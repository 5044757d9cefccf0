use Rattle.std.proofs.Common.{List, take}
use Rattle.grammar_model.specs.Terminal.{Text}
use Rattle.event_trees.specs.Naming.{Grows}
use Rattle.pattern_trees.specs.Reading.{AreKeywords}
use Rattle.pattern_trees.proofs.metas.keyword_patterns.Given as goal

abbrev pub invariant-loop-keyword : goal.invariant-loop-keyword
invariant-loop-keyword l = record {
  read : (final : List Text) → Grows l.names final → AreKeywords final (take l.keyword-index l.keywords) l.patterns.items;
  grows : Grows l.initial.names l.names;
}
