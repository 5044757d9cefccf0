use Rattle.std.proofs.Common.{ℕ, List, Bor, take}
use Rattle.std.specs.List.{AllByRecursion}
use Rattle.event_trees.specs.Naming.{Grows}
use Rattle.derivations.specs.Words.{HasText}
use Rattle.derivations.proofs.words.learn.Given as goal

abbrev pub invariant-loop-word : goal.invariant-loop-word
invariant-loop-word l = record {
  learned : AllByRecursion (λ (w : Bor (List ℕ)). HasText l.names w.now) (take l.word-index l.words);
  grows : Grows l.initial.names l.names;
}
