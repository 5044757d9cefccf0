use Rattle.std.proofs.Common.{◌≡◌, ◌++◌, length, map}
use Rattle.std.specs.List.{AllByRecursion}
use Rattle.rb_base.specs.Names.{name_at}
use Rattle.event_trees.specs.Naming.{Grows}
use Rattle.file_model.specs.Words.{words_of}
use Rattle.file_reading.specs.Filed.{IsNumberIn}
use Rattle.file_reading.proofs.words.intern_words.Given as goal

abbrev pub invariant-words : goal.invariant-words
invariant-words l =
    (map (name_at l.names) l.ids ++ words_of l.rest ≡ words_of l.fn.text) × AllByRecursion (IsNumberIn l.names) l.ids × Grows l.fn.names l.names

abbrev pub decreases-words : goal.decreases-words
decreases-words l = length l.rest
