use Rattle.std.proofs.Common.{◌≡◌, ◌++◌, drop}
use Rattle.tree_model.specs.Tree.{literals_of}
use Rattle.tree_model.specs.Measure.{literal_weight, literals_weight}
use Rattle.mentions.specs.Mentions.{words_in_all}
use Rattle.mentions.proofs.listing.+words.Given as goal

abbrev pub decreases-put_words : goal.decreases-put_words
decreases-put_words l = literal_weight l.literal.now

abbrev pub decreases-put_all_words : goal.decreases-put_all_words
decreases-put_all_words l = literals_weight (literals_of l.literals.now)

abbrev pub invariant-put_all_words-loop-literal : goal.invariant-put_all_words-loop-literal
invariant-put_all_words-loop-literal l =
    l.numbers.items ++ words_in_all (literals_of (drop l.literal-index l.literals)) ≡ l.initial.numbers.items ++ words_in_all (literals_of l.literals)
