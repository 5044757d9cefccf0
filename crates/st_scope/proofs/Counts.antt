-- Trees and statements of lists by number.
use Rattle.st_tree.proofs.Places.{count-trees_of, nth-statements_of_some, nth-statements_of_none}

pub ruleset count_lemmas = count-trees_of

pub ruleset statement_lemmas = (nth-statements_of_some, nth-statements_of_none)
