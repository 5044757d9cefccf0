-- Statements whose last one answers.
use Rattle.tree_model.specs.Tree.{TreeOf, return}

-- what a return answers, or the node itself where it is none
abbrev pub unreturned : {N : Type 0} → TreeOf N → TreeOf N
unreturned (return t) = t
unreturned t = t
