-- The block that has the arguments and the body of a method.
use Rattle.tree_model.specs.Tree.{TreeOf, block, MethodOf}

abbrev pub as_block : {N : Type 0} → MethodOf N → TreeOf N
as_block m = block m.arguments m.body.temporaries m.body.statements m.body.tail
