use Rattle.std.proofs.Common.{◌∙◌, ap, slice_get, List}
use Rattle.st_tree.proofs.Places.{nth-statements_of_some, nth-statements_of_none}
use Rattle.st_tree.specs.declared.tree.Statement.{Statement}
use Rattle.st_tree.proofs.tree.Statements.node.Goals as goal

pub returns-in-Some : goal.returns-in-Some
returns-in-Some c =
    nth-statements_of_some c.args.self.now c.args.at c.in-Some.statement.now
    (c.in-Some.ensures ∙ ap (λ (xs : List Statement). slice_get xs c.args.at) (c.deref.ensures.value ∙ c.self.view_is))

pub returns-in-None : goal.returns-in-None
returns-in-None c =
    nth-statements_of_none c.args.self.now c.args.at
    (c.in-None.ensures ∙ ap (λ (xs : List Statement). slice_get xs c.args.at) (c.deref.ensures.value ∙ c.self.view_is))
