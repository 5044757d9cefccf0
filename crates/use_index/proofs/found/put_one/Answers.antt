use Rattle.std.proofs.Common.{sym, ◌∙◌}
use Rattle.use_index.proofs.Walks.{one-found, one-not}
use Rattle.use_index.proofs.found.put_one.Goals as goal

pub returns-in_ok-push : goal.returns-in_ok-push
returns-in_ok-push c =
    c.in_ok-push.ensures.items
    ∙ one-found c.args.name c.args.what c.args.owner c.args.one.now c.in_ok-path.path c.args.found.now.items (sym c.is_sought.ensures ∙ c.if-is_sought.true) c.in_ok-path.ensures

pub returns-else-is_sought : goal.returns-else-is_sought
returns-else-is_sought c = one-not c.args.name c.args.what c.args.owner c.args.one.now c.args.found.now.items (sym c.is_sought.ensures ∙ c.if-is_sought.false)
