use Rattle.std.proofs.Common.{ap, ◌∙◌}
use Rattle.st_meaning.specs.StoreView.{store_of}
use Rattle.st_interp.specs.Machine.{rest}
use Rattle.st_interp.proofs.Begun.{leave_alive, leave_dead}
use Rattle.st_interp.proofs.state.Machine.leave.Goals as goal

pub returns-then-lives-clause-rest : goal.returns-then-lives-clause-rest
returns-then-lives-clause-rest c = λ i names.
    leave_alive i names c.args.self.now.stack.items c.args.context.now c.args.value _ _ (store_of names c.args.self.now.store) c.home-home.ensures (c.lives.ensures names) c.if-lives.true

pub returns-else-lives-clause-rest : goal.returns-else-lives-clause-rest
returns-else-lives-clause-rest c = λ i names.
    ap (rest i names c.args.self.now) c.fails.ensures ∙ leave_dead i names c.args.self.now.stack.items c.args.context.now c.args.value _ _ (store_of names c.args.self.now.store) c.home-home.ensures (c.lives.ensures names) c.if-lives.false
