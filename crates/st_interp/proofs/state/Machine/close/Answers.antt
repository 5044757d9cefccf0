use Rattle.std.proofs.Common.{refl}
use Rattle.st_meaning.specs.StoreView.{store_of}
use Rattle.st_interp.specs.Trees.{texts_at, sequence_at}
use Rattle.st_interp.proofs.Begun.{closure_made}
use Rattle.st_interp.proofs.state.Machine.close.Goals as goal

pub returns-clause-rest : goal.returns-clause-rest
returns-clause-rest c = λ i names.
    closure_made i names c.args.self.now.stack.items _ c.args.self.now.store.closures.items (record { parameters = c.args.parameters; body = c.args.body; context = c.args.context }) (texts_at names c.args.parameters.now) (sequence_at names c.args.body.now) c.args.context.value (store_of names c.args.self.now.store) _ c.in_ok-new_closure.ensures.value refl (c.in_ok-new_closure.ensures.store names) refl
