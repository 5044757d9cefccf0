use Rattle.st_meaning.specs.StoreView.{store_of}
use Rattle.st_interp.proofs.Naming.{read_shared}
use Rattle.st_interp.proofs.reading.read_meaning.Goals as goal

pub returns-in_ok-shared_variable-in-Shared : goal.returns-in_ok-shared_variable-in-Shared
returns-in_ok-shared_variable-in-Shared c = λ names.
    read_shared c.args.context.now c.args.name _ _ _ _ _ (store_of names c.args.store.now) c.in-Shared.is c.as_slice-in-Shared.ensures c.as_slice-in-Shared-2.ensures (c.in_ok-shared_variable-in-Shared.ensures names)
