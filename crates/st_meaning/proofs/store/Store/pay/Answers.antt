use Rattle.st_meaning.specs.StoreView.{store_of}
use Rattle.st_meaning.proofs.Paying.{pays_left, pays_all}
use Rattle.st_meaning.proofs.store.Store.pay.Goals as goal

pub returns-then-ticks-left-clause-store : goal.returns-then-ticks-left-clause-store
returns-then-ticks-left-clause-store c names a = pays_left c.args.ticks a (store_of names c.args.self.now) c.if-ticks-left.true

pub returns-else-ticks-left-clause-store : goal.returns-else-ticks-left-clause-store
returns-else-ticks-left-clause-store c names a = pays_all c.args.ticks a (store_of names c.args.self.now) c.if-ticks-left.false
