use Rattle.change_set.proofs.Back.{leads_back, orders-applied}
use Rattle.change_set.proofs.laws.law_change_undone.Goals as goal

pub returns-clause-back : goal.returns-clause-back
returns-clause-back c = λ s d orders can. leads_back s d orders can

pub returns-clause-orders : goal.returns-clause-orders
returns-clause-orders c = λ s d orders can. orders-applied s d orders can
