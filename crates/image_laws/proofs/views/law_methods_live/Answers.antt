use Rattle.std.proofs.Common.{sym, ap, List, ℕ}
use Rattle.class_table.proofs.OrderLemmas.{position-none}
use Rattle.image_laws.proofs.ViewLemmas.{method-there, method-taken_out, method-put_in}
use Rattle.image_laws.proofs.views.law_methods_live.Goals as goal

pub returns-clause-there : goal.returns-clause-there
returns-clause-there c = λ s k p orders e. method-there s orders k p e

pub returns-clause-taken_out : goal.returns-clause-taken_out
returns-clause-taken_out c = λ s k p orders e. method-taken_out s orders k p e

pub returns-clause-not_live : goal.returns-clause-not_live
returns-clause-not_live c = λ s k e. ap (λ (ks : List ℕ). record s { method_order = ks }) (position-none k s.method_order (sym e))

pub returns-clause-put_in : goal.returns-clause-put_in
returns-clause-put_in c = λ s k p x orders e. method-put_in s orders k p x e
