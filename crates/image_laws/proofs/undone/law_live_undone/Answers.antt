use Rattle.image_laws.proofs.Orders.{live-back, live-room, live-place, live-orders}
use Rattle.image_laws.proofs.undone.law_live_undone.Goals as goal

pub returns-clause-back : goal.returns-clause-back
returns-clause-back c = λ s what place orders. live-back s orders what place

pub returns-clause-room : goal.returns-clause-room
returns-clause-room c = λ s what place orders. live-room s orders what place

pub returns-clause-place : goal.returns-clause-place
returns-clause-place c = λ s what place orders h. live-place s orders what place h

pub returns-clause-orders : goal.returns-clause-orders
returns-clause-orders c = λ s what place orders h. live-orders s orders what place h
