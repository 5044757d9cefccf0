use Rattle.event_trees.proofs.Known.{Grows-none}
use Rattle.filled_patterns.proofs.filling.fill.Goals as goal

pub returns-clause-filled : goal.returns-clause-filled
returns-clause-filled c = λ bs h k. (c.in_ok-node.ensures.filled c.filled_node.new.names (record { grows = Grows-none c.filled_node.new.names; distinct = c.len.ensures.distinct }) bs h k).same

pub returns-clause-known : goal.returns-clause-known
returns-clause-known c = λ bs h k. (c.in_ok-node.ensures.filled c.filled_node.new.names (record { grows = Grows-none c.filled_node.new.names; distinct = c.len.ensures.distinct }) bs h k).known
