-- Trees that send only selectors with a property.
use Rattle.tree_model.specs.Tree.{TreeOf, var, literal, send, cascade, assign, block, brace, return, TreesOf, no_trees, more_trees, MessagesOf, no_messages, more_messages, StatementsOf, no_statements, more_statements}
use Rattle.run_model.specs.Values.{Name}

module _ (P : Name → Type 0) where
  abbrev mutual
    pub SendsOnly : TreeOf Name → Type 0
    SendsOnly (var n) = Unit {0}
    SendsOnly (literal l) = Unit {0}
    SendsOnly (send r s args) = P s × SendsOnly r × AllSendOnly args
    SendsOnly (cascade r ms) = SendsOnly r × MessagesOnly ms
    SendsOnly (assign n t) = SendsOnly t
    SendsOnly (block ps ts ss e) = StatementsSendOnly ss
    SendsOnly (brace ts) = AllSendOnly ts
    SendsOnly (return t) = SendsOnly t

    pub AllSendOnly : TreesOf Name → Type 0
    AllSendOnly no_trees = Unit {0}
    AllSendOnly (more_trees t ts) = SendsOnly t × AllSendOnly ts

    pub MessagesOnly : MessagesOf Name → Type 0
    MessagesOnly no_messages = Unit {0}
    MessagesOnly (more_messages s args ms) = P s × AllSendOnly args × MessagesOnly ms

    pub StatementsSendOnly : StatementsOf Name → Type 0
    StatementsSendOnly no_statements = Unit {0}
    StatementsSendOnly (more_statements c t ss) = SendsOnly t × StatementsSendOnly ss
