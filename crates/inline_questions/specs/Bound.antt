-- Bodies that may stand in place of a message.
use Rattle.std.specs.Prelude.{ℕ, suc, ◌==◌, Bool, true, false, not, ◌&&◌, ◌||◌, nat_lt, is_some, List, length}
use Rattle.std.specs.Option.{option_map_or}
use Rattle.tree_model.specs.Tree.{StatementsOf, no_statements, more_statements, MethodOf}
use Rattle.tree_model.specs.Path.{count, statement_trees}
use Rattle.tree_model.specs.Nodes.{Placed}
use Rattle.command_model.specs.Inlined.{answered}
use Rattle.scope_model.specs.FreeNames.{statements_at}
use Rattle.command_model.specs.Places.{is_return, innermost, sequence_round, whole_statement}
use Rattle.command_model.specs.SameMethods.{is_super_node}

-- whether a node keeps the body of its method where it is: a return in a block, or `super` where the class is another one
abbrev pub is_bound : {N : Type 0} → (N → Bool) → (same_class : Bool) → Placed N → Bool
is_bound is_super same_class x = (is_return x.1 && nat_lt 1 (length x.0)) || (is_super_node is_super x.1 && not same_class)

-- whether no statement but the last one is a return
abbrev pub answers_last : {N : Type 0} → StatementsOf N → Bool
answers_last no_statements = true
answers_last (more_statements c t no_statements) = true
answers_last (more_statements c t ss) = not (is_return t) && answers_last ss

-- whether a path leads to a whole statement that does not end a block
abbrev pub is_statement_between : {N : Type 0} → MethodOf N → List ℕ → Bool
is_statement_between m path =
    option_map_or (λ k. innermost m path == 0 || nat_lt (suc k) (count (statement_trees (statements_at m.body (sequence_round m path))))) (whole_statement m path) false

-- whether statements answer one expression, or no statement but the last one is a return and a path leads to a whole statement that does not end a block
abbrev pub is_fit : {N : Type 0} → MethodOf N → List ℕ → StatementsOf N → Bool
is_fit m path ss = is_some (answered ss) || (is_statement_between m path && answers_last ss)
