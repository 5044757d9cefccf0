-- A tree that may stand where another stands.
use Rattle.std.proofs.Common.{◌⊎◌, inl, inr, ℕ, zero, suc}
use Rattle.tree_model.specs.Tree.{TreeOf, var, literal, send, cascade, assign, block, brace, return, StatementsOf, no_statements, more_statements}
use Rattle.tree_model.specs.Path.{with_child}
use Rattle.reread_law.specs.WellFormed.{IsValue, NoReturn, IsStatement}
use Rattle.file_model.specs.Filing.{Text}

-- a return
abbrev pub IsReturn : TreeOf Text → Type 0
IsReturn (return t) = Unit {0}
IsReturn t = ⊥

-- no statements
abbrev pub IsEnd : StatementsOf Text → Type 0
IsEnd no_statements = Unit {0}
IsEnd (more_statements c t ss) = ⊥

-- both are returns; or neither is, and the second has a value by itself where the first has
abbrev pub StandsFor : TreeOf Text → TreeOf Text → Type 0
StandsFor c d = (IsReturn c × IsReturn d) ⊎ (NoReturn c × NoReturn d × (IsValue c → IsValue d))

-- what has a value is no return
pub value_no_return : (t : TreeOf Text) → IsValue t → NoReturn t
value_no_return (var n) v = tt
value_no_return (literal l) v = tt
value_no_return (send r s xs) v = tt
value_no_return (cascade r ms) v = tt
value_no_return (assign n t) v = tt
value_no_return (block ps ts ss e) v = tt
value_no_return (brace ts) v = tt
value_no_return (return t) v = absurd v

-- and may be any statement
pub value_statement : (t : TreeOf Text) (ss : StatementsOf Text) → IsValue t → IsStatement t ss
value_statement (var n) ss v = v
value_statement (literal l) ss v = tt
value_statement (send r s xs) ss v = tt
value_statement (cascade r ms) ss v = tt
value_statement (assign n t) ss v = tt
value_statement (block ps ts bs e) ss v = tt
value_statement (brace ts) ss v = tt
value_statement (return t) ss v = absurd v

-- a statement that is no return has a value
pub statement_value : (t : TreeOf Text) (ss : StatementsOf Text) → NoReturn t → IsStatement t ss → IsValue t
statement_value (var n) ss r h = h
statement_value (literal l) ss r h = tt
statement_value (send q s xs) ss r h = tt
statement_value (cascade q ms) ss r h = tt
statement_value (assign n t) ss r h = tt
statement_value (block ps ts bs e) ss r h = tt
statement_value (brace ts) ss r h = tt
statement_value (return t) ss r h = absurd r

-- a statement before others, which end where the first ones do
pub statement_before : (t : TreeOf Text) (ss rs : StatementsOf Text) → (IsEnd ss → IsEnd rs) → IsStatement t ss → IsStatement t rs
statement_before (var n) ss rs ends h = h
statement_before (literal l) ss rs ends h = tt
statement_before (send r s xs) ss rs ends h = tt
statement_before (cascade r ms) ss rs ends h = tt
statement_before (assign n t) ss rs ends h = tt
statement_before (block ps ts bs e) ss rs ends h = tt
statement_before (brace ts) ss rs ends h = tt
statement_before (return t) no_statements no_statements ends h = tt
statement_before (return t) no_statements (more_statements c u rs) ends h = absurd (ends tt)
statement_before (return t) (more_statements c u ss) rs ends h = absurd h

-- one return is a statement where another one is
both_return : (t u : TreeOf Text) (ss : StatementsOf Text) → IsStatement (return t) ss → IsStatement (return u) ss
both_return t u no_statements h = tt
both_return t u (more_statements c v ss) h = h

returns : (c d : TreeOf Text) (ss : StatementsOf Text) → IsReturn c → IsReturn d → IsStatement c ss → IsStatement d ss
returns (return t) (return u) ss r q h = both_return t u ss h
returns (return t) (var n) ss r q h = absurd q
returns (return t) (literal l) ss r q h = absurd q
returns (return t) (send v s xs) ss r q h = absurd q
returns (return t) (cascade v ms) ss r q h = absurd q
returns (return t) (assign n v) ss r q h = absurd q
returns (return t) (block ps ts bs e) ss r q h = absurd q
returns (return t) (brace ts) ss r q h = absurd q
returns (var n) d ss r q h = absurd r
returns (literal l) d ss r q h = absurd r
returns (send v s xs) d ss r q h = absurd r
returns (cascade v ms) d ss r q h = absurd r
returns (assign n v) d ss r q h = absurd r
returns (block ps ts bs e) d ss r q h = absurd r
returns (brace ts) d ss r q h = absurd r

-- a return is not without return, and has no value
pub return_returns : (t : TreeOf Text) → IsReturn t → NoReturn t → ⊥
return_returns (return t) r n = n
return_returns (var n) r q = r
return_returns (literal l) r q = r
return_returns (send v s xs) r q = r
return_returns (cascade v ms) r q = r
return_returns (assign n v) r q = r
return_returns (block ps ts bs e) r q = r
return_returns (brace ts) r q = r

pub stands_statement : (c d : TreeOf Text) (ss : StatementsOf Text) → StandsFor c d → IsStatement c ss → IsStatement d ss
stands_statement c d ss (inl r) h = returns c d ss r.0 r.1 h
stands_statement c d ss (inr r) h = value_statement d ss (r.2 (statement_value c ss r.0 h))

pub stands_no_return : (c d : TreeOf Text) → StandsFor c d → NoReturn c → NoReturn d
stands_no_return c d (inl r) n = absurd (return_returns c r.0 n)
stands_no_return c d (inr r) n = r.1

pub stands_value : (c d : TreeOf Text) → StandsFor c d → IsValue c → IsValue d
stands_value c d (inl r) v = absurd (return_returns c r.0 (value_no_return c v))
stands_value c d (inr r) v = r.2 v

-- what has a value stands for what is no return
pub value_stands : (c d : TreeOf Text) → NoReturn c → IsValue d → StandsFor c d
value_stands c d r v = inr (r, value_no_return d v, λ w. v)

-- a tree stands for itself
pub itself_stands : (t : TreeOf Text) → StandsFor t t
itself_stands (var n) = inr (tt, tt, λ v. v)
itself_stands (literal l) = inr (tt, tt, λ v. v)
itself_stands (send r s xs) = inr (tt, tt, λ v. v)
itself_stands (cascade r ms) = inr (tt, tt, λ v. v)
itself_stands (assign n t) = inr (tt, tt, λ v. v)
itself_stands (block ps ts ss e) = inr (tt, tt, λ v. v)
itself_stands (brace ts) = inr (tt, tt, λ v. v)
itself_stands (return t) = inl (tt, tt)

-- with another tree where one step leads it stands for what it was
pub child_stands : (t : TreeOf Text) (k : ℕ) (d : TreeOf Text) → StandsFor t (with_child t k d)
child_stands (var n) k d = inr (tt, tt, λ v. v)
child_stands (literal l) k d = inr (tt, tt, λ v. v)
child_stands (send r s xs) zero d = inr (tt, tt, λ v. v)
child_stands (send r s xs) (suc k) d = inr (tt, tt, λ v. v)
child_stands (cascade r ms) zero d = inr (tt, tt, λ v. v)
child_stands (cascade r ms) (suc k) d = inr (tt, tt, λ v. v)
child_stands (assign n t) zero d = inr (tt, tt, λ v. v)
child_stands (assign n t) (suc k) d = inr (tt, tt, λ v. v)
child_stands (block ps ts ss e) k d = inr (tt, tt, λ v. v)
child_stands (brace ts) k d = inr (tt, tt, λ v. v)
child_stands (return t) zero d = inl (tt, tt)
child_stands (return t) (suc k) d = inl (tt, tt)
