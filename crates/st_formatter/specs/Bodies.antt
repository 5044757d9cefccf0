-- What stands between the brackets of a block.
use Rattle.std.specs.Prelude.{ℕ, ◌&&◌, if◌then◌else◌, Bool, true, false, List, [], codes}
use Rattle.tree_model.specs.Tree.{TreeOf, block, StatementsOf, no_statements, more_statements, SequenceOf}
use Rattle.text_model.specs.Pieces.{pieces_behind}
use Rattle.text_model.specs.Flat.{is_none_in, is_flat_row}
use Rattle.text_model.specs.Expressions.{row_text, blank_behind}
use Rattle.text_model.specs.Whole.{sequence_lines}

-- whether there is at most one statement, without comments
abbrev pub is_bare_row : {N : Type 0} → StatementsOf N → Bool
is_bare_row no_statements = true
is_bare_row (more_statements c t no_statements) = is_none_in c
is_bare_row (more_statements c t (more_statements d u ss)) = false

-- whether a body has no temporaries, no comments and at most one statement
abbrev pub is_bare : {N : Type 0} → SequenceOf N → Bool
is_bare b = is_none_in b.temporaries && is_none_in b.tail && is_bare_row b.statements

-- whether a block with this body is flat
abbrev pub is_flat_body : {N : Type 0} → SequenceOf N → Bool
is_flat_body b = is_none_in b.temporaries && is_none_in b.tail && is_flat_row b.statements

-- the one statement of a flat block, or the lines of any other behind line feeds
abbrev pub inside_text : Bool → ℕ → SequenceOf (List ℕ) → List ℕ
inside_text flat k b = if flat then row_text k b.statements else pieces_behind (codes "\n") (sequence_lines k b)

-- the blank behind the parameters of a flat block
abbrev pub blank_where : Bool → List (List ℕ) → List ℕ
blank_where flat ps = if flat then blank_behind ps else []

-- the block with these parameters and this body
abbrev pub block_of : {N : Type 0} → List N → SequenceOf N → TreeOf N
block_of ps b = block ps b.temporaries b.statements b.tail
