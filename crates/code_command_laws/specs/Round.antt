-- The sequence and the statement round a part of a method.
use Rattle.std.specs.Prelude.{◌≡◌, ℕ, false, List, [], ◌∷◌, ◌++◌, Some}
use Rattle.tree_model.specs.Tree.{TreeOf, assign, block, SequenceOf}
use Rattle.tree_model.specs.Path.{nth, statement_trees, child, with_statement}
use Rattle.scope_model.specs.Control.{is_block}
use Rattle.command_model.specs.Sequences.{single, put_in}

module _ {N : Type 0} where
  -- a path that leads from a node to a part through no block
  pub data IsOpen (part : TreeOf N) : TreeOf N → List ℕ → Type 0 where
    open_here : IsOpen part part []
    open_step : {t c : TreeOf N} {k : ℕ} {ks : List ℕ} → is_block t ≡ false → child t k ≡ Some c → IsOpen part c ks → IsOpen part t (k ∷ ks)

  -- A path that leads from a node into blocks: the steps to the innermost of them round the part, with its parameters and sequence; and the number of a statement there, from which the rest of the path leads through no block.
  pub data InBlock (part : TreeOf N) (ps : List N) (b : SequenceOf N) (k : ℕ) (s : TreeOf N) (ks : List ℕ) : TreeOf N → List ℕ → Type 0 where
    this_block : nth (statement_trees b.statements) k ≡ Some s → IsOpen part s ks → InBlock part ps b k s ks (block ps b.temporaries b.statements b.tail) []
    block_below : {t c : TreeOf N} {j : ℕ} {js : List ℕ} → child t j ≡ Some c → InBlock part ps b k s ks c js → InBlock part ps b k s ks t (j ∷ js)

  -- the sequence in which a statement is another one, behind an assignment to a temporary that stands last
  abbrev pub let_sequence : ℕ → TreeOf N → N → TreeOf N → SequenceOf N → SequenceOf N
  let_sequence k part x s b =
      let c : SequenceOf N = put_in k 0 (single (assign x part)) (record b { statements = with_statement b.statements k s }) in
      record c { temporaries = c.temporaries ++ x ∷ [] }
