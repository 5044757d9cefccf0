-- Statements that come into a sequence or go, and methods with another tree.
use Rattle.std.specs.Prelude.{ℕ, Bool, ◌&&◌, not, if◌then◌else◌, List, [], ◌∷◌, ◌++◌, map, option_map, unwrap_or}
use Rattle.tree_model.specs.Tree.{Notes, TreeOf, block, StatementsOf, no_statements, more_statements, SequenceOf, MethodOf}
use Rattle.tree_model.specs.Path.{part_in, method_replaced}
use Rattle.tree_model.specs.Normal.{normal}
use Rattle.scope_model.specs.FreeNames.{take_statements, drop_statements}
use Rattle.image_model.specs.Image.{EntryOf, ImageOf}
use Rattle.image_model.specs.Lookup.{is_method}
use Rattle.rename_model.specs.ClassRenamed.{WritingOf}
use Rattle.same_trees.specs.SameTrees.{same_code}

-- the statements of both, in order
abbrev pub joined : {N : Type 0} → StatementsOf N → StatementsOf N → StatementsOf N
joined no_statements rs = rs
joined (more_statements c t ss) rs = more_statements c t (joined ss rs)

-- one statement without comments
abbrev pub single : {N : Type 0} → TreeOf N → StatementsOf N
single t = more_statements [] t no_statements

-- comments go to the first of the statements, before its own
abbrev pub noted : {N : Type 0} → Notes → StatementsOf N → StatementsOf N
noted notes no_statements = no_statements
noted notes (more_statements c t ss) = more_statements (notes ++ c) t ss

-- or, where there is no statement, to the end of the sequence, before those that stand there
abbrev pub noted_tail : {N : Type 0} → Notes → StatementsOf N → Notes → Notes
noted_tail notes no_statements tail = notes ++ tail
noted_tail notes (more_statements c t ss) tail = tail

-- the comments of the first of the statements
abbrev pub first_notes : {N : Type 0} → StatementsOf N → Notes
first_notes no_statements = []
first_notes (more_statements c t ss) = c

-- the sequence in which statements stand in place of so many, from the number of the first on; the comments of these go
abbrev pub put_in : {N : Type 0} → (first count : ℕ) → StatementsOf N → SequenceOf N → SequenceOf N
put_in first count new b = record b {
  statements = joined (take_statements first b.statements) (joined new (drop_statements count (drop_statements first b.statements)));
}

-- the sequence in which statements stand in place of one, whose comments go to what then stands there
abbrev pub put_for : {N : Type 0} → ℕ → StatementsOf N → SequenceOf N → SequenceOf N
put_for k new b =
    let old : StatementsOf _ = drop_statements k b.statements in
    let rest : StatementsOf _ = joined new (drop_statements 1 old) in
    record b { statements = joined (take_statements k b.statements) (noted (first_notes old) rest); tail = noted_tail (first_notes old) rest b.tail }

-- a block with another sequence; any other node stays
abbrev pub block_changed : {N : Type 0} → (SequenceOf N → SequenceOf N) → TreeOf N → TreeOf N
block_changed change (block ps ts ss e) =
    let b : SequenceOf _ = change (record { temporaries = ts; statements = ss; tail = e }) in
    block ps b.temporaries b.statements b.tail
block_changed change t = t

-- the method in which the sequence at a path is another: its body at the empty path, and else that of a block
abbrev pub sequence_changed : {N : Type 0} → (SequenceOf N → SequenceOf N) → List ℕ → MethodOf N → MethodOf N
sequence_changed change [] m = record m { body = change m.body }
sequence_changed change (k ∷ ks) m =
    unwrap_or (option_map (λ t. method_replaced m (k ∷ ks) (block_changed change t)) (part_in m.body (k ∷ ks))) m

module _ {N : Type 0} (same : N → N → Bool) (writing : WritingOf N) where
  -- a method with a tree in normal form and its text; where the tree is no other one, the method stays as it is
  abbrev pub retold : EntryOf N → MethodOf N → EntryOf N
  retold m tree = if same_code same m.tree (normal tree) then m else record m { tree = normal tree; source = writing.method_text (normal tree) }

  -- the image in which the user's method of a class, a side and a selector has another tree
  abbrev pub with_tree : N → Bool → N → MethodOf N → ImageOf N → ImageOf N
  with_tree c meta s tree i = record i { methods = map (λ (m : EntryOf _). if is_method same c meta s m && not m.kernel then retold m tree else m) i.methods }
