-- What stands right below a node of the program, and the abstract tree of a node with another part there.
use Rattle.std.proofs.Common.{◌≡◌, ℕ, zero, suc, ◌-◌, Bool, true, false, List, [], ◌∷◌, length, refl, sym, ◌∙◌, ap, arith, Some, slice_get, slice_set, nat_lt, cond}
use Rattle.std.proofs.lemmas.Bool.{lt-ltb, le-ltb}
use Rattle.tree_model.specs.Tree.{TreeOf, send, cascade, block, brace, more_messages, more_statements, trees_of}
use Rattle.tree_model.specs.Path.{nth, statement_trees, child, with_child, with_argument, with_statement, with_nth}
use Rattle.st_tree.specs.View.{tree_of, messages_of, statements_of}
use Rattle.st_tree.specs.Replaced.{IsPlace}
use Rattle.st_tree.specs.declared.tree.Message.{Message}
use Rattle.st_tree.specs.declared.tree.Statement.{Statement}
use Rattle.st_tree.specs.declared.tree.Sequence.{Sequence}
use Rattle.st_tree.specs.declared.tree.NodeKind.{NodeKind}
use Rattle.st_tree.specs.declared.tree.NodeKind.TheVariants as kind
use Rattle.st_tree.proofs.Places.{count-trees_of, nth-trees_of}
use Rattle.st_tree.proofs.Putting.{trees_of-set}
use Rattle.tree_lending.specs.Kinds.{statements_with, sequence_with, messages_with, kind_with, body_of, with_body, is_cascade, is_brace, is_block, send_child, send_with, brace_child, brace_with, block_child, block_with}

-- abstract statements with another node
pub statements_of-with : (ss : List Statement) (k : ℕ) (u : TreeOf ℕ) → statements_of (statements_with ss k u) ≡ with_statement (statements_of ss) k u
statements_of-with [] k u = refl
statements_of-with (s ∷ ss) zero u = refl
statements_of-with (s ∷ ss) (suc k) u = ap (more_statements s.comments s.node) (statements_of-with ss k u)

-- abstract messages with another argument
messages_of-with : (ms : List Message) (k : ℕ) (u : TreeOf ℕ) → messages_of (messages_with ms k u) ≡ with_argument (messages_of ms) k u
messages_of-with [] k u = refl
messages_of-with (m ∷ ms) k u = rw (count-trees_of m.arguments) (by (nat_lt k (length m.arguments)) (messages_of-with ms (k - length m.arguments) u))
  where
    by : (b : Bool) → messages_of (messages_with ms (k - length m.arguments) u) ≡ with_argument (messages_of ms) (k - length m.arguments) u
        → messages_of (cond b (record m { arguments = slice_set m.arguments k u } ∷ ms) (m ∷ messages_with ms (k - length m.arguments) u))
        ≡ cond b (more_messages m.selector (with_nth (trees_of m.arguments) k u) (messages_of ms)) (more_messages m.selector (trees_of m.arguments) (with_argument (messages_of ms) (k - length m.arguments) u))
    by true later = ap (λ ts. more_messages m.selector ts (messages_of ms)) (trees_of-set m.arguments k u)
    by false later = ap (more_messages m.selector (trees_of m.arguments)) later

-- an abstract tree with another child
pub tree_of-kind_with : (a : NodeKind) (k : ℕ) (u : TreeOf ℕ) → tree_of (kind_with a k u) ≡ with_child (tree_of a) k u
tree_of-kind_with (kind.Var n) k u = refl
tree_of-kind_with (kind.Literal l) k u = refl
tree_of-kind_with (kind.Send r s args) zero u = refl
tree_of-kind_with (kind.Send r s args) (suc k) u = ap (send r.value s) (trees_of-set args k u)
tree_of-kind_with (kind.Cascade r ms) zero u = refl
tree_of-kind_with (kind.Cascade r ms) (suc k) u = ap (cascade r.value) (messages_of-with ms k u)
tree_of-kind_with (kind.Assign n t) zero u = refl
tree_of-kind_with (kind.Assign n t) (suc k) u = refl
tree_of-kind_with (kind.Block ps body) k u = ap (λ ss. block ps body.value.temporaries ss body.value.tail) (statements_of-with body.value.statements k u)
tree_of-kind_with (kind.Brace ts) k u = ap brace (trees_of-set ts k u)
tree_of-kind_with (kind.Return t) zero u = refl
tree_of-kind_with (kind.Return t) (suc k) u = refl

-- a statement is written with another node
pub statements_with-set : (ss : List Statement) (k : ℕ) (s : Statement) (u : TreeOf ℕ) → slice_get ss k ≡ Some s → slice_set ss k (record s { node = u }) ≡ statements_with ss k u
statements_with-set [] k s u e = refl
statements_with-set (x ∷ ss) zero s u e = let same : x ≡ s = cc in ap (λ (y : Statement). record y { node = u } ∷ ss) (sym same)
statements_with-set (x ∷ ss) (suc k) s u e = ap (λ (r : List Statement). x ∷ r) (statements_with-set ss k s u e)

-- nothing changes where the item that is there is written
pub set_back : {X : Type 0} (xs : List X) (k : ℕ) (x : X) → slice_get xs k ≡ Some x → slice_set xs k x ≡ xs
set_back [] k x e = refl
set_back {X} (y ∷ xs) zero x e = let same : y ≡ x = cc in ap (λ (z : X). z ∷ xs) (sym same)
set_back {X} (y ∷ xs) (suc k) x e = ap (λ (zs : List X). y ∷ zs) (set_back xs k x e)

-- a block with another statement
pub with_body-statement : (a : NodeKind) (b : Sequence) (k : ℕ) (u : TreeOf ℕ) → body_of a ≡ Some b → with_body a (sequence_with b k u) ≡ block_with a k u
with_body-statement (kind.Block ps body) b k u e =
    let same : body.value ≡ b = cc in ap (λ (c : Sequence). kind.Block ps (record body { value = sequence_with c k u })) (sym same)
with_body-statement (kind.Var n) b k u e = cc
with_body-statement (kind.Literal l) b k u e = cc
with_body-statement (kind.Send r s args) b k u e = cc
with_body-statement (kind.Cascade r ms) b k u e = cc
with_body-statement (kind.Assign n t) b k u e = cc
with_body-statement (kind.Brace ts) b k u e = cc
with_body-statement (kind.Return t) b k u e = cc

-- nothing changes where a block's own body is put back
pub with_body-back : (a : NodeKind) (b : Sequence) → body_of a ≡ Some b → with_body a b ≡ a
with_body-back (kind.Block ps body) b e = let same : body.value ≡ b = cc in ap (λ (c : Sequence). kind.Block ps (record body { value = c })) (sym same)
with_body-back (kind.Var n) b e = cc
with_body-back (kind.Literal l) b e = cc
with_body-back (kind.Send r s args) b e = cc
with_body-back (kind.Cascade r ms) b e = cc
with_body-back (kind.Assign n t) b e = cc
with_body-back (kind.Brace ts) b e = cc
with_body-back (kind.Return t) b e = cc

-- the node of a statement of a block
pub block_child-body : (a : NodeKind) (b : Sequence) (k : ℕ) → body_of a ≡ Some b → nth (statement_trees (statements_of b.statements)) k ≡ block_child a k
block_child-body (kind.Block ps body) b k e = let same : body.value ≡ b = cc in ap (λ (c : Sequence). nth (statement_trees (statements_of c.statements)) k) (sym same)
block_child-body (kind.Var n) b k e = cc
block_child-body (kind.Literal l) b k e = cc
block_child-body (kind.Send r s args) b k e = cc
block_child-body (kind.Cascade r ms) b k e = cc
block_child-body (kind.Assign n t) b k e = cc
block_child-body (kind.Brace ts) b k e = cc
block_child-body (kind.Return t) b k e = cc

-- a brace array with another item
pub brace_with-kind : (a : NodeKind) (k : ℕ) (u : TreeOf ℕ) → is_brace a ≡ true → brace_with a k u ≡ kind_with a k u
brace_with-kind (kind.Brace ts) k u e = refl
brace_with-kind (kind.Block ps body) k u e = cc
brace_with-kind (kind.Var n) k u e = cc
brace_with-kind (kind.Literal l) k u e = cc
brace_with-kind (kind.Send r s args) k u e = cc
brace_with-kind (kind.Cascade r ms) k u e = cc
brace_with-kind (kind.Assign n t) k u e = cc
brace_with-kind (kind.Return t) k u e = cc

-- an item of a brace array is a child
pub brace_child-child : (a : NodeKind) (k : ℕ) → is_brace a ≡ true → brace_child a k ≡ child (tree_of a) k
brace_child-child (kind.Brace ts) k e = sym (nth-trees_of ts k)
brace_child-child (kind.Block ps body) k e = cc
brace_child-child (kind.Var n) k e = cc
brace_child-child (kind.Literal l) k e = cc
brace_child-child (kind.Send r s args) k e = cc
brace_child-child (kind.Cascade r ms) k e = cc
brace_child-child (kind.Assign n t) k e = cc
brace_child-child (kind.Return t) k e = cc

-- a node that is no cascade, no brace array and no block, with another argument
pub send_with-kind : (a : NodeKind) (k : ℕ) (u : TreeOf ℕ) → is_brace a ≡ false → is_block a ≡ false → is_cascade a ≡ false → send_with a k u ≡ kind_with a (suc k) u
send_with-kind (kind.Brace ts) k u e f g = cc
send_with-kind (kind.Block ps body) k u e f g = cc
send_with-kind (kind.Var n) k u e f g = refl
send_with-kind (kind.Literal l) k u e f g = refl
send_with-kind (kind.Send r s args) k u e f g = refl
send_with-kind (kind.Cascade r ms) k u e f g = cc
send_with-kind (kind.Assign n t) k u e f g = refl
send_with-kind (kind.Return t) k u e f g = refl

-- an argument of a send is a child
pub send_child-child : (a : NodeKind) (k : ℕ) → is_brace a ≡ false → is_block a ≡ false → is_cascade a ≡ false → send_child a k ≡ child (tree_of a) (suc k)
send_child-child (kind.Brace ts) k e f g = cc
send_child-child (kind.Block ps body) k e f g = cc
send_child-child (kind.Var n) k e f g = refl
send_child-child (kind.Literal l) k e f g = refl
send_child-child (kind.Send r s args) k e f g = sym (nth-trees_of args k)
send_child-child (kind.Cascade r ms) k e f g = cc
send_child-child (kind.Assign n t) k e f g = refl
send_child-child (kind.Return t) k e f g = refl

-- an argument at its place is written
pub messages_with-set : (ms : List Message) (k i j : ℕ) (m : Message) (args : List (TreeOf ℕ)) (u : TreeOf ℕ) → slice_get ms i ≡ Some m → IsPlace ms k i j → m.arguments ≡ args
    → slice_set ms i (record m { arguments = slice_set args j u }) ≡ messages_with ms k u
messages_with-set [] k i j m args u e h d = absurd h
messages_with-set (x ∷ ms) k zero j m args u e h d =
    let same : x ≡ m = cc in
    let inside : nat_lt k (length x.arguments) ≡ true = lt-ltb _ _ (omega (arith, h.0, h.1)) in
    rw inside (λ i. record (sym same i) { arguments = slice_set ((sym d ∙ ap (λ (y : Message). y.arguments) (sym same)) i) (sym h.0 i) u } ∷ ms)
messages_with-set (x ∷ ms) k (suc i) j m args u e h d =
    let outside : nat_lt k (length x.arguments) ≡ false = le-ltb _ _ h.0 in
    rw outside (ap (λ (r : List Message). x ∷ r) (messages_with-set ms (k - length x.arguments) i j m args u e h.1 d))
