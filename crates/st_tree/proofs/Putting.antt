-- A tree is put at a place of a list.
use Rattle.std.proofs.Common.{◌≡◌, ℕ, zero, suc, ◌+◌, ◌-◌, ◌<◌, ◌≤◌, List, [], ◌∷◌, length, refl, sym, ◌∙◌, ap, subst, arith, Option, Some, None, slice_get, option_map, unwrap_or, get_or, true, false, ltb, drop, add-one}
use Rattle.std.proofs.Math.ListN.{set}
use Rattle.std.proofs.Math.Seq.{drop-cons}
use Rattle.std.proofs.lemmas.Option.{slice_get_read, slice_get_past, slice_get-get_or}
use Rattle.std.proofs.lemmas.Bool.{lt-ltb, le-ltb}
use Rattle.tree_model.specs.Tree.{TreeOf, var, TreesOf, more_trees, MessagesOf, more_messages, more_statements, trees_of}
use Rattle.tree_model.specs.Path.{nth, statement_trees, count, all_arguments, with_nth, with_statement, with_argument}
use Rattle.tree_model.proofs.Children.{nth-append_left, nth-append_right}
use Rattle.st_tree.specs.View.{statements_of, messages_of}
use Rattle.st_tree.specs.Replaced.{IsPlace, trees_replaced, messages_replaced}
use Rattle.st_tree.specs.declared.tree.Statement.{Statement}
use Rattle.st_tree.specs.declared.tree.Message.{Message}
use Rattle.st_tree.proofs.Places.{nth-trees_of, count-trees_of, nth-statements_of}

-- the tree that was read
pub nth_here : (xs ys : List (TreeOf ℕ)) (k n : ℕ) (t : TreeOf ℕ) → xs ≡ ys → n ≡ length xs → k < n → t ≡ get_or xs k t → nth (trees_of ys) k ≡ Some t
nth_here xs ys k n t e l h r = ap (λ (zs : List (TreeOf ℕ)). nth (trees_of zs) k) (sym e) ∙ nth-trees_of xs k ∙ slice_get_read xs n k t l h r

-- no tree past the end
pub nth_past : (xs ys : List (TreeOf ℕ)) (k n : ℕ) → xs ≡ ys → n ≡ length xs → n ≤ k → nth (trees_of ys) k ≡ None
nth_past xs ys k n e l h = ap (λ (zs : List (TreeOf ℕ)). nth (trees_of zs) k) (sym e) ∙ nth-trees_of xs k ∙ slice_get_past xs k (omega arith)

-- a tree is written
pub trees_of-set : (xs : List (TreeOf ℕ)) (k : ℕ) (u : TreeOf ℕ) → trees_of (set xs k u) ≡ with_nth (trees_of xs) k u
trees_of-set [] k u = refl
trees_of-set (x ∷ xs) zero u = refl
trees_of-set (x ∷ xs) (suc k) u = ap (more_trees x) (trees_of-set xs k u)

-- the statement that was read
pub statement_here : (xs ys : List Statement) (k n : ℕ) (t : Statement) → xs ≡ ys → n ≡ length xs → k < n → t ≡ get_or xs k t → nth (statement_trees (statements_of ys)) k ≡ Some t.node
statement_here xs ys k n t e l h r =
    ap (λ (zs : List Statement). nth (statement_trees (statements_of zs)) k) (sym e) ∙ nth-statements_of xs k ∙ ap (option_map (λ (s : Statement). s.node)) (slice_get_read xs n k t l h r)

-- no statement past the end
pub statement_past : (xs ys : List Statement) (k n : ℕ) → xs ≡ ys → n ≡ length xs → n ≤ k → nth (statement_trees (statements_of ys)) k ≡ None
statement_past xs ys k n e l h =
    ap (λ (zs : List Statement). nth (statement_trees (statements_of zs)) k) (sym e) ∙ nth-statements_of xs k ∙ ap (option_map (λ (s : Statement). s.node)) (slice_get_past xs k (omega arith))

-- an argument, by the place of its message and its place there
pub argument_is : (ms : List Message) (k i j : ℕ) (m : Message) → slice_get ms i ≡ Some m → IsPlace ms k i j → nth (all_arguments (messages_of ms)) k ≡ nth (trees_of m.arguments) j
argument_is [] k i j m e h = absurd h
argument_is (x ∷ ms) k zero j m e h =
    let same : x ≡ m = cc in
    nth-append_left (trees_of x.arguments) (all_arguments (messages_of ms)) k (omega (arith, count-trees_of x.arguments, h.0, h.1))
    ∙ ap (nth (trees_of x.arguments)) h.0 ∙ ap (λ (y : Message). nth (trees_of y.arguments) j) same
argument_is (x ∷ ms) k (suc i) j m e h =
    nth-append_right (trees_of x.arguments) (all_arguments (messages_of ms)) k (k - length x.arguments) (omega (arith, count-trees_of x.arguments, h.0))
    ∙ argument_is ms (k - length x.arguments) i j m e h.1

-- the node of a statement is written
pub statements_of-set : (xs : List Statement) (k : ℕ) (s : Statement) (u : TreeOf ℕ) → slice_get xs k ≡ Some s → statements_of (set xs k (record s { node = u })) ≡ with_statement (statements_of xs) k u
statements_of-set [] k s u e = refl
statements_of-set (x ∷ xs) zero s u e = let same : x ≡ s = cc in ap (λ (y : Statement). more_statements y.comments u (statements_of xs)) (sym same)
statements_of-set (x ∷ xs) (suc k) s u e = ap (more_statements x.comments x.node) (statements_of-set xs k s u e)

-- the first message's arguments are changed
changed_first : (x m : Message) (rest : MessagesOf ℕ) (new : List (TreeOf ℕ)) (k j : ℕ) (u : TreeOf ℕ) → x ≡ m → k ≡ j → trees_of new ≡ with_nth (trees_of m.arguments) j u
    → more_messages m.selector (trees_of new) rest ≡ more_messages x.selector (with_nth (trees_of x.arguments) k u) rest
changed_first x m rest new k j u same e p = rw (same, e) (ap (λ (ts : TreesOf ℕ). more_messages m.selector ts rest) p)

-- the arguments of the message at a place are changed
pub messages_of-set : (ms : List Message) (k i j : ℕ) (m : Message) (new : List (TreeOf ℕ)) (u : TreeOf ℕ) → slice_get ms i ≡ Some m → IsPlace ms k i j
    → trees_of new ≡ with_nth (trees_of m.arguments) j u → messages_of (set ms i (record m { arguments = new })) ≡ with_argument (messages_of ms) k u
messages_of-set [] k i j m new u e h p = absurd h
messages_of-set (x ∷ ms) k zero j m new u e h p =
    let same : x ≡ m = cc in
    let inside : ltb k (count (trees_of x.arguments)) ≡ true = lt-ltb _ _ (omega (arith, count-trees_of x.arguments, h.0, h.1)) in
    rw inside (changed_first x m (messages_of ms) new k j u same h.0 p)
messages_of-set (x ∷ ms) k (suc i) j m new u e h p =
    let outside : ltb k (count (trees_of x.arguments)) ≡ false = le-ltb _ _ (omega (arith, count-trees_of x.arguments, h.0)) in
    rw (outside, count-trees_of x.arguments) (ap (more_messages x.selector (trees_of x.arguments)) (messages_of-set ms (k - length x.arguments) i j m new u e h.1 p))

-- a list after a write
pub after-nodes : (xs ys : List (TreeOf ℕ)) (k : ℕ) (new u : TreeOf ℕ) → xs ≡ ys → new ≡ u → trees_of (set xs k new) ≡ with_nth (trees_of ys) k u
after-nodes xs ys k new u e p = trees_of-set xs k new ∙ ap (λ (zs : List (TreeOf ℕ)). with_nth (trees_of zs) k new) e ∙ ap (with_nth (trees_of ys) k) p

-- statements after a write
pub after-statements : (xs ys : List Statement) (k n : ℕ) (s : Statement) (new u : TreeOf ℕ) → xs ≡ ys → n ≡ length xs → k < n → s ≡ get_or xs k s → new ≡ u
    → statements_of (set xs k (record s { node = new })) ≡ with_statement (statements_of ys) k u
after-statements xs ys k n s new u e l h r p =
    statements_of-set xs k s new (slice_get_read xs n k s l h r) ∙ ap (λ (zs : List Statement). with_statement (statements_of zs) k new) e ∙ ap (with_statement (statements_of ys) k) p

-- the argument that a place names is there
argument_there : (ms : List Message) (k i j : ℕ) (m : Message) → slice_get ms i ≡ Some m → IsPlace ms k i j → j < length m.arguments
argument_there [] k i j m e h = absurd h
argument_there (x ∷ ms) k zero j m e h = let same : x ≡ m = cc in subst (λ (y : Message). j < length y.arguments) same h.1
argument_there (x ∷ ms) k (suc i) j m e h = argument_there ms (k - length x.arguments) i j m e h.1

-- the arguments of one message after the change
after-arguments : (f : TreeOf ℕ → TreeOf ℕ) (o : Option (TreeOf ℕ)) (c : TreeOf ℕ) (new : List (TreeOf ℕ)) (args : TreesOf ℕ) (j : ℕ) → o ≡ Some c
    → trees_of new ≡ unwrap_or (option_map (λ d. with_nth args j (f d)) o) args → trees_of new ≡ with_nth args j (f c)
after-arguments f o c new args j e p = rw e at p

-- the message that was read
pub message_there : (ms ns : List Message) (i : ℕ) (m : Message) → ms ≡ ns → i < length ns → m ≡ get_or ms i m → slice_get ns i ≡ Some m
message_there ms ns i m e h r = rw e at (slice_get_read ms (length ms) i m refl (rw e h) r)

-- messages after the change of one's arguments
pub after-messages : (f : TreeOf ℕ → TreeOf ℕ) (ms ns : List Message) (k i j : ℕ) (m : Message) (new : List (TreeOf ℕ)) → ms ≡ ns → slice_get ns i ≡ Some m → IsPlace ns k i j
    → trees_of new ≡ unwrap_or (option_map (λ c. with_nth (trees_of m.arguments) j (f c)) (nth (trees_of m.arguments) j)) (trees_of m.arguments)
    → messages_of (set ms i (record m { arguments = new })) ≡ unwrap_or (option_map (λ c. with_argument (messages_of ns) k (f c)) (nth (all_arguments (messages_of ns)) k)) (messages_of ns)
after-messages f ms ns k i j m new e there place p =
    let c = get_or m.arguments j (var 0) in
    let has : nth (trees_of m.arguments) j ≡ Some c = nth-trees_of m.arguments j ∙ slice_get-get_or m.arguments j (var 0) (argument_there ns k i j m there place) in
    let argument : nth (all_arguments (messages_of ns)) k ≡ Some c = argument_is ns k i j m there place ∙ has in
    let set_is : messages_of (set ns i (record m { arguments = new })) ≡ with_argument (messages_of ns) k (f c) = messages_of-set ns k i j m new (f c) there place (after-arguments f _ c new _ j has p) in
    rw (e, argument) set_is

-- a place among the messages from i + 1 on
pub place_later : (ms : List Message) (k i left n a j : ℕ) (m : Message) → i < length ms → m ≡ get_or ms i m → n ≡ length m.arguments → n ≤ left
    → ((b j : ℕ) → IsPlace (drop i ms) left b j → IsPlace ms k (i + b) j) → IsPlace (drop (i + 1) ms) (left - n) a j → IsPlace ms k (i + 1 + a) j
place_later ms k i left n a j m h r l le keeps p =
    let now : drop i ms ≡ m ∷ drop (i + 1) ms = rw (add-one, drop-cons ms i m, ← r) in
    let later : IsPlace (m ∷ drop (i + 1) ms) left (suc a) j = (omega arith, rw l at p) in
    let at : i + suc a ≡ i + 1 + a = omega arith in
    rw at at (keeps (suc a) j (rw now later))
