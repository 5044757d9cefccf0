-- What the walk over a body uses.
use Rattle.std.proofs.Common.{◌≡◌, ℕ, suc, ◌+◌, ◌<◌, List, ◌∷◌, ◌++◌, length, drop, get_or, arith, sym, ap, ◌∙◌, append_assoc}
use Rattle.std.proofs.Math.Seq.{drop-cons}
use Rattle.tree_model.specs.Tree.{trees_of}
use Rattle.tree_model.specs.Path.{count}
use Rattle.tree_model.specs.Nodes.{Placed}
use Rattle.st_tree.specs.declared.tree.Message.{Message}
use Rattle.st_tree.specs.View.{messages_of}
use Rattle.st_tree.proofs.Places.{count-trees_of}
use Rattle.st_scope.proofs.Weights.{weight-tree, weight-message, weight-statement}
use Rattle.placed_nodes.specs.Placing.{in_trees, in_messages}

pub ruleset walk_lemmas = (weight-tree, weight-message, weight-statement, count-trees_of)

-- a message of a cascade, and those behind it
pub next-message : (p : List ℕ) (ms : List Message) (i first next len : ℕ) (m : Message) (before after start : List (Placed ℕ))
    → i < length ms → m ≡ get_or ms i m → next ≡ first + len → len ≡ length m.arguments → after ≡ before ++ in_trees p first (trees_of m.arguments)
    → before ++ in_messages p first (messages_of (drop i ms)) ≡ start → after ++ in_messages p next (messages_of (drop (i + 1) ms)) ≡ start
next-message p ms i first next len m before after start h is n l e s =
    let later : i + 1 ≡ suc i = omega arith in
    let here : drop i ms ≡ m ∷ drop (suc i) ms = drop-cons ms i m h ∙ ap (λ (x : Message). x ∷ drop (suc i) ms) (sym is) in
    let there : next ≡ first + count (trees_of m.arguments) = omega (arith, count-trees_of m.arguments) in
    (λ j. e j ++ in_messages p (there j) (messages_of (drop (later j) ms)))
    ∙ append_assoc before (in_trees p first (trees_of m.arguments)) (in_messages p (first + count (trees_of m.arguments)) (messages_of (drop (suc i) ms)))
    ∙ ap (λ (xs : List Message). before ++ in_messages p first (messages_of xs)) (sym here)
    ∙ s
