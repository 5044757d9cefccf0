use Rattle.std.proofs.Common.{◌≡◌, ℕ, ◌+◌, List, ◌++◌, length, drop, sym, ap, ◌∙◌, append_assoc, arith, rules}
use Rattle.std.proofs.lemmas.Grind.{common_steps}
use Rattle.tree_model.specs.Tree.{TreeOf, trees_of}
use Rattle.tree_model.specs.Path.{all_arguments}
use Rattle.tree_model.specs.Nodes.{Placed}
use Rattle.st_tree.specs.View.{messages_of}
use Rattle.st_tree.specs.declared.tree.Message.{Message}
use Rattle.pattern_model.specs.MatchTree.{numbered}
use Rattle.pattern_match.specs.Gathering.{parts_from}
use Rattle.pattern_match.proofs.Searched.{message_parts}
use Rattle.pattern_match.proofs.searching.put_arguments.Goals as goal

pub loop-message-preserved : goal.loop-message-preserved
loop-message-preserved c =
    let l = c.loop-message in
    let m : Message = c.message-item.result in
    let later : ℕ = c.in_ok-later.later in
    let next : later ≡ l.step + length m.arguments = first_of (search rules, grind (arith, common_steps), cc) in
    let rest : List (Placed ℕ) = numbered later (all_arguments (messages_of (drop (l.message-index + 1) c.args.messages.now))) in
    let more : parts_from c.put_nodes.new.parts.items ≡ parts_from l.parts.items ++ numbered l.step (trees_of m.arguments) =
    c.in_ok-put_nodes.ensures ∙ ap (λ (ts : List (TreeOf ℕ)). parts_from l.parts.items ++ numbered l.step (trees_of ts)) c.as_slice.ensures in
    ap (λ (es : List (Placed ℕ)). es ++ rest) more
    ∙ append_assoc (parts_from l.parts.items) (numbered l.step (trees_of m.arguments)) rest
    ∙ ap (λ (es : List (Placed ℕ)). parts_from l.parts.items ++ es) (sym (message_parts c.args.messages.now m l.message-index l.step later c.loop-message-test.true c.message-item.is next))
    ∙ l.invariant
