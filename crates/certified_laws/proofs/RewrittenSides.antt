-- What laws of rewriting do to trees with names they do to the trees whose names are resolved.
use Rattle.std.proofs.Common.{◌≡◌, List, length, refl}
use Rattle.std.specs.Prelude.{true, false, codes}
use Rattle.scope_model.specs.SpecialNames.{is_pseudo_variable}
use Rattle.tree_model.specs.Tree.{TreeOf, TreesOf, MessagesOf, StatementsOf}
use Rattle.image_model.specs.Means.{MeaningOf}
use Rattle.run_model.specs.Values.{Name}
use Rattle.resolved_model.specs.ResolvedTrees.{sending, cascading, assigning, block_of, brace_of, returning, more_nodes, more_sends, more_lines}
use Rattle.resolved_model.specs.Environments.{Declared, opened, reference_in, target_in, tree_in, trees_in, messages_in, statements_in}
use Rattle.certified_laws.specs.ControlLaws.{plain_block, block_of_one, block_of_word, if_true, if_false, if_true_false, if_false_true, both_of, either_of, to_self, both_to_self}
use Rattle.certified_laws.specs.EditedTrees.{EditedTree, as_reading, as_constant, as_sending, as_cascading, as_assigning, as_block, as_brace, as_returning, by_law, law_1, law_2, law_3, law_4, law_5, law_6, law_7, law_8, law_10, EditedTrees, none_edited, more_edited, EditedMessages, no_sends_edited, more_sends_edited, EditedLines, no_lines_edited, more_lines_edited, law_9, tree_at, trees_at, messages_at, lines_at}
use Rattle.certified_laws.specs.RewrittenTrees.{Rewritten, same_var, same_literal, in_send, in_cascade, in_assign, in_block, in_brace, in_return, forth_1, back_1, forth_2, back_2, forth_3, back_3, forth_4, back_4, forth_5, back_5, forth_6, back_6, forth_7, back_7, forth_8, back_8, forth_10, back_10, EachRewritten, none_rewritten, then_rewritten, MessagesRewritten, no_message_rewritten, message_rewritten, LinesRewritten, no_line_rewritten, line_rewritten, forth_9, back_9}

-- g is what names mean outside all scopes
module _ (g : Name → MeaningOf Name) where
  -- an edited tree whose sides are these trees, once names are resolved
  abbrev pub TreeSides : List Declared → TreeOf Name → TreeOf Name → Type 0
  TreeSides env t u = (x : EditedTree) × (tree_at true x ≡ tree_in g env t) × (tree_at false x ≡ tree_in g env u)

  abbrev pub TreesSides : List Declared → TreesOf Name → TreesOf Name → Type 0
  TreesSides env t u = (x : EditedTrees) × (trees_at true x ≡ trees_in g env t) × (trees_at false x ≡ trees_in g env u)

  abbrev pub MessagesSides : List Declared → MessagesOf Name → MessagesOf Name → Type 0
  MessagesSides env t u = (x : EditedMessages) × (messages_at true x ≡ messages_in g env t) × (messages_at false x ≡ messages_in g env u)

  abbrev pub LinesSides : List Declared → StatementsOf Name → StatementsOf Name → Type 0
  LinesSides env t u = (x : EditedLines) × (lines_at true x ≡ statements_in g env t) × (lines_at false x ≡ statements_in g env u)

  mutual
    unfolding is_pseudo_variable

    pub tree-sides : (env : List Declared) {t u : TreeOf Name} → Rewritten t u → TreeSides env t u
    tree-sides env (same_var n) = (as_reading (reference_in env (g n) n), refl, refl)
    tree-sides env (same_literal l) = (as_constant l, refl, refl)
    tree-sides env (in_send r s args) =
        let a = tree-sides env r in
        let b = trees-sides env args in
        (as_sending a.0 s b.0, (λ at. sending (a.1 at) s (b.1 at)), (λ at. sending (a.2 at) s (b.2 at)))
    tree-sides env (in_cascade r ms) =
        let a = tree-sides env r in
        let b = messages-sides env ms in
        (as_cascading a.0 b.0, (λ at. cascading (a.1 at) (b.1 at)), (λ at. cascading (a.2 at) (b.2 at)))
    tree-sides env (in_assign n t) =
        let a = tree-sides env t in
        (as_assigning (target_in env (g n) n) a.0, (λ at. assigning (target_in env (g n) n) (a.1 at)), (λ at. assigning (target_in env (g n) n) (a.2 at)))
    tree-sides env (in_block ps ts e e' ss) =
        let a = lines-sides (opened ps ts env) ss in
        (as_block (length ps) (length ts) a.0, (λ at. block_of (length ps) (length ts) (a.1 at)), (λ at. block_of (length ps) (length ts) (a.2 at)))
    tree-sides env (in_brace ts) =
        let a = trees-sides env ts in
        (as_brace a.0, (λ at. brace_of (a.1 at)), (λ at. brace_of (a.2 at)))
    tree-sides env (in_return t) =
        let a = tree-sides env t in
        (as_returning a.0, (λ at. returning (a.1 at)), (λ at. returning (a.2 at)))
    tree-sides env (forth_1 d e f g hc hs ht) =
        let c = tree-sides env hc in
        let s = lines-sides env hs in
        let t = lines-sides env ht in
        (by_law true (law_1 c.0 s.0 t.0), (λ at. if_true_false (c.1 at) (plain_block (s.1 at)) (plain_block (t.1 at))), (λ at. if_false_true (c.2 at) (plain_block (t.2 at)) (plain_block (s.2 at))))
    tree-sides env (back_1 d e f g hc hs ht) =
        let c = tree-sides env hc in
        let s = lines-sides env hs in
        let t = lines-sides env ht in
        (by_law false (law_1 c.0 s.0 t.0), (λ at. if_false_true (c.1 at) (plain_block (t.1 at)) (plain_block (s.1 at))), (λ at. if_true_false (c.2 at) (plain_block (s.2 at)) (plain_block (t.2 at))))
    tree-sides env (forth_2 d e f g hc hs) =
        let c = tree-sides env hc in
        let s = lines-sides env hs in
        (by_law true (law_2 c.0 s.0), (λ at. if_true (c.1 at) (plain_block (s.1 at))), (λ at. if_true_false (c.2 at) (plain_block (s.2 at)) (block_of_word (codes "nil"))))
    tree-sides env (back_2 d e f g hc hs) =
        let c = tree-sides env hc in
        let s = lines-sides env hs in
        (by_law false (law_2 c.0 s.0), (λ at. if_true_false (c.1 at) (plain_block (s.1 at)) (block_of_word (codes "nil"))), (λ at. if_true (c.2 at) (plain_block (s.2 at))))
    tree-sides env (forth_3 d e f g hc hs) =
        let c = tree-sides env hc in
        let s = lines-sides env hs in
        (by_law true (law_3 c.0 s.0), (λ at. if_false (c.1 at) (plain_block (s.1 at))), (λ at. if_true_false (c.2 at) (block_of_word (codes "nil")) (plain_block (s.2 at))))
    tree-sides env (back_3 d e f g hc hs) =
        let c = tree-sides env hc in
        let s = lines-sides env hs in
        (by_law false (law_3 c.0 s.0), (λ at. if_true_false (c.1 at) (block_of_word (codes "nil")) (plain_block (s.1 at))), (λ at. if_false (c.2 at) (plain_block (s.2 at))))
    tree-sides env (forth_4 d e f g hc hs) =
        let c = tree-sides env hc in
        let s = lines-sides env hs in
        (by_law true (law_4 c.0 s.0), (λ at. both_of (c.1 at) (plain_block (s.1 at))), (λ at. if_true_false (c.2 at) (plain_block (s.2 at)) (block_of_word (codes "false"))))
    tree-sides env (back_4 d e f g hc hs) =
        let c = tree-sides env hc in
        let s = lines-sides env hs in
        (by_law false (law_4 c.0 s.0), (λ at. if_true_false (c.1 at) (plain_block (s.1 at)) (block_of_word (codes "false"))), (λ at. both_of (c.2 at) (plain_block (s.2 at))))
    tree-sides env (forth_5 d e f g hc hs) =
        let c = tree-sides env hc in
        let s = lines-sides env hs in
        (by_law true (law_5 c.0 s.0), (λ at. either_of (c.1 at) (plain_block (s.1 at))), (λ at. if_true_false (c.2 at) (block_of_word (codes "true")) (plain_block (s.2 at))))
    tree-sides env (back_5 d e f g hc hs) =
        let c = tree-sides env hc in
        let s = lines-sides env hs in
        (by_law false (law_5 c.0 s.0), (λ at. if_true_false (c.1 at) (block_of_word (codes "true")) (plain_block (s.1 at))), (λ at. either_of (c.2 at) (plain_block (s.2 at))))
    tree-sides env (forth_6 d e f g hc hs) =
        let c = tree-sides env hc in
        let s = lines-sides env hs in
        (by_law true (law_6 c.0 s.0), (λ at. if_false (c.1 at) (plain_block (s.1 at))), (λ at. if_false_true (c.2 at) (plain_block (s.2 at)) (block_of_word (codes "nil"))))
    tree-sides env (back_6 d e f g hc hs) =
        let c = tree-sides env hc in
        let s = lines-sides env hs in
        (by_law false (law_6 c.0 s.0), (λ at. if_false_true (c.1 at) (plain_block (s.1 at)) (block_of_word (codes "nil"))), (λ at. if_false (c.2 at) (plain_block (s.2 at))))
    tree-sides env (forth_7 d e f g h i j k hx hy hz) =
        let x = tree-sides env hx in
        let y = tree-sides env hy in
        let z = tree-sides env hz in
        (by_law true (law_7 x.0 y.0 z.0), (λ at. both_of (both_of (x.1 at) (block_of_one (y.1 at))) (block_of_one (z.1 at))), (λ at. both_of (x.2 at) (block_of_one (both_of (y.2 at) (block_of_one (z.2 at))))))
    tree-sides env (back_7 d e f g h i j k hx hy hz) =
        let x = tree-sides env hx in
        let y = tree-sides env hy in
        let z = tree-sides env hz in
        (by_law false (law_7 x.0 y.0 z.0), (λ at. both_of (x.1 at) (block_of_one (both_of (y.1 at) (block_of_one (z.1 at))))), (λ at. both_of (both_of (x.2 at) (block_of_one (y.2 at))) (block_of_one (z.2 at))))
    tree-sides env (forth_8 d e f g h i j k hx hy hz) =
        let x = tree-sides env hx in
        let y = tree-sides env hy in
        let z = tree-sides env hz in
        (by_law true (law_8 x.0 y.0 z.0), (λ at. either_of (either_of (x.1 at) (block_of_one (y.1 at))) (block_of_one (z.1 at))), (λ at. either_of (x.2 at) (block_of_one (either_of (y.2 at) (block_of_one (z.2 at))))))
    tree-sides env (back_8 d e f g h i j k hx hy hz) =
        let x = tree-sides env hx in
        let y = tree-sides env hy in
        let z = tree-sides env hz in
        (by_law false (law_8 x.0 y.0 z.0), (λ at. either_of (x.1 at) (block_of_one (either_of (y.1 at) (block_of_one (z.1 at))))), (λ at. either_of (either_of (x.2 at) (block_of_one (y.2 at))) (block_of_one (z.2 at))))
    tree-sides env (forth_10 d e f g h i j k hc hx hy) =
        let c = tree-sides env hc in
        let x = tree-sides env hx in
        let y = tree-sides env hy in
        (by_law true (law_10 c.0 x.0 y.0), (λ at. if_true_false (c.1 at) (block_of_one (returning (x.1 at))) (block_of_one (returning (y.1 at)))), (λ at. returning (if_true_false (c.2 at) (block_of_one (x.2 at)) (block_of_one (y.2 at)))))
    tree-sides env (back_10 d e f g h i j k hc hx hy) =
        let c = tree-sides env hc in
        let x = tree-sides env hx in
        let y = tree-sides env hy in
        (by_law false (law_10 c.0 x.0 y.0), (λ at. returning (if_true_false (c.1 at) (block_of_one (x.1 at)) (block_of_one (y.1 at)))), (λ at. if_true_false (c.2 at) (block_of_one (returning (x.2 at))) (block_of_one (returning (y.2 at)))))

    trees-sides : (env : List Declared) {t u : TreesOf Name} → EachRewritten t u → TreesSides env t u
    trees-sides env none_rewritten = (none_edited, refl, refl)
    trees-sides env (then_rewritten t ts) =
        let a = tree-sides env t in
        let b = trees-sides env ts in
        (more_edited a.0 b.0, (λ at. more_nodes (a.1 at) (b.1 at)), (λ at. more_nodes (a.2 at) (b.2 at)))

    messages-sides : (env : List Declared) {t u : MessagesOf Name} → MessagesRewritten t u → MessagesSides env t u
    messages-sides env no_message_rewritten = (no_sends_edited, refl, refl)
    messages-sides env (message_rewritten s args ms) =
        let a = trees-sides env args in
        let b = messages-sides env ms in
        (more_sends_edited s a.0 b.0, (λ at. more_sends s (a.1 at) (b.1 at)), (λ at. more_sends s (a.2 at) (b.2 at)))

    pub lines-sides : (env : List Declared) {t u : StatementsOf Name} → LinesRewritten t u → LinesSides env t u
    lines-sides env no_line_rewritten = (no_lines_edited, refl, refl)
    lines-sides env (line_rewritten c c' t ss) =
        let a = tree-sides env t in
        let b = lines-sides env ss in
        (more_lines_edited a.0 b.0, (λ at. more_lines (a.1 at) (b.1 at)), (λ at. more_lines (a.2 at) (b.2 at)))
    lines-sides env (forth_9 c d e m n ss) =
        let a = lines-sides env ss in
        (law_9 true m n a.0, (λ at. more_lines (both_to_self m n) (a.1 at)), (λ at. more_lines (to_self m) (more_lines (to_self n) (a.2 at))))
    lines-sides env (back_9 c d e m n ss) =
        let a = lines-sides env ss in
        (law_9 false m n a.0, (λ at. more_lines (to_self m) (more_lines (to_self n) (a.1 at))), (λ at. more_lines (both_to_self m n) (a.2 at)))
