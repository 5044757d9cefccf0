-- Nodes that are changed one by one to what may stand in their places.
use Rattle.std.proofs.Common.{List, [], ◌∷◌}
use Rattle.std.specs.Prelude.{Bool, true, false, if◌then◌else◌, map}
use Rattle.tree_model.specs.Tree.{TreeOf, var, literal, send, cascade, assign, block, brace, return, TreesOf, no_trees, more_trees, MessagesOf, no_messages, more_messages, StatementsOf, no_statements, more_statements}
use Rattle.tree_model.specs.Bare.{bare, bare_trees, bare_messages, bare_statements}
use Rattle.pattern_model.specs.Patterns.{MetaOf, PatternOf, meta, var_like, literal_like, send_like, cascade_like, assign_like, block_like, brace_like, return_like}
use Rattle.pattern_model.specs.Bindings.{BoundOf, a_part, a_run, a_selector, a_keyword, a_message, BindingOf, same_meta, bound_of}
use Rattle.pattern_model.specs.Rewritten.{each_tree, each_argument, each_statement, each_child, each_bound, each_doubled, in_match}
use Rattle.file_model.specs.Filing.{Text}
use Rattle.rule_kept.proofs.Kept.{Kept, kept_itself, KeptAll, all_itself, all_more, KeptMessages, messages_itself, messages_more, KeptLines, lines_itself, lines_more, kept_send, kept_cascade, kept_assign, kept_block, kept_brace, kept_return}
use Rattle.rule_kept.proofs.FilledKept.{EachKept, none_kept, then_kept, BoundKept, part_kept, run_kept, selector_kept, keyword_kept, message_kept}

-- what a change makes of each node may stand in its place
abbrev pub KeepsAll : (TreeOf Text → TreeOf Text) → Type 0
KeepsAll f = (t : TreeOf Text) → Kept (bare t) (bare (f t))

-- statements one by one
each_lines : {ss rs : StatementsOf Text} → EachKept ss rs → KeptLines ss rs
each_lines none_kept = lines_itself no_statements
each_lines (then_kept {t} {u} {ss} {rs} h hs) = lines_more t u ss rs h (each_lines hs)

each_itself : (ss : StatementsOf Text) → EachKept (bare_statements ss) (bare_statements ss)
each_itself no_statements = none_kept
each_itself (more_statements c t ss) = then_kept (kept_itself (bare t)) (each_itself ss)

module _ (f : TreeOf Text → TreeOf Text) (h : KeepsAll f) where
  trees_changed : (ts : TreesOf Text) → KeptAll (bare_trees ts) (bare_trees (each_tree f ts))
  trees_changed no_trees = all_itself no_trees
  trees_changed (more_trees t ts) = all_more (bare t) (bare (f t)) (bare_trees ts) (bare_trees (each_tree f ts)) (h t) (trees_changed ts)

  messages_changed : (ms : MessagesOf Text) → KeptMessages (bare_messages ms) (bare_messages (each_argument f ms))
  messages_changed no_messages = messages_itself no_messages
  messages_changed (more_messages s ts ms) =
      messages_more s (bare_trees ts) (bare_trees (each_tree f ts)) (bare_messages ms) (bare_messages (each_argument f ms)) (trees_changed ts) (messages_changed ms)

  each_changed : (ss : StatementsOf Text) → EachKept (bare_statements ss) (bare_statements (each_statement f ss))
  each_changed no_statements = none_kept
  each_changed (more_statements c t ss) = then_kept (h t) (each_changed ss)

  pub statements_changed : (ss : StatementsOf Text) → KeptLines (bare_statements ss) (bare_statements (each_statement f ss))
  statements_changed ss = each_lines (each_changed ss)

  pub child_changed : KeepsAll (each_child f)
  child_changed (var n) = kept_itself (var n)
  child_changed (literal l) = kept_itself (literal l)
  child_changed (send r s ts) = kept_send (bare r) (bare (f r)) s (bare_trees ts) (bare_trees (each_tree f ts)) (h r) (trees_changed ts)
  child_changed (cascade r ms) = kept_cascade (bare r) (bare (f r)) (bare_messages ms) (bare_messages (each_argument f ms)) (h r) (messages_changed ms)
  child_changed (assign n t) = kept_assign n (bare t) (bare (f t)) (h t)
  child_changed (block ps ts ss e) = kept_block ps ts (bare_statements ss) (bare_statements (each_statement f ss)) (statements_changed ss)
  child_changed (brace ts) = kept_brace (bare_trees ts) (bare_trees (each_tree f ts)) (trees_changed ts)
  child_changed (return t) = kept_return (bare t) (bare (f t)) (h t)

  bound_changed : (b : BoundOf Text) → BoundKept b (each_bound f b)
  bound_changed (a_part t) = part_kept (h t)
  bound_changed (a_run ss) = run_kept (each_changed ss)
  bound_changed (a_selector s) = selector_kept s
  bound_changed (a_keyword k) = keyword_kept k
  bound_changed (a_message s ts) = message_kept s (trees_changed ts)

  bound_stays : (b : BoundOf Text) → BoundKept b b
  bound_stays (a_part t) = part_kept (kept_itself (bare t))
  bound_stays (a_run ss) = run_kept (each_itself ss)
  bound_stays (a_selector s) = selector_kept s
  bound_stays (a_keyword k) = keyword_kept k
  bound_stays (a_message s ts) = message_kept s (all_itself (bare_trees ts))

  -- by whether the metavariable is the one, and by whether it is doubled
  pick : (c : Bool) (v w x y : BoundOf Text) → BoundKept v w → BoundKept x y → BoundKept (if c then v else x) (if c then w else y)
  pick true v w x y p q = p
  pick false v w x y p q = q

  bound_by : (same : Text → Text → Bool) (b : BindingOf Text) (d : Bool) (m : MetaOf Text) (x y : BoundOf Text) → BoundKept x y →
      BoundKept (if same_meta same b.meta m then b.bound else x)
      (if same_meta same (if d then record b { bound = each_bound f b.bound } else b).meta m then (if d then record b { bound = each_bound f b.bound } else b).bound else y)
  bound_by same b true m x y k = pick (same_meta same b.meta m) b.bound (each_bound f b.bound) x y (bound_changed b.bound) k
  bound_by same b false m x y k = pick (same_meta same b.meta m) b.bound b.bound x y (bound_stays b.bound) k

  pub bindings_changed : (same : Text → Text → Bool) (bs : List (BindingOf Text)) (m : MetaOf Text) → BoundKept (bound_of same bs m) (bound_of same (map (each_doubled f) bs) m)
  bindings_changed same [] m = part_kept (kept_itself (var m.name))
  bindings_changed same (b ∷ bs) m = bound_by same b b.meta.doubled m _ _ (bindings_changed same bs m)

-- in the parts of a match
pub match_changed : (p : PatternOf Text) (f : TreeOf Text → TreeOf Text) → KeepsAll f → KeepsAll (in_match p f)
match_changed (meta m) f h = child_changed f h
match_changed (var_like n) f h = h
match_changed (literal_like l) f h = h
match_changed (send_like r s ps) f h = h
match_changed (cascade_like r ms) f h = h
match_changed (assign_like n q) f h = h
match_changed (block_like ps ts ss e) f h = h
match_changed (brace_like ps) f h = h
match_changed (return_like q) f h = h
