-- Steps on the patterns that trees over marks are of: none, steps that change comments, and steps where a path leads.
use Rattle.std.proofs.Common.{ℕ, zero, suc, ◌-◌, List, [], ◌∷◌, Option, Some, None}
use Rattle.std.specs.Prelude.{Bool, true, false, if◌then◌else◌, nat_lt, map, option_map, unwrap_or}
use Rattle.tree_model.specs.Tree.{TreeOf, var, literal, send, cascade, assign, block, brace, return, TreesOf, no_trees, more_trees, MessagesOf, no_messages, more_messages, StatementsOf, no_statements, more_statements}
use Rattle.tree_model.specs.Bare.{bare, bare_trees, bare_messages, bare_statements}
use Rattle.tree_model.specs.Path.{count, child, with_nth, with_statement, with_argument, with_child, replaced}
use Rattle.run_model.specs.Values.{Name}
use Rattle.pattern_model.specs.Patterns.{PatternOf, meta, var_like, literal_like, send_like, cascade_like, assign_like, block_like, brace_like, return_like, PatternsOf, no_patterns, more_patterns, MessagesLike, no_messages_like, more_messages_like, StatementsLike, no_statements_like, more_statements_like}
use Rattle.certified_model.specs.LawSteps.{Stepped, same_meta_step, same_var_step, same_literal_step, in_send_step, in_cascade_step, in_assign_step, in_block_step, in_brace_step, in_return_step, EachStepped, none_stepped, then_stepped, MessagesStepped, no_message_stepped, message_stepped, LinesStepped, no_line_stepped, line_stepped}
use Rattle.certified_model.specs.Marks.{Mark, spelled_name, node_marked, selector_marked, pattern_marked, patterns_marked, messages_marked, statements_marked}

-- each pattern is itself a step from it
mutual
  pub stays : (p : PatternOf Name) → Stepped p p
  stays (meta m) = same_meta_step m
  stays (var_like n) = same_var_step n
  stays (literal_like l) = same_literal_step l
  stays (send_like r s ps) = in_send_step (stays r) s (each-stays ps)
  stays (cascade_like r ms) = in_cascade_step (stays r) (messages-stay ms)
  stays (assign_like n p) = in_assign_step n (stays p)
  stays (block_like ps ts ss e) = in_block_step ps ts e e (lines-stay ss)
  stays (brace_like ps) = in_brace_step (each-stays ps)
  stays (return_like p) = in_return_step (stays p)

  pub each-stays : (ps : PatternsOf Name) → EachStepped ps ps
  each-stays no_patterns = none_stepped
  each-stays (more_patterns p ps) = then_stepped (stays p) (each-stays ps)

  pub messages-stay : (ms : MessagesLike Name) → MessagesStepped ms ms
  messages-stay no_messages_like = no_message_stepped
  messages-stay (more_messages_like s ps ms) = message_stepped s (each-stays ps) (messages-stay ms)

  pub lines-stay : (ss : StatementsLike Name) → LinesStepped ss ss
  lines-stay no_statements_like = no_line_stepped
  lines-stay (more_statements_like c p ss) = line_stepped c c (stays p) (lines-stay ss)

-- with comments and without
mutual
  pub to-bare : (t : TreeOf Mark) → Stepped (pattern_marked t) (pattern_marked (bare t))
  to-bare (var m) = stays (node_marked m)
  to-bare (literal l) = stays (pattern_marked (literal l))
  to-bare (send r s ts) = in_send_step (to-bare r) (selector_marked s) (to-bares ts)
  to-bare (cascade r ms) = in_cascade_step (to-bare r) (to-bare-messages ms)
  to-bare (assign n t) = in_assign_step (spelled_name n) (to-bare t)
  to-bare (block ps ts ss e) = in_block_step (map spelled_name ps) (map spelled_name ts) e [] (to-bare-lines ss)
  to-bare (brace ts) = in_brace_step (to-bares ts)
  to-bare (return t) = in_return_step (to-bare t)

  to-bares : (ts : TreesOf Mark) → EachStepped (patterns_marked ts) (patterns_marked (bare_trees ts))
  to-bares no_trees = none_stepped
  to-bares (more_trees t ts) = then_stepped (to-bare t) (to-bares ts)

  to-bare-messages : (ms : MessagesOf Mark) → MessagesStepped (messages_marked ms) (messages_marked (bare_messages ms))
  to-bare-messages no_messages = no_message_stepped
  to-bare-messages (more_messages s ts ms) = message_stepped (selector_marked s) (to-bares ts) (to-bare-messages ms)

  to-bare-lines : (ss : StatementsOf Mark) → LinesStepped (statements_marked ss) (statements_marked (bare_statements ss))
  to-bare-lines no_statements = no_line_stepped
  to-bare-lines (more_statements c t ss) = line_stepped c [] (to-bare t) (to-bare-lines ss)

mutual
  pub from-bare : (t : TreeOf Mark) → Stepped (pattern_marked (bare t)) (pattern_marked t)
  from-bare (var m) = stays (node_marked m)
  from-bare (literal l) = stays (pattern_marked (literal l))
  from-bare (send r s ts) = in_send_step (from-bare r) (selector_marked s) (from-bares ts)
  from-bare (cascade r ms) = in_cascade_step (from-bare r) (from-bare-messages ms)
  from-bare (assign n t) = in_assign_step (spelled_name n) (from-bare t)
  from-bare (block ps ts ss e) = in_block_step (map spelled_name ps) (map spelled_name ts) [] e (from-bare-lines ss)
  from-bare (brace ts) = in_brace_step (from-bares ts)
  from-bare (return t) = in_return_step (from-bare t)

  from-bares : (ts : TreesOf Mark) → EachStepped (patterns_marked (bare_trees ts)) (patterns_marked ts)
  from-bares no_trees = none_stepped
  from-bares (more_trees t ts) = then_stepped (from-bare t) (from-bares ts)

  from-bare-messages : (ms : MessagesOf Mark) → MessagesStepped (messages_marked (bare_messages ms)) (messages_marked ms)
  from-bare-messages no_messages = no_message_stepped
  from-bare-messages (more_messages s ts ms) = message_stepped (selector_marked s) (from-bares ts) (from-bare-messages ms)

  from-bare-lines : (ss : StatementsOf Mark) → LinesStepped (statements_marked (bare_statements ss)) (statements_marked ss)
  from-bare-lines no_statements = no_line_stepped
  from-bare-lines (more_statements c t ss) = line_stepped [] c (from-bare t) (from-bare-lines ss)

-- the pattern of the one tree is a step from that of the other
abbrev pub IsStep : TreeOf Mark → TreeOf Mark → Type 0
IsStep x y = Stepped (pattern_marked x) (pattern_marked y)

-- one of the two where a step leads
nth-steps : (ts : TreesOf Mark) (k : ℕ) (x y : TreeOf Mark) → IsStep x y → EachStepped (patterns_marked (with_nth ts k x)) (patterns_marked (with_nth ts k y))
nth-steps no_trees k x y h = none_stepped
nth-steps (more_trees t ts) zero x y h = then_stepped h (each-stays (patterns_marked ts))
nth-steps (more_trees t ts) (suc k) x y h = then_stepped (stays (pattern_marked t)) (nth-steps ts k x y h)

argument-steps : (ms : MessagesOf Mark) (k : ℕ) (x y : TreeOf Mark) → IsStep x y → MessagesStepped (messages_marked (with_argument ms k x)) (messages_marked (with_argument ms k y))
argument-steps no_messages k x y h = no_message_stepped
argument-steps (more_messages s ts ms) k x y h = by (nat_lt k (count ts)) (argument-steps ms (k - count ts) x y h)
  where
    by : (b : Bool) → MessagesStepped (messages_marked (with_argument ms (k - count ts) x)) (messages_marked (with_argument ms (k - count ts) y)) →
        MessagesStepped (messages_marked (if b then more_messages s (with_nth ts k x) ms else more_messages s ts (with_argument ms (k - count ts) x)))
        (messages_marked (if b then more_messages s (with_nth ts k y) ms else more_messages s ts (with_argument ms (k - count ts) y)))
    by true rest = message_stepped (selector_marked s) (nth-steps ts k x y h) (messages-stay (messages_marked ms))
    by false rest = message_stepped (selector_marked s) (each-stays (patterns_marked ts)) rest

statement-steps : (ss : StatementsOf Mark) (k : ℕ) (x y : TreeOf Mark) → IsStep x y → LinesStepped (statements_marked (with_statement ss k x)) (statements_marked (with_statement ss k y))
statement-steps no_statements k x y h = no_line_stepped
statement-steps (more_statements c t ss) zero x y h = line_stepped c c h (lines-stay (statements_marked ss))
statement-steps (more_statements c t ss) (suc k) x y h = line_stepped c c (stays (pattern_marked t)) (statement-steps ss k x y h)

child-steps : (t : TreeOf Mark) (k : ℕ) (x y : TreeOf Mark) → IsStep x y → IsStep (with_child t k x) (with_child t k y)
child-steps (var m) k x y h = stays (node_marked m)
child-steps (literal l) k x y h = stays (pattern_marked (literal l))
child-steps (send r s ts) zero x y h = in_send_step h (selector_marked s) (each-stays (patterns_marked ts))
child-steps (send r s ts) (suc k) x y h = in_send_step (stays (pattern_marked r)) (selector_marked s) (nth-steps ts k x y h)
child-steps (cascade r ms) zero x y h = in_cascade_step h (messages-stay (messages_marked ms))
child-steps (cascade r ms) (suc k) x y h = in_cascade_step (stays (pattern_marked r)) (argument-steps ms k x y h)
child-steps (assign n t) zero x y h = in_assign_step (spelled_name n) h
child-steps (assign n t) (suc k) x y h = stays (pattern_marked (assign n t))
child-steps (block ps ts ss e) k x y h = in_block_step (map spelled_name ps) (map spelled_name ts) e e (statement-steps ss k x y h)
child-steps (brace ts) k x y h = in_brace_step (nth-steps ts k x y h)
child-steps (return t) zero x y h = in_return_step h
child-steps (return t) (suc k) x y h = stays (pattern_marked (return t))

-- one of the two where a path leads
pub replaced-steps : (path : List ℕ) (t x y : TreeOf Mark) → IsStep x y → IsStep (replaced t path x) (replaced t path y)
replaced-steps [] t x y h = h
replaced-steps (k ∷ ks) t x y h = by (child t k) (λ c. replaced-steps ks c x y h)
  where
    by : (o : Option (TreeOf Mark)) → ((c : TreeOf Mark) → IsStep (replaced c ks x) (replaced c ks y)) →
        IsStep (unwrap_or (option_map (λ c. with_child t k (replaced c ks x)) o) t) (unwrap_or (option_map (λ c. with_child t k (replaced c ks y)) o) t)
    by (Some c) on = child-steps t k (replaced c ks x) (replaced c ks y) (on c)
    by None on = stays (pattern_marked t)
