-- Steps on patterns are laws applied to trees, whatever the metavariables are bound to.
use Rattle.std.proofs.Common.{◌≡◌, ℕ, List, [], ◌∷◌, ◌++◌, Option, Some, None, refl, sym, ap, ◌∙◌, subst}
use Rattle.std.specs.Prelude.{codes, map}
use Rattle.std.specs.Option.{option_map_or}
use Rattle.tree_model.specs.Tree.{Notes, TreeOf, var, literal, send, cascade, assign, block, brace, return, TreesOf, no_trees, more_trees, MessagesOf, no_messages, more_messages, StatementsOf, no_statements, more_statements}
use Rattle.run_model.specs.Values.{Name}
use Rattle.pattern_model.specs.Patterns.{MetaOf, KeywordLike, this_keyword, any_keyword, SelectorLike, this_selector, any_unary, of_keywords, any_message, PatternOf, send_like, PatternsOf, MessagesLike, more_messages_like, StatementsLike, list_meta}
use Rattle.pattern_model.specs.Bindings.{BoundOf}
use Rattle.pattern_model.specs.Fill.{part_in, run_in, selector_in, keyword_in, arguments_in, append_statements, noted, keyword_filled, selector_filled, arguments_filled, filled, trees_filled, messages_filled, statements_filled}
use Rattle.certified_laws.specs.RewrittenTrees.{expression_block, Rewritten, same_var, same_literal, in_send, in_cascade, in_assign, in_block, in_brace, in_return, forth_1, back_1, forth_2, back_2, forth_3, back_3, forth_4, back_4, forth_5, back_5, forth_6, back_6, forth_7, back_7, forth_8, back_8, forth_10, back_10, EachRewritten, none_rewritten, then_rewritten, MessagesRewritten, no_message_rewritten, message_rewritten, LinesRewritten, no_line_rewritten, line_rewritten, forth_9, back_9}
use Rattle.certified_model.specs.LawSteps.{BoundRewritten, part_rewritten, run_rewritten, same_selector, same_keyword, arguments_rewritten, IsSingle, IsUnaryLike, expression_block_like, Stepped, same_meta_step, same_var_step, same_literal_step, in_send_step, in_cascade_step, in_assign_step, in_block_step, in_brace_step, in_return_step, step_1, step_back_1, step_2, step_back_2, step_3, step_back_3, step_4, step_back_4, step_5, step_back_5, step_6, step_back_6, step_7, step_back_7, step_8, step_back_8, step_10, step_back_10, EachStepped, none_stepped, then_stepped, MessagesStepped, no_message_stepped, message_stepped, LinesStepped, no_line_stepped, line_stepped, step_9, step_back_9}

mutual
  -- each tree is itself rewritten nowhere
  pub same-tree : (t : TreeOf Name) → Rewritten t t
  same-tree (var n) = same_var n
  same-tree (literal l) = same_literal l
  same-tree (send r s args) = in_send (same-tree r) s (same-trees args)
  same-tree (cascade r ms) = in_cascade (same-tree r) (same-messages ms)
  same-tree (assign n t) = in_assign n (same-tree t)
  same-tree (block ps ts ss e) = in_block ps ts e e (same-lines ss)
  same-tree (brace ts) = in_brace (same-trees ts)
  same-tree (return t) = in_return (same-tree t)

  pub same-trees : (ts : TreesOf Name) → EachRewritten ts ts
  same-trees no_trees = none_rewritten
  same-trees (more_trees t ts) = then_rewritten (same-tree t) (same-trees ts)

  same-messages : (ms : MessagesOf Name) → MessagesRewritten ms ms
  same-messages no_messages = no_message_rewritten
  same-messages (more_messages s args ms) = message_rewritten s (same-trees args) (same-messages ms)

  pub same-lines : (ss : StatementsOf Name) → LinesRewritten ss ss
  same-lines no_statements = no_line_rewritten
  same-lines (more_statements c t ss) = line_rewritten c c (same-tree t) (same-lines ss)

-- a run before statements
run-before : {run run' xs ys : StatementsOf Name} → LinesRewritten run run' → LinesRewritten xs ys → LinesRewritten (append_statements run xs) (append_statements run' ys)
run-before no_line_rewritten h = h
run-before (line_rewritten c c' t ss) h = line_rewritten c c' t (run-before ss h)
run-before (forth_9 c d e m n ss) h = forth_9 c d e m n (run-before ss h)
run-before (back_9 c d e m n ss) h = back_9 c d e m n (run-before ss h)

-- comments in front
noted-lines : (c c' e e' : Notes) {xs ys : StatementsOf Name} → LinesRewritten xs ys → LinesRewritten (noted c xs e).0 (noted c' ys e').0
noted-lines c c' e e' no_line_rewritten = no_line_rewritten
noted-lines c c' e e' (line_rewritten d d' t ss) = line_rewritten (c ++ d) (c' ++ d') t ss
noted-lines c c' e e' (forth_9 d f g m n ss) = forth_9 (c ++ d) (c' ++ f) g m n ss
noted-lines c c' e e' (back_9 d f g m n ss) = back_9 (c' ++ d) (c ++ f) g m n ss

-- a step makes no list of statements of a statement
same-list : {p q : PatternOf Name} → Stepped p q → list_meta q ≡ list_meta p
same-list (same_meta_step m) = refl
same-list (same_var_step n) = refl
same-list (same_literal_step l) = refl
same-list (in_send_step r s args) = refl
same-list (in_cascade_step r ms) = refl
same-list (in_assign_step n t) = refl
same-list (in_block_step ps ts e e' ss) = refl
same-list (in_brace_step ts) = refl
same-list (in_return_step t) = refl
same-list (step_1 d e f g hc hs ht) = refl
same-list (step_back_1 d e f g hc hs ht) = refl
same-list (step_2 d e f g hc hs) = refl
same-list (step_back_2 d e f g hc hs) = refl
same-list (step_3 d e f g hc hs) = refl
same-list (step_back_3 d e f g hc hs) = refl
same-list (step_4 d e f g hc hs) = refl
same-list (step_back_4 d e f g hc hs) = refl
same-list (step_5 d e f g hc hs) = refl
same-list (step_back_5 d e f g hc hs) = refl
same-list (step_6 d e f g hc hs) = refl
same-list (step_back_6 d e f g hc hs) = refl
same-list (step_7 d e f g h k l o hx hy hz ky kz) = refl
same-list (step_back_7 d e f g h k l o hx hy hz ky kz) = refl
same-list (step_8 d e f g h k l o hx hy hz ky kz) = refl
same-list (step_back_8 d e f g h k l o hx hy hz ky kz) = refl
same-list (step_10 d e f g h k l o hc hx hy kx ky) = refl
same-list (step_back_10 d e f g h k l o hc hx hy kx ky) = refl

-- of trees that are equal to others
by_equal : {t t' u u' : TreeOf Name} → t ≡ t' → u ≡ u' → Rewritten t' u' → Rewritten t u
by_equal {t} {t'} {u} {u'} p q h = subst (λ x. Rewritten x u) (sym p) (subst (λ y. Rewritten t' y) (sym q) h)

-- what is bound before and after
part-of : (n : Name) {b d : BoundOf Name} → BoundRewritten b d → Rewritten (part_in n b) (part_in n d)
part-of n (part_rewritten h) = h
part-of n (run_rewritten h) = same-tree (var n)
part-of n (same_selector s) = same-tree (var n)
part-of n (same_keyword k) = same-tree (var n)
part-of n (arguments_rewritten s h) = same-tree (var n)

run-of : {b d : BoundOf Name} → BoundRewritten b d → LinesRewritten (run_in b) (run_in d)
run-of (part_rewritten h) = no_line_rewritten
run-of (run_rewritten h) = h
run-of (same_selector s) = no_line_rewritten
run-of (same_keyword k) = no_line_rewritten
run-of (arguments_rewritten s h) = no_line_rewritten

arguments-of : {b d : BoundOf Name} → BoundRewritten b d → EachRewritten (arguments_in b) (arguments_in d)
arguments-of (part_rewritten h) = none_rewritten
arguments-of (run_rewritten h) = none_rewritten
arguments-of (same_selector s) = none_rewritten
arguments-of (same_keyword k) = none_rewritten
arguments-of (arguments_rewritten s h) = h

selector-of : (n : Name) {b d : BoundOf Name} → BoundRewritten b d → selector_in n d ≡ selector_in n b
selector-of n (part_rewritten h) = refl
selector-of n (run_rewritten h) = refl
selector-of n (same_selector s) = refl
selector-of n (same_keyword k) = refl
selector-of n (arguments_rewritten s h) = refl

keyword-of : {b d : BoundOf Name} → BoundRewritten b d → keyword_in d ≡ keyword_in b
keyword-of (part_rewritten h) = refl
keyword-of (run_rewritten h) = refl
keyword-of (same_selector s) = refl
keyword-of (same_keyword k) = refl
keyword-of (arguments_rewritten s h) = refl

-- a statement, or the run that is bound
abbrev lines_by : (MetaOf Name → BoundOf Name) → Option (MetaOf Name) → TreeOf Name → StatementsOf Name → StatementsOf Name
lines_by bound o t rest = option_map_or (λ m. append_statements (run_in (bound m)) rest) o (more_statements [] t rest)

-- a block of one expression
block-filled : (bound : MetaOf Name → BoundOf Name) (joined : List (List ℕ) → Name) (c : Notes) (p : PatternOf Name) (e : Notes) → IsSingle p → filled bound joined (expression_block_like c p e) ≡ expression_block (c ++ []) (filled bound joined p) e
block-filled bound joined c p e h = ap (λ o. block [] [] (noted c (lines_by bound o (filled bound joined p) no_statements) e).0 (noted c (lines_by bound o (filled bound joined p) no_statements) e).1) h

-- a unary message has no arguments
unary-filled : (bound : MetaOf Name → BoundOf Name) (joined : List (List ℕ) → Name) (s : SelectorLike Name) → IsUnaryLike s → arguments_filled bound joined s no_trees ≡ no_trees
unary-filled bound joined (this_selector n) h = refl
unary-filled bound joined (any_unary m) h = refl
unary-filled bound joined (of_keywords ks) h = absurd h
unary-filled bound joined (any_message m) h = absurd h

module _ (bound bound' : MetaOf Name → BoundOf Name) (each : (m : MetaOf Name) → BoundRewritten (bound m) (bound' m)) (joined : List (List ℕ) → Name) where
  -- arguments of a message
  arguments-filled : (s : SelectorLike Name) {ts us : TreesOf Name} → EachRewritten ts us → EachRewritten (arguments_filled bound joined s ts) (arguments_filled bound' joined s us)
  arguments-filled (this_selector n) h = h
  arguments-filled (any_unary m) h = h
  arguments-filled (of_keywords ks) h = h
  arguments-filled (any_message m) h = arguments-of (each m)

  -- the same selector
  same-keyword : (k : KeywordLike Name) → keyword_filled bound' joined k ≡ keyword_filled bound joined k
  same-keyword (this_keyword k) = refl
  same-keyword (any_keyword m) = keyword-of (each m)

  same-keywords : (ks : List (KeywordLike Name)) → map (keyword_filled bound' joined) ks ≡ map (keyword_filled bound joined) ks
  same-keywords [] = refl
  same-keywords (k ∷ ks) = λ at. same-keyword k at ∷ same-keywords ks at

  same-selector : (s : SelectorLike Name) → selector_filled bound' joined s ≡ selector_filled bound joined s
  same-selector (this_selector n) = refl
  same-selector (any_unary m) = selector-of m.name (each m)
  same-selector (of_keywords ks) = ap joined (same-keywords ks)
  same-selector (any_message m) = selector-of m.name (each m)

  lines-by : (o : Option (MetaOf Name)) {t u : TreeOf Name} {xs ys : StatementsOf Name} → Rewritten t u → LinesRewritten xs ys → LinesRewritten (lines_by bound o t xs) (lines_by bound' o u ys)
  lines-by (Some m) h k = run-before (run-of (each m)) k
  lines-by None h k = line_rewritten [] [] h k

  -- law 9 with messages that have no arguments
  abbrev cascaded : Notes → Name → Name → TreesOf Name → TreesOf Name → StatementsOf Name → StatementsOf Name
  cascaded c m n us ws xs = more_statements c (cascade (var (codes "self")) (more_messages m us (more_messages n ws no_messages))) xs

  abbrev sent_each : Notes → Notes → Name → Name → TreesOf Name → TreesOf Name → StatementsOf Name → StatementsOf Name
  sent_each d g m n us ws xs = more_statements d (send (var (codes "self")) m us) (more_statements g (send (var (codes "self")) n ws) xs)

  nine-forth : (c d g : Notes) (m n : Name) (m' n' : Name) (us ws us' ws' : TreesOf Name) {xs ys : StatementsOf Name} → m' ≡ m → n' ≡ n → us ≡ no_trees → ws ≡ no_trees → us' ≡ no_trees → ws' ≡ no_trees → LinesRewritten xs ys → LinesRewritten (cascaded c m n us ws xs) (sent_each d g m' n' us' ws' ys)
  nine-forth c d g m n m' n' us ws us' ws' {xs} {ys} mm nn p q p' q' h =
      subst (λ x. LinesRewritten x (sent_each d g m' n' us' ws' ys)) (λ at. cascaded c m n (sym p at) (sym q at) xs)
      (subst (λ x. LinesRewritten (cascaded c m n no_trees no_trees xs) x) (λ at. sent_each d g (sym mm at) (sym nn at) (sym p' at) (sym q' at) ys) (forth_9 c d g m n h))

  nine-back : (c d g : Notes) (m n : Name) (m' n' : Name) (us ws us' ws' : TreesOf Name) {xs ys : StatementsOf Name} → m' ≡ m → n' ≡ n → us ≡ no_trees → ws ≡ no_trees → us' ≡ no_trees → ws' ≡ no_trees → LinesRewritten xs ys → LinesRewritten (sent_each d g m n us ws xs) (cascaded c m' n' us' ws' ys)
  nine-back c d g m n m' n' us ws us' ws' {xs} {ys} mm nn p q p' q' h =
      subst (λ x. LinesRewritten x (cascaded c m' n' us' ws' ys)) (λ at. sent_each d g m n (sym p at) (sym q at) xs)
      (subst (λ x. LinesRewritten (sent_each d g m n no_trees no_trees xs) x) (λ at. cascaded c (sym mm at) (sym nn at) (sym p' at) (sym q' at) ys) (back_9 c d g m n h))

  mutual
    pub filled-step : {p q : PatternOf Name} → Stepped p q → Rewritten (filled bound joined p) (filled bound' joined q)
    filled-step (same_meta_step m) = part-of m.name (each m)
    filled-step (same_var_step n) = same_var n
    filled-step (same_literal_step l) = same_literal l
    filled-step (in_send_step {r} {r'} {args} {args'} h s k) =
        subst (λ n. Rewritten (filled bound joined (send_like r s args)) (send (filled bound' joined r') n (arguments_filled bound' joined s (trees_filled bound' joined args')))) (sym (same-selector s))
        (in_send (filled-step h) (selector_filled bound joined s) (arguments-filled s (each-step k)))
    filled-step (in_cascade_step r ms) = in_cascade (filled-step r) (messages-step ms)
    filled-step (in_assign_step n t) = in_assign n (filled-step t)
    filled-step (in_block_step ps ts e e' ss) = in_block ps ts _ _ (lines-step e e' ss)
    filled-step (in_brace_step ts) = in_brace (each-step ts)
    filled-step (in_return_step t) = in_return (filled-step t)
    filled-step (step_1 d e f g hc hs ht) = forth_1 _ _ _ _ (filled-step hc) (lines-step _ _ hs) (lines-step _ _ ht)
    filled-step (step_back_1 d e f g hc hs ht) = back_1 _ _ _ _ (filled-step hc) (lines-step _ _ hs) (lines-step _ _ ht)
    filled-step (step_2 d e f g hc hs) = forth_2 _ _ _ _ (filled-step hc) (lines-step _ _ hs)
    filled-step (step_back_2 d e f g hc hs) = back_2 _ _ _ _ (filled-step hc) (lines-step _ _ hs)
    filled-step (step_3 d e f g hc hs) = forth_3 _ _ _ _ (filled-step hc) (lines-step _ _ hs)
    filled-step (step_back_3 d e f g hc hs) = back_3 _ _ _ _ (filled-step hc) (lines-step _ _ hs)
    filled-step (step_4 d e f g hc hs) = forth_4 _ _ _ _ (filled-step hc) (lines-step _ _ hs)
    filled-step (step_back_4 d e f g hc hs) = back_4 _ _ _ _ (filled-step hc) (lines-step _ _ hs)
    filled-step (step_5 d e f g hc hs) = forth_5 _ _ _ _ (filled-step hc) (lines-step _ _ hs)
    filled-step (step_back_5 d e f g hc hs) = back_5 _ _ _ _ (filled-step hc) (lines-step _ _ hs)
    filled-step (step_6 d e f g hc hs) = forth_6 _ _ _ _ (filled-step hc) (lines-step _ _ hs)
    filled-step (step_back_6 d e f g hc hs) = back_6 _ _ _ _ (filled-step hc) (lines-step _ _ hs)
    filled-step (step_7 {x} {x'} {y} {y'} {z} {z'} d e f g h k l o hx hy hz ky kz) =
        by_equal (λ at. send (send (filled bound joined x) (codes "and:") (more_trees (block-filled bound joined d y e ky at) no_trees)) (codes "and:") (more_trees (block-filled bound joined f z g kz at) no_trees)) (λ at. send (filled bound' joined x') (codes "and:") (more_trees (block [] [] (more_statements (l ++ []) (send (filled bound' joined y') (codes "and:") (more_trees (block-filled bound' joined h z' k (same-list hz ∙ kz) at) no_trees)) no_statements) o) no_trees))
        (forth_7 (d ++ []) e (f ++ []) g (h ++ []) k (l ++ []) o (filled-step hx) (filled-step hy) (filled-step hz))
    filled-step (step_back_7 {x} {x'} {y} {y'} {z} {z'} d e f g h k l o hx hy hz ky kz) =
        by_equal (λ at. send (filled bound joined x) (codes "and:") (more_trees (block [] [] (more_statements (l ++ []) (send (filled bound joined y) (codes "and:") (more_trees (block-filled bound joined h z k kz at) no_trees)) no_statements) o) no_trees)) (λ at. send (send (filled bound' joined x') (codes "and:") (more_trees (block-filled bound' joined d y' e (same-list hy ∙ ky) at) no_trees)) (codes "and:") (more_trees (block-filled bound' joined f z' g (same-list hz ∙ kz) at) no_trees))
        (back_7 (d ++ []) e (f ++ []) g (h ++ []) k (l ++ []) o (filled-step hx) (filled-step hy) (filled-step hz))
    filled-step (step_8 {x} {x'} {y} {y'} {z} {z'} d e f g h k l o hx hy hz ky kz) =
        by_equal (λ at. send (send (filled bound joined x) (codes "or:") (more_trees (block-filled bound joined d y e ky at) no_trees)) (codes "or:") (more_trees (block-filled bound joined f z g kz at) no_trees)) (λ at. send (filled bound' joined x') (codes "or:") (more_trees (block [] [] (more_statements (l ++ []) (send (filled bound' joined y') (codes "or:") (more_trees (block-filled bound' joined h z' k (same-list hz ∙ kz) at) no_trees)) no_statements) o) no_trees))
        (forth_8 (d ++ []) e (f ++ []) g (h ++ []) k (l ++ []) o (filled-step hx) (filled-step hy) (filled-step hz))
    filled-step (step_back_8 {x} {x'} {y} {y'} {z} {z'} d e f g h k l o hx hy hz ky kz) =
        by_equal (λ at. send (filled bound joined x) (codes "or:") (more_trees (block [] [] (more_statements (l ++ []) (send (filled bound joined y) (codes "or:") (more_trees (block-filled bound joined h z k kz at) no_trees)) no_statements) o) no_trees)) (λ at. send (send (filled bound' joined x') (codes "or:") (more_trees (block-filled bound' joined d y' e (same-list hy ∙ ky) at) no_trees)) (codes "or:") (more_trees (block-filled bound' joined f z' g (same-list hz ∙ kz) at) no_trees))
        (back_8 (d ++ []) e (f ++ []) g (h ++ []) k (l ++ []) o (filled-step hx) (filled-step hy) (filled-step hz))
    filled-step (step_10 {c} {c'} {x} {x'} {y} {y'} d e f g h k l o hc hx hy kx ky) =
        by_equal (λ at. send (filled bound joined c) (codes "ifTrue:ifFalse:") (more_trees (block [] [] (more_statements (d ++ []) (return (filled bound joined x)) no_statements) e) (more_trees (block [] [] (more_statements (f ++ []) (return (filled bound joined y)) no_statements) g) no_trees))) (λ at. return (send (filled bound' joined c') (codes "ifTrue:ifFalse:") (more_trees (block-filled bound' joined h x' k (same-list hx ∙ kx) at) (more_trees (block-filled bound' joined l y' o (same-list hy ∙ ky) at) no_trees))))
        (forth_10 (d ++ []) e (f ++ []) g (h ++ []) k (l ++ []) o (filled-step hc) (filled-step hx) (filled-step hy))
    filled-step (step_back_10 {c} {c'} {x} {x'} {y} {y'} d e f g h k l o hc hx hy kx ky) =
        by_equal (λ at. return (send (filled bound joined c) (codes "ifTrue:ifFalse:") (more_trees (block-filled bound joined h x k kx at) (more_trees (block-filled bound joined l y o ky at) no_trees)))) (λ at. send (filled bound' joined c') (codes "ifTrue:ifFalse:") (more_trees (block [] [] (more_statements (d ++ []) (return (filled bound' joined x')) no_statements) e) (more_trees (block [] [] (more_statements (f ++ []) (return (filled bound' joined y')) no_statements) g) no_trees)))
        (back_10 (d ++ []) e (f ++ []) g (h ++ []) k (l ++ []) o (filled-step hc) (filled-step hx) (filled-step hy))

    each-step : {ps qs : PatternsOf Name} → EachStepped ps qs → EachRewritten (trees_filled bound joined ps) (trees_filled bound' joined qs)
    each-step none_stepped = none_rewritten
    each-step (then_stepped t ts) = then_rewritten (filled-step t) (each-step ts)

    messages-step : {ps qs : MessagesLike Name} → MessagesStepped ps qs → MessagesRewritten (messages_filled bound joined ps) (messages_filled bound' joined qs)
    messages-step no_message_stepped = no_message_rewritten
    messages-step (message_stepped {args} {args'} {ms} {ms'} s h k) =
        subst (λ n. MessagesRewritten (messages_filled bound joined (more_messages_like s args ms)) (more_messages n (arguments_filled bound' joined s (trees_filled bound' joined args')) (messages_filled bound' joined ms'))) (sym (same-selector s))
        (message_rewritten (selector_filled bound joined s) (arguments-filled s (each-step h)) (messages-step k))

    lines-step : (e e' : Notes) {ps qs : StatementsLike Name} → LinesStepped ps qs → LinesRewritten (statements_filled bound joined ps e).0 (statements_filled bound' joined qs e').0
    lines-step e e' no_line_stepped = no_line_rewritten
    lines-step e e' (line_stepped {t} {t'} {ss} {ss'} c c' h k) =
        noted-lines c c' _ _ (subst (λ o. LinesRewritten (lines_by bound (list_meta t) (filled bound joined t) (statements_filled bound joined ss e).0) (lines_by bound' o (filled bound' joined t') (statements_filled bound' joined ss' e').0)) (sym (same-list h)) (lines-by (list_meta t) (filled-step h) (lines-step e e' k)))
    lines-step e e' (step_9 c d g m n um un k) =
        nine-forth (c ++ []) (d ++ []) (g ++ []) (selector_filled bound joined m) (selector_filled bound joined n) (selector_filled bound' joined m) (selector_filled bound' joined n)
        (arguments_filled bound joined m no_trees) (arguments_filled bound joined n no_trees) (arguments_filled bound' joined m no_trees) (arguments_filled bound' joined n no_trees)
        (same-selector m) (same-selector n) (unary-filled bound joined m um) (unary-filled bound joined n un) (unary-filled bound' joined m um) (unary-filled bound' joined n un) (lines-step e e' k)
    lines-step e e' (step_back_9 c d g m n um un k) =
        nine-back (c ++ []) (d ++ []) (g ++ []) (selector_filled bound joined m) (selector_filled bound joined n) (selector_filled bound' joined m) (selector_filled bound' joined n)
        (arguments_filled bound joined m no_trees) (arguments_filled bound joined n no_trees) (arguments_filled bound' joined m no_trees) (arguments_filled bound' joined n no_trees)
        (same-selector m) (same-selector n) (unary-filled bound joined m um) (unary-filled bound joined n un) (unary-filled bound' joined m um) (unary-filled bound' joined n un) (lines-step e e' k)
