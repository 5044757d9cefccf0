-- One step on patterns: laws of rewriting are applied at any places at once, with metavariables as parts of their kinds.
use Rattle.std.specs.Prelude.{◌≡◌, List, [], ◌∷◌, ℕ, None, codes}
use Rattle.tree_model.specs.Tree.{Notes, LiteralOf, TreeOf, TreesOf, StatementsOf}
use Rattle.run_model.specs.Values.{Name}
use Rattle.pattern_model.specs.Bindings.{BoundOf, a_part, a_run, a_selector, a_keyword, a_message}
use Rattle.certified_laws.specs.RewrittenTrees.{Rewritten, EachRewritten, LinesRewritten}
use Rattle.pattern_model.specs.Patterns.{MetaOf, SelectorLike, this_selector, any_unary, of_keywords, any_message, PatternOf, meta, var_like, literal_like, send_like, cascade_like, assign_like, block_like, brace_like, return_like, PatternsOf, no_patterns, more_patterns, MessagesLike, no_messages_like, more_messages_like, StatementsLike, no_statements_like, more_statements_like, list_meta}

-- one argument, and two
abbrev pub one_like : PatternOf Name → PatternsOf Name
one_like p = more_patterns p no_patterns

abbrev pub two_like : PatternOf Name → PatternOf Name → PatternsOf Name
two_like p q = more_patterns p (one_like q)

-- a block without parameters and temporaries, and one of one expression
abbrev pub just_block_like : StatementsLike Name → Notes → PatternOf Name
just_block_like ss e = block_like [] [] ss e

abbrev pub expression_block_like : Notes → PatternOf Name → Notes → PatternOf Name
expression_block_like c p e = block_like [] [] (more_statements_like c p no_statements_like) e

-- a control send
abbrev pub control_like : PatternOf Name → List ℕ → PatternsOf Name → PatternOf Name
control_like r s ps = send_like r (this_selector s) ps

-- no metavariable for a list of statements
abbrev pub IsSingle : PatternOf Name → Type 0
IsSingle p = list_meta p ≡ None

-- a unary selector, or any one
abbrev pub IsUnaryLike : SelectorLike Name → Type 0
IsUnaryLike (this_selector n) = Unit {0}
IsUnaryLike (any_unary m) = Unit {0}
IsUnaryLike (of_keywords ks) = ⊥
IsUnaryLike (any_message m) = ⊥

-- `self`
abbrev pub self_like : PatternOf Name
self_like = var_like (codes "self")

mutual
  pub data Stepped : PatternOf Name → PatternOf Name → Type 0 where
    same_meta_step : (m : MetaOf Name) → Stepped (meta m) (meta m)
    same_var_step : (n : Name) → Stepped (var_like n) (var_like n)
    same_literal_step : (l : LiteralOf Name) → Stepped (literal_like l) (literal_like l)
    in_send_step : {r r' : PatternOf Name} {args args' : PatternsOf Name} → Stepped r r' → (s : SelectorLike Name) → EachStepped args args' → Stepped (send_like r s args) (send_like r' s args')
    in_cascade_step : {r r' : PatternOf Name} {ms ms' : MessagesLike Name} → Stepped r r' → MessagesStepped ms ms' → Stepped (cascade_like r ms) (cascade_like r' ms')
    in_assign_step : {t t' : PatternOf Name} → (n : Name) → Stepped t t' → Stepped (assign_like n t) (assign_like n t')
    in_block_step : {ss ss' : StatementsLike Name} → (ps ts : List Name) → (e e' : Notes) → LinesStepped ss ss' → Stepped (block_like ps ts ss e) (block_like ps ts ss' e')
    in_brace_step : {ts ts' : PatternsOf Name} → EachStepped ts ts' → Stepped (brace_like ts) (brace_like ts')
    in_return_step : {t t' : PatternOf Name} → Stepped t t' → Stepped (return_like t) (return_like t')
    step_1 : {c c' : PatternOf Name} {s s' t t' : StatementsLike Name} (d e f g : Notes) → Stepped c c' → LinesStepped s s' → LinesStepped t t' → Stepped (control_like c (codes "ifTrue:ifFalse:") (two_like (just_block_like s d) (just_block_like t e))) (control_like c' (codes "ifFalse:ifTrue:") (two_like (just_block_like t' f) (just_block_like s' g)))
    step_back_1 : {c c' : PatternOf Name} {s s' t t' : StatementsLike Name} (d e f g : Notes) → Stepped c c' → LinesStepped s s' → LinesStepped t t' → Stepped (control_like c (codes "ifFalse:ifTrue:") (two_like (just_block_like t f) (just_block_like s g))) (control_like c' (codes "ifTrue:ifFalse:") (two_like (just_block_like s' d) (just_block_like t' e)))
    step_2 : {c c' : PatternOf Name} {s s' : StatementsLike Name} (d e f g : Notes) → Stepped c c' → LinesStepped s s' → Stepped (control_like c (codes "ifTrue:") (one_like (just_block_like s d))) (control_like c' (codes "ifTrue:ifFalse:") (two_like (just_block_like s' e) (expression_block_like f (var_like (codes "nil")) g)))
    step_back_2 : {c c' : PatternOf Name} {s s' : StatementsLike Name} (d e f g : Notes) → Stepped c c' → LinesStepped s s' → Stepped (control_like c (codes "ifTrue:ifFalse:") (two_like (just_block_like s e) (expression_block_like f (var_like (codes "nil")) g))) (control_like c' (codes "ifTrue:") (one_like (just_block_like s' d)))
    step_3 : {c c' : PatternOf Name} {s s' : StatementsLike Name} (d e f g : Notes) → Stepped c c' → LinesStepped s s' → Stepped (control_like c (codes "ifFalse:") (one_like (just_block_like s d))) (control_like c' (codes "ifTrue:ifFalse:") (two_like (expression_block_like f (var_like (codes "nil")) g) (just_block_like s' e)))
    step_back_3 : {c c' : PatternOf Name} {s s' : StatementsLike Name} (d e f g : Notes) → Stepped c c' → LinesStepped s s' → Stepped (control_like c (codes "ifTrue:ifFalse:") (two_like (expression_block_like f (var_like (codes "nil")) g) (just_block_like s e))) (control_like c' (codes "ifFalse:") (one_like (just_block_like s' d)))
    step_4 : {c c' : PatternOf Name} {s s' : StatementsLike Name} (d e f g : Notes) → Stepped c c' → LinesStepped s s' → Stepped (control_like c (codes "and:") (one_like (just_block_like s d))) (control_like c' (codes "ifTrue:ifFalse:") (two_like (just_block_like s' e) (expression_block_like f (var_like (codes "false")) g)))
    step_back_4 : {c c' : PatternOf Name} {s s' : StatementsLike Name} (d e f g : Notes) → Stepped c c' → LinesStepped s s' → Stepped (control_like c (codes "ifTrue:ifFalse:") (two_like (just_block_like s e) (expression_block_like f (var_like (codes "false")) g))) (control_like c' (codes "and:") (one_like (just_block_like s' d)))
    step_5 : {c c' : PatternOf Name} {s s' : StatementsLike Name} (d e f g : Notes) → Stepped c c' → LinesStepped s s' → Stepped (control_like c (codes "or:") (one_like (just_block_like s d))) (control_like c' (codes "ifTrue:ifFalse:") (two_like (expression_block_like f (var_like (codes "true")) g) (just_block_like s' e)))
    step_back_5 : {c c' : PatternOf Name} {s s' : StatementsLike Name} (d e f g : Notes) → Stepped c c' → LinesStepped s s' → Stepped (control_like c (codes "ifTrue:ifFalse:") (two_like (expression_block_like f (var_like (codes "true")) g) (just_block_like s e))) (control_like c' (codes "or:") (one_like (just_block_like s' d)))
    step_6 : {c c' : PatternOf Name} {s s' : StatementsLike Name} (d e f g : Notes) → Stepped c c' → LinesStepped s s' → Stepped (control_like c (codes "ifFalse:") (one_like (just_block_like s d))) (control_like c' (codes "ifFalse:ifTrue:") (two_like (just_block_like s' e) (expression_block_like f (var_like (codes "nil")) g)))
    step_back_6 : {c c' : PatternOf Name} {s s' : StatementsLike Name} (d e f g : Notes) → Stepped c c' → LinesStepped s s' → Stepped (control_like c (codes "ifFalse:ifTrue:") (two_like (just_block_like s e) (expression_block_like f (var_like (codes "nil")) g))) (control_like c' (codes "ifFalse:") (one_like (just_block_like s' d)))
    step_7 : {x x' y y' z z' : PatternOf Name} (d e f g h k l o : Notes) → Stepped x x' → Stepped y y' → Stepped z z' → IsSingle y → IsSingle z → Stepped (control_like (control_like x (codes "and:") (one_like (expression_block_like d y e))) (codes "and:") (one_like (expression_block_like f z g))) (control_like x' (codes "and:") (one_like (expression_block_like l (control_like y' (codes "and:") (one_like (expression_block_like h z' k))) o)))
    step_back_7 : {x x' y y' z z' : PatternOf Name} (d e f g h k l o : Notes) → Stepped x x' → Stepped y y' → Stepped z z' → IsSingle y → IsSingle z → Stepped (control_like x (codes "and:") (one_like (expression_block_like l (control_like y (codes "and:") (one_like (expression_block_like h z k))) o))) (control_like (control_like x' (codes "and:") (one_like (expression_block_like d y' e))) (codes "and:") (one_like (expression_block_like f z' g)))
    step_8 : {x x' y y' z z' : PatternOf Name} (d e f g h k l o : Notes) → Stepped x x' → Stepped y y' → Stepped z z' → IsSingle y → IsSingle z → Stepped (control_like (control_like x (codes "or:") (one_like (expression_block_like d y e))) (codes "or:") (one_like (expression_block_like f z g))) (control_like x' (codes "or:") (one_like (expression_block_like l (control_like y' (codes "or:") (one_like (expression_block_like h z' k))) o)))
    step_back_8 : {x x' y y' z z' : PatternOf Name} (d e f g h k l o : Notes) → Stepped x x' → Stepped y y' → Stepped z z' → IsSingle y → IsSingle z → Stepped (control_like x (codes "or:") (one_like (expression_block_like l (control_like y (codes "or:") (one_like (expression_block_like h z k))) o))) (control_like (control_like x' (codes "or:") (one_like (expression_block_like d y' e))) (codes "or:") (one_like (expression_block_like f z' g)))
    step_10 : {c c' x x' y y' : PatternOf Name} (d e f g h k l o : Notes) → Stepped c c' → Stepped x x' → Stepped y y' → IsSingle x → IsSingle y → Stepped (control_like c (codes "ifTrue:ifFalse:") (two_like (expression_block_like d (return_like x) e) (expression_block_like f (return_like y) g))) (return_like (control_like c' (codes "ifTrue:ifFalse:") (two_like (expression_block_like h x' k) (expression_block_like l y' o))))
    step_back_10 : {c c' x x' y y' : PatternOf Name} (d e f g h k l o : Notes) → Stepped c c' → Stepped x x' → Stepped y y' → IsSingle x → IsSingle y → Stepped (return_like (control_like c (codes "ifTrue:ifFalse:") (two_like (expression_block_like h x k) (expression_block_like l y o)))) (control_like c' (codes "ifTrue:ifFalse:") (two_like (expression_block_like d (return_like x') e) (expression_block_like f (return_like y') g)))

  pub data EachStepped : PatternsOf Name → PatternsOf Name → Type 0 where
    none_stepped : EachStepped no_patterns no_patterns
    then_stepped : {t t' : PatternOf Name} {ts ts' : PatternsOf Name} → Stepped t t' → EachStepped ts ts' → EachStepped (more_patterns t ts) (more_patterns t' ts')

  pub data MessagesStepped : MessagesLike Name → MessagesLike Name → Type 0 where
    no_message_stepped : MessagesStepped no_messages_like no_messages_like
    message_stepped : {args args' : PatternsOf Name} {ms ms' : MessagesLike Name} → (s : SelectorLike Name) → EachStepped args args' → MessagesStepped ms ms' → MessagesStepped (more_messages_like s args ms) (more_messages_like s args' ms')

  pub data LinesStepped : StatementsLike Name → StatementsLike Name → Type 0 where
    no_line_stepped : LinesStepped no_statements_like no_statements_like
    line_stepped : {t t' : PatternOf Name} {ss ss' : StatementsLike Name} → (c c' : Notes) → Stepped t t' → LinesStepped ss ss' → LinesStepped (more_statements_like c t ss) (more_statements_like c' t' ss')
    step_9 : {ss ss' : StatementsLike Name} → (c d e : Notes) → (m n : SelectorLike Name) → IsUnaryLike m → IsUnaryLike n → LinesStepped ss ss' →
        LinesStepped (more_statements_like c (cascade_like self_like (more_messages_like m no_patterns (more_messages_like n no_patterns no_messages_like))) ss) (more_statements_like d (send_like self_like m no_patterns) (more_statements_like e (send_like self_like n no_patterns) ss'))
    step_back_9 : {ss ss' : StatementsLike Name} → (c d e : Notes) → (m n : SelectorLike Name) → IsUnaryLike m → IsUnaryLike n → LinesStepped ss ss' →
        LinesStepped (more_statements_like d (send_like self_like m no_patterns) (more_statements_like e (send_like self_like n no_patterns) ss)) (more_statements_like c (cascade_like self_like (more_messages_like m no_patterns (more_messages_like n no_patterns no_messages_like))) ss')

-- a row of at least one step, by the patterns between
abbrev pub SteppedAlong : PatternOf Name → List (PatternOf Name) → PatternOf Name → Type 0
SteppedAlong p [] q = Stepped p q
SteppedAlong p (r ∷ rs) q = Stepped p r × SteppedAlong r rs q

-- what a metavariable is bound to, with laws applied in its nodes
pub data BoundRewritten : BoundOf Name → BoundOf Name → Type 0 where
  part_rewritten : {t u : TreeOf Name} → Rewritten t u → BoundRewritten (a_part t) (a_part u)
  run_rewritten : {ss rs : StatementsOf Name} → LinesRewritten ss rs → BoundRewritten (a_run ss) (a_run rs)
  same_selector : (s : Name) → BoundRewritten (a_selector s) (a_selector s)
  same_keyword : (k : List ℕ) → BoundRewritten (a_keyword k) (a_keyword k)
  arguments_rewritten : {ts us : TreesOf Name} → (s : Name) → EachRewritten ts us → BoundRewritten (a_message s ts) (a_message s us)
