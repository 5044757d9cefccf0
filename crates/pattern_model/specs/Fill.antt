-- A pattern that is filled: the node in which each metavariable is replaced by what it is bound to.
use Rattle.std.specs.Prelude.{ℕ, Bool, List, [], ◌++◌, map, ◌≡◌, true, false}
use Rattle.std.specs.List.{AllByRecursion}
use Rattle.std.specs.Option.{option_map_or}
use Rattle.tree_model.specs.Tree.{Notes, TreeOf, var, literal, send, cascade, assign, block, brace, return, TreesOf, no_trees, more_trees, MessagesOf, no_messages, more_messages, StatementsOf, no_statements, more_statements}
use Rattle.pattern_model.specs.declared.kinds.MetaKind.{MetaKind}
use Rattle.pattern_model.specs.declared.kinds.MetaKind.TheVariants.{Name, Constant, Expression, Statement, StatementList, Unary, Keyword, Message}
use Rattle.pattern_model.specs.Patterns.{metas, MetaOf, KeywordLike, this_keyword, any_keyword, SelectorLike, this_selector, any_unary, of_keywords, any_message, PatternOf, meta, var_like, literal_like, send_like, cascade_like, assign_like, block_like, brace_like, return_like, PatternsOf, no_patterns, more_patterns, MessagesLike, no_messages_like, more_messages_like, StatementsLike, no_statements_like, more_statements_like, list_meta}
use Rattle.pattern_model.specs.Bindings.{BoundOf, a_part, a_run, a_selector, a_keyword, a_message, BindingOf, bound_of}

-- the node, the statements, the selector, the keyword that is bound
abbrev pub part_in : {N : Type 0} → N → BoundOf N → TreeOf N
part_in n (a_part t) = t
part_in n b = var n

abbrev pub run_in : {N : Type 0} → BoundOf N → StatementsOf N
run_in (a_run ss) = ss
run_in b = no_statements

abbrev pub selector_in : {N : Type 0} → N → BoundOf N → N
selector_in n (a_selector s) = s
selector_in n (a_message s ts) = s
selector_in n b = n

abbrev pub keyword_in : {N : Type 0} → BoundOf N → List ℕ
keyword_in (a_keyword k) = k
keyword_in b = []

abbrev pub arguments_in : {N : Type 0} → BoundOf N → TreesOf N
arguments_in (a_message s ts) = ts
arguments_in b = no_trees

-- statements before others
abbrev pub append_statements : {N : Type 0} → StatementsOf N → StatementsOf N → StatementsOf N
append_statements no_statements rs = rs
append_statements (more_statements c t ss) rs = more_statements c t (append_statements ss rs)

-- statements and the comments at their end
abbrev pub EndedOf : Type 0 → Type 0
EndedOf N = StatementsOf N × Notes

-- more comments in front: they go to the first statement, or to the end where there is none
abbrev pub noted : {N : Type 0} → Notes → StatementsOf N → Notes → EndedOf N
noted c no_statements e = (no_statements, c ++ e)
noted c (more_statements d t ss) e = (more_statements (c ++ d) t ss, e)

abbrev pub block_of : {N : Type 0} → List N → List N → EndedOf N → TreeOf N
block_of ps ts e = block ps ts e.0 e.1

-- what each metavariable is bound to, and the selector that keywords make
module _ {N : Type 0} (bound : MetaOf N → BoundOf N) (joined : List (List ℕ) → N) where
  abbrev pub keyword_filled : KeywordLike N → List ℕ
  keyword_filled (this_keyword k) = k
  keyword_filled (any_keyword m) = keyword_in (bound m)

  abbrev pub selector_filled : SelectorLike N → N
  selector_filled (this_selector n) = n
  selector_filled (any_unary m) = selector_in m.name (bound m)
  selector_filled (of_keywords ks) = joined (map keyword_filled ks)
  selector_filled (any_message m) = selector_in m.name (bound m)

  -- any message has its own arguments
  abbrev pub arguments_filled : SelectorLike N → TreesOf N → TreesOf N
  arguments_filled (any_message m) ts = arguments_in (bound m)
  arguments_filled s ts = ts

  abbrev mutual
    pub filled : PatternOf N → TreeOf N
    filled (meta m) = part_in m.name (bound m)
    filled (var_like n) = var n
    filled (literal_like l) = literal l
    filled (send_like r s ps) = send (filled r) (selector_filled s) (arguments_filled s (trees_filled ps))
    filled (cascade_like r ms) = cascade (filled r) (messages_filled ms)
    filled (assign_like n p) = assign n (filled p)
    filled (block_like ps ts ss e) = block_of ps ts (statements_filled ss e)
    filled (brace_like ps) = brace (trees_filled ps)
    filled (return_like p) = return (filled p)

    pub trees_filled : PatternsOf N → TreesOf N
    trees_filled no_patterns = no_trees
    trees_filled (more_patterns p ps) = more_trees (filled p) (trees_filled ps)

    pub messages_filled : MessagesLike N → MessagesOf N
    messages_filled no_messages_like = no_messages
    messages_filled (more_messages_like s ps ms) = more_messages (selector_filled s) (arguments_filled s (trees_filled ps)) (messages_filled ms)

    -- a list of statements keeps its comments; those of its metavariable stand before them
    pub statements_filled : StatementsLike N → Notes → EndedOf N
    statements_filled no_statements_like e = (no_statements, e)
    statements_filled (more_statements_like c p ss) e =
        let rest : EndedOf N = statements_filled ss e in
        noted c (option_map_or (λ m. append_statements (run_in (bound m)) rest.0) (list_meta p) (more_statements [] (filled p) rest.0)) rest.1

-- the node that results when each metavariable is replaced by what it is bound to
abbrev pub fill : {N : Type 0} → (N → N → Bool) → (List (List ℕ) → N) → List (BindingOf N) → PatternOf N → TreeOf N
fill same joined bs p = filled (bound_of same bs) joined p

-- whether what is bound has the form for a kind: a node, statements, a selector, a keyword, or a message
abbrev pub has_form : {N : Type 0} → MetaKind → BoundOf N → Bool
has_form StatementList (a_run ss) = true
has_form Unary (a_selector s) = true
has_form Keyword (a_keyword k) = true
has_form Message (a_message s ts) = true
has_form Name (a_part t) = true
has_form Constant (a_part t) = true
has_form Expression (a_part t) = true
has_form Statement (a_part t) = true
has_form k b = false

-- each metavariable of a pattern is bound, in its form
abbrev pub AreBound : {N : Type 0} → (N → N → Bool) → List (BindingOf N) → PatternOf N → Type 0
AreBound same bs p = AllByRecursion (λ m. has_form m.kind (bound_of same bs m) ≡ true) (metas p)
