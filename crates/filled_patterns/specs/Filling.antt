-- The parts of a pattern that is filled: each is that of the texts, and each of its names has a number. Statements are made one after the other.
use Rattle.std.specs.Prelude.{◌≡◌, ℕ, ◌<◌, List, [], ◌∷◌, ◌++◌, length, map, nat_eq, Option, Some, None}
use Rattle.std.specs.List.{AllByRecursion, concat}
use Rattle.std.specs.Option.{option_map_or}
use Rattle.rb_base.specs.Names.{name_at, text_eq, HasNoTwice}
use Rattle.tree_model.specs.Tree.{Notes, TreeOf, var, TreesOf, MessagesOf, StatementsOf, more_statements, map_names, map_trees, map_messages, map_statements}
use Rattle.tree_model.specs.AllNames.{AllNames, TreesNames, MessagesNames, StatementsNames}
use Rattle.st_tree.specs.View.{statements_of}
use Rattle.st_tree.specs.declared.tree.Statement.{Statement}
use Rattle.event_trees.specs.Naming.{Grows}
use Rattle.pattern_model.specs.Patterns.{MetaOf, KeywordLike, this_keyword, any_keyword, SelectorLike, PatternOf, PatternsOf, MessagesLike, StatementsLike, list_meta}
use Rattle.pattern_model.specs.Bindings.{BoundOf, a_part, BindingOf, bound_of}
use Rattle.pattern_model.specs.Named.{map_selector, map_pattern, map_patterns, map_messages_like, map_statements_like, map_binding}
use Rattle.pattern_model.specs.Fill.{run_in, keyword_in, append_statements, EndedOf, noted, selector_filled, arguments_filled, filled, trees_filled, messages_filled, statements_filled}
use Rattle.pattern_match.specs.declared.bindings.Bound.{Bound}
use Rattle.pattern_match.specs.Bound as bound
use Rattle.filled_patterns.specs.Bound.{BindingNames}
use Rattle.filled_patterns.specs.declared.bindings.Binding.{Binding}
use Rattle.filled_patterns.specs.declared.sequences.Made.{Made}
use Rattle.filled_patterns.specs.Left.{Holds}

-- what is bound, or a variable of the name
abbrev pub bound_or : MetaOf ℕ → Option Bound → BoundOf ℕ
bound_or m None = a_part (var m.name)
bound_or m (Some b) = bound.bound_of b

-- the text of a keyword
abbrev pub keyword_text : List (BindingOf ℕ) → KeywordLike ℕ → List ℕ
keyword_text bs (this_keyword k) = k
keyword_text bs (any_keyword m) = keyword_in (bound_of nat_eq bs m)

-- a later table of names, in which no text has two numbers
pub record Later (names final : List (List ℕ)) : Type 0 where
  pub grows : Grows names final
  pub distinct : HasNoTwice final

-- each name in what metavariables are bound to has a number
abbrev pub AreKnown : List (List ℕ) → List (BindingOf ℕ) → Type 0
AreKnown names bs = AllByRecursion (BindingNames (λ n. n < length names)) bs

-- true of all bindings that are held, where their names have numbers
abbrev pub Over : List (List ℕ) → List Binding → (List (BindingOf ℕ) → Type 0) → Type 0
Over names s R = (bs : List (BindingOf ℕ)) → Holds bs s → AreKnown names bs → R bs

-- statements that are made, and the comments that wait for the next one
abbrev pub State : Type 0
State = List Statement × Notes

abbrev pub state_of : Made → State
state_of m = (m.statements.items, m.waiting)

-- one more statement, behind the comments that wait
abbrev pub put_one : State → Notes → TreeOf ℕ → State
put_one s c t = (s.0 ++ record { comments = s.1 ++ c; node = t } ∷ [], [])

abbrev pub put_all : State → List Statement → State
put_all s [] = s
put_all s (r ∷ rs) = put_all (put_one s r.comments r.node) rs

-- more comments that wait
abbrev pub with_notes : State → Notes → State
with_notes s c = (s.0, s.1 ++ c)

-- the statements in front of others
abbrev pub joined_up : {N : Type 0} → (ℕ → N) → State → EndedOf N → EndedOf N
joined_up f s r = let rest : EndedOf _ = noted s.1 r.0 r.1 in (append_statements (map_statements f (statements_of s.0)) rest.0, rest.1)

module _ (names : List (List ℕ)) where
  -- a name that has a number
  abbrev pub Known : ℕ → Type 0
  Known n = n < length names

  module _ (bs : List (BindingOf ℕ)) where
    -- what a metavariable is bound to, in texts
    abbrev pub bound_texts : MetaOf (List ℕ) → BoundOf (List ℕ)
    bound_texts m = bound_of text_eq (map (map_binding (name_at names)) bs) m

    -- of a selector
    pub record IsChosen (s : SelectorLike ℕ) (n : ℕ) : Type 0 where
      pub same : name_at names n ≡ selector_filled bound_texts concat (map_selector (name_at names) s)
      pub known : Known n

    -- of a pattern, and of patterns
    pub record IsFilled (p : PatternOf ℕ) (t : TreeOf ℕ) : Type 0 where
      pub same : map_names (name_at names) t ≡ filled bound_texts concat (map_pattern (name_at names) p)
      pub known : AllNames Known t

    pub record AreFilled (ps : PatternsOf ℕ) (ts : TreesOf ℕ) : Type 0 where
      pub same : map_trees (name_at names) ts ≡ trees_filled bound_texts concat (map_patterns (name_at names) ps)
      pub known : TreesNames Known ts

    -- of a message, and of messages
    pub record IsMessageFilled (s : SelectorLike ℕ) (ps : PatternsOf ℕ) (n : ℕ) (ts : TreesOf ℕ) : Type 0 where
      pub selector : IsChosen s n
      pub same : map_trees (name_at names) ts ≡ arguments_filled bound_texts concat (map_selector (name_at names) s) (trees_filled bound_texts concat (map_patterns (name_at names) ps))
      pub known : TreesNames Known ts

    pub record AreMessagesFilled (ps : MessagesLike ℕ) (ms : MessagesOf ℕ) : Type 0 where
      pub same : map_messages (name_at names) ms ≡ messages_filled bound_texts concat (map_messages_like (name_at names) ps)
      pub known : MessagesNames Known ms

    -- of a statement that is put behind others
    abbrev pub statement_filled : PatternOf ℕ → EndedOf (List ℕ) → StatementsOf (List ℕ)
    statement_filled p r =
        option_map_or (λ m. append_statements (run_in (bound_texts m)) r.0) (list_meta (map_pattern (name_at names) p)) (more_statements [] (filled bound_texts concat (map_pattern (name_at names) p)) r.0)

    pub record IsPut (c : Notes) (p : PatternOf ℕ) (before after : State) : Type 0 where
      pub same : (r : EndedOf (List ℕ)) → joined_up (name_at names) after r ≡ joined_up (name_at names) before (noted c (statement_filled p r) r.1)
      pub known : StatementsNames Known (statements_of before.0) → StatementsNames Known (statements_of after.0)

    -- of the statements of a list, where the rest is left
    pub record AreMade (all rest : StatementsLike ℕ) (e : Notes) (s : State) : Type 0 where
      pub same : joined_up (name_at names) s (statements_filled bound_texts concat (map_statements_like (name_at names) rest) e) ≡ statements_filled bound_texts concat (map_statements_like (name_at names) all) e
      pub known : StatementsNames Known (statements_of s.0)

    -- of the body of a block
    pub record IsSequenceFilled (ps : StatementsLike ℕ) (e : Notes) (ss : StatementsOf ℕ) (tail : Notes) : Type 0 where
      pub same : (map_statements (name_at names) ss, tail) ≡ statements_filled bound_texts concat (map_statements_like (name_at names) ps) e
      pub known : StatementsNames Known ss
