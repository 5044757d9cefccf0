-- The marks of patterns over numbers: the metavariables that are nodes, and the selectors with metavariables.
use Rattle.std.specs.Prelude.{ℕ, Bool, true, false, nat_eq, List, [], ◌∷◌, ◌++◌}
use Rattle.std.specs.Cmp.Lexicographic.{pointwise}
use Rattle.rb_base.specs.Names.{text_eq}
use Rattle.pattern_model.specs.Patterns.{MetaOf, KeywordLike, this_keyword, any_keyword, SelectorLike, this_selector, any_unary, of_keywords, any_message, PatternOf, meta, var_like, literal_like, send_like, cascade_like, assign_like, block_like, brace_like, return_like, PatternsOf, no_patterns, more_patterns, MessagesLike, no_messages_like, more_messages_like, StatementsLike, no_statements_like, more_statements_like}
use Rattle.pattern_model.specs.Bindings.{same_meta}
use Rattle.pattern_model.specs.Named.{map_selector}
use Rattle.patterns.specs.View.{meta_of, selector_of}
use Rattle.certified_model.specs.Marks.{Text, Mark, marked, selector_mark}
use Rattle.derivations.specs.declared.marks.Mark as program
use Rattle.derivations.specs.declared.marks.Mark.TheVariants as mark

-- a metavariable as a node, or a selector
pub data Sign : Type 0 where
  of_node : MetaOf ℕ → Sign
  of_selector : SelectorLike ℕ → Sign

abbrev pub sign_of : program.Mark → Sign
sign_of (mark.Node m) = of_node (meta_of m)
sign_of (mark.Selector s) = of_selector (selector_of s)

-- its mark, by the texts of its names
abbrev pub mark_by : (ℕ → Text) → Sign → Mark
mark_by f (of_node m) = marked m.kind (f m.name)
mark_by f (of_selector s) = selector_mark (map_selector f s)

-- whether two are the same; metavariables are if kind and name are
abbrev pub same_keyword : KeywordLike ℕ → KeywordLike ℕ → Bool
same_keyword (this_keyword a) (this_keyword b) = text_eq a b
same_keyword (this_keyword a) (any_keyword n) = false
same_keyword (any_keyword m) (this_keyword b) = false
same_keyword (any_keyword m) (any_keyword n) = same_meta nat_eq m n

abbrev pub same_selector : SelectorLike ℕ → SelectorLike ℕ → Bool
same_selector (this_selector a) (this_selector b) = nat_eq a b
same_selector (any_unary m) (any_unary n) = same_meta nat_eq m n
same_selector (of_keywords ks) (of_keywords ls) = pointwise same_keyword ks ls
same_selector (any_message m) (any_message n) = same_meta nat_eq m n
same_selector s t = false

abbrev pub same_sign : Sign → Sign → Bool
same_sign (of_node m) (of_node n) = same_meta nat_eq m n
same_sign (of_node m) (of_selector t) = false
same_sign (of_selector s) (of_node n) = false
same_sign (of_selector s) (of_selector t) = same_selector s t

-- any unary selector
abbrev pub is_unary_sign : Sign → Bool
is_unary_sign (of_node m) = false
is_unary_sign (of_selector (this_selector n)) = false
is_unary_sign (of_selector (any_unary m)) = true
is_unary_sign (of_selector (of_keywords ks)) = false
is_unary_sign (of_selector (any_message m)) = false

-- the marks of a pattern, in the order of the text; a selector that is spelled out has none
abbrev pub selector_signs : SelectorLike ℕ → List Sign
selector_signs (this_selector n) = []
selector_signs (any_unary m) = of_selector (any_unary m) ∷ []
selector_signs (of_keywords ks) = of_selector (of_keywords ks) ∷ []
selector_signs (any_message m) = of_selector (any_message m) ∷ []

abbrev mutual
  pub signs : PatternOf ℕ → List Sign
  signs (meta m) = of_node m ∷ []
  signs (var_like n) = []
  signs (literal_like l) = []
  signs (send_like r s ps) = signs r ++ (selector_signs s ++ trees_signs ps)
  signs (cascade_like r ms) = signs r ++ messages_signs ms
  signs (assign_like n p) = signs p
  signs (block_like ps ts ss e) = statements_signs ss
  signs (brace_like ps) = trees_signs ps
  signs (return_like p) = signs p

  pub trees_signs : PatternsOf ℕ → List Sign
  trees_signs no_patterns = []
  trees_signs (more_patterns p ps) = signs p ++ trees_signs ps

  pub messages_signs : MessagesLike ℕ → List Sign
  messages_signs no_messages_like = []
  messages_signs (more_messages_like s ps ms) = (selector_signs s ++ trees_signs ps) ++ messages_signs ms

  pub statements_signs : StatementsLike ℕ → List Sign
  statements_signs no_statements_like = []
  statements_signs (more_statements_like c p ss) = signs p ++ statements_signs ss
