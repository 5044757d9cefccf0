-- What becomes of the parts of code: each part is what its text becomes, and each of its names has a number.
use Rattle.std.specs.Prelude.{◌≡◌, ℕ, ◌<◌, Bool, true, false, List, [], ◌∷◌, length, map, Some, None}
use Rattle.std.specs.List.{AllByRecursion, concat}
use Rattle.std.specs.Option.{option_map_or}
use Rattle.rb_base.specs.Names.{text_eq, name_at}
use Rattle.tree_model.specs.Tree.{TreeOf, map_names}
use Rattle.tree_model.specs.AllNames.{AllNames}
use Rattle.st_tree.specs.declared.tree.Message.{Message}
use Rattle.st_tree.specs.declared.tree.Statement.{Statement}
use Rattle.pattern_model.specs.Patterns.{MetaOf, PatternOf, meta}
use Rattle.pattern_model.specs.Bindings.{BoundOf, BindingOf}
use Rattle.pattern_model.specs.Words.{text_pattern_words}
use Rattle.pattern_model.specs.Named.{map_pattern, map_bound, map_binding}
use Rattle.pattern_model.specs.Fill.{fill}
use Rattle.pattern_model.specs.MatchTree.{match_tree}
use Rattle.pattern_model.specs.Rewritten.{RuleOf, each_bound, each_doubled, rewritten}
use Rattle.patterns.specs.Names.{PatternNames}
use Rattle.patterns.specs.declared.tree.Rule.{Rule}
use Rattle.filled_patterns.specs.declared.bindings.Binding.{Binding}
use Rattle.filled_patterns.specs.Bound.{BoundNames, BindingNames}
use Rattle.filled_patterns.specs.Left.{HoldsOne, Holds}

-- whether a pattern is one doubled metavariable
abbrev pub is_whole : {N : Type 0} → PatternOf N → Bool
is_whole (meta m) = m.doubled
is_whole p = false

-- a pattern is this doubled metavariable
pub record IsWhole {N : Type 0} (p : PatternOf N) (m : MetaOf N) : Type 0 where
  pub same : p ≡ meta m
  pub doubled : m.doubled ≡ true

-- two lists of one length, whose items are related in turn
abbrev pub Paired : {X : Type 0} → (X → X → Type 0) → List X → List X → Type 0
Paired R [] [] = Unit {0}
Paired R [] (y ∷ ys) = ⊥
Paired R (x ∷ xs) [] = ⊥
Paired R (x ∷ xs) (y ∷ ys) = R x y × Paired R xs ys

module _ (names : List (List ℕ)) where
  -- a name that has a number
  abbrev pub Known : ℕ → Type 0
  Known n = n < length names

  -- the names of a rule do
  pub record RuleNames (r : Rule) : Type 0 where
    pub pattern : PatternNames Known r.pattern
    pub replacement : PatternNames Known r.replacement

  -- a rule of texts
  abbrev pub rule_at : Rule → RuleOf (List ℕ)
  rule_at r = record { pattern = map_pattern (name_at names) r.pattern; replacement = map_pattern (name_at names) r.replacement }

  -- what becomes of a node, and where no part of it is looked at
  unfoldable pub becomes : Rule → TreeOf (List ℕ) → TreeOf (List ℕ)
  becomes r t = rewritten text_pattern_words concat (rule_at r) t

  unfoldable pub replaced : Rule → TreeOf (List ℕ) → TreeOf (List ℕ)
  replaced r t =
      option_map_or (λ bs. fill text_eq concat bs (map_pattern (name_at names) r.replacement)) (match_tree text_pattern_words (map_pattern (name_at names) r.pattern) t) t

  -- what a pattern binds in a node
  pub record AreBoundIn (p : PatternOf ℕ) (t : TreeOf ℕ) (bs : List (BindingOf ℕ)) : Type 0 where
    pub matched : match_tree text_pattern_words (map_pattern (name_at names) p) (map_names (name_at names) t) ≡ Some (map (map_binding (name_at names)) bs)
    pub known : AllByRecursion (BindingNames Known) bs

  -- a pattern does not match a node
  pub record IsNoMatch (p : PatternOf ℕ) (t : TreeOf ℕ) : Type 0 where
    pub unmatched : match_tree text_pattern_words (map_pattern (name_at names) p) (map_names (name_at names) t) ≡ None

  module _ (f : TreeOf (List ℕ) → TreeOf (List ℕ)) where
    -- of a node
    pub record IsChanged (t u : TreeOf ℕ) : Type 0 where
      pub same : map_names (name_at names) u ≡ f (map_names (name_at names) t)
      pub known : AllNames Known u

    -- of a message
    pub record IsMessageChanged (m n : Message) : Type 0 where
      pub selector : n.selector ≡ m.selector
      pub known : Known n.selector
      pub arguments : Paired IsChanged m.arguments n.arguments

    -- of a statement
    pub record IsStatementChanged (s u : Statement) : Type 0 where
      pub comments : u.comments ≡ s.comments
      pub node : IsChanged s.node u.node

    -- of what a doubled metavariable is bound to
    pub record IsBoundChanged (b d : BoundOf ℕ) : Type 0 where
      pub same : map_bound (name_at names) d ≡ each_bound f (map_bound (name_at names) b)
      pub known : BoundNames Known d

    -- of a binding, which is held
    pub record IsBindingChanged (b : BindingOf ℕ) (s : Binding) : Type 0 where
      pub binding : BindingOf ℕ
      pub held : HoldsOne binding s
      pub same : map_binding (name_at names) binding ≡ each_doubled f (map_binding (name_at names) b)
      pub known : BindingNames Known binding

    -- of bindings, which are held
    pub record AreChanged (bs : List (BindingOf ℕ)) (ss : List Binding) : Type 0 where
      pub bindings : List (BindingOf ℕ)
      pub held : Holds bindings ss
      pub same : map (map_binding (name_at names)) bindings ≡ map (each_doubled f) (map (map_binding (name_at names)) bs)
      pub known : AllByRecursion (BindingNames Known) bindings
