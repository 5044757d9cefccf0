-- What the text of a pattern says, put together.
use Rattle.std.proofs.Common.{◌≡◌, ℕ, ◌<◌, false, List, [], ◌∷◌, length, Option, Some, None, refl, sym, ap, subst, ◌∙◌, arith}
use Rattle.std.specs.Prelude.{MatchOption, option_map, nat_eq}
use Rattle.std.proofs.lemmas.List.{map-append}
use Rattle.rb_base.specs.Names.{text_eq, name_at, HasNoTwice}
use Rattle.tree_model.specs.Tree.{TreeOf, StatementsOf, no_statements, more_statements, SequenceOf, map_names, map_statements, map_sequence}
use Rattle.tree_model.specs.AllNames.{AllNames, StatementsNames, SequenceNames}
use Rattle.st_tree.specs.View.{statements_of, sequence_of}
use Rattle.st_tree.specs.declared.tree.Statement.{Statement}
use Rattle.st_tree.specs.declared.tree.Sequence.{Sequence}
use Rattle.grammar_model.specs.Terminal.{Text}
use Rattle.grammar_model.specs.Input.{Lexeme}
use Rattle.grammar_model.specs.Checks.{Fault}
use Rattle.grammar_model.specs.Whole.{PatternText, alone}
use Rattle.grammar_model.specs.Spanned.{SpannedTree, plain_tree, plain_sequence}
use Rattle.grammar_model.specs.Spelling.{HasFirstFaultAs}
use Rattle.event_spans.specs.Answers.{sequence_spans}
use Rattle.event_spans.specs.Nodes.{tree_nodes}
use Rattle.event_trees.specs.Naming.{Grows}
use Rattle.pattern_model.specs.Patterns.{PatternOf}
use Rattle.pattern_model.specs.Named.{map_pattern}
use Rattle.patterns.specs.Names.{PatternNames}
use Rattle.pattern_trees.specs.Faults.{two_lists, meta_places, unbound_in_replacement, twice_doubled}
use Rattle.pattern_trees.proofs.Growing.{still_known, same_text}
use Rattle.rewrite_model.specs.Saying.{Cause, Grammar, IsRefusedPattern, by_grammar, SaysPattern, SaysReplacement, IsRefusedReplacement, as_pattern, unbound, twice, UnboundInReplacement, TwiceDoubled}
use Rattle.pattern_faults.specs.Lists.{State, spells_list, walked}
use Rattle.pattern_faults.proofs.SecondLists.{spanned, walked_mapped, walked_finds}
use Rattle.pattern_faults.proofs.Numbers.{unbound_same, twice_same}
use Rattle.pattern_faults.proofs.PatternsSame.{pattern_same, pattern_implies}

-- a fault of the grammar is the text's
pub grammar_told : (text : Text) (o : Option Fault) → MatchOption o (Unit {0}) (HasFirstFaultAs PatternText text) → MatchOption (option_map Grammar o) (Unit {0}) (IsRefusedPattern text)
grammar_told text None h = tt
grammar_told text (Some f) h = by_grammar f h

-- a fault of a pattern's text is one of a replacement's
pub replacement_told : (p : PatternOf Text) (text : Text) (o : Option Cause) → MatchOption o (Unit {0}) (IsRefusedPattern text) → MatchOption o (Unit {0}) (IsRefusedReplacement p text)
replacement_told p text None h = tt
replacement_told p text (Some c) h = as_pattern c h

-- the one statement of a pattern
module _ (names : List Text) (ts : List Lexeme) (tree : SpannedTree) (body : Sequence) (built : map_sequence (name_at names) (sequence_of body) ≡ plain_sequence (alone ts tree)) where
  abbrev first_of_them : TreeOf Text → StatementsOf Text → TreeOf Text
  first_of_them t no_statements = t
  first_of_them t (more_statements c u ss) = u

  none_of : (xs : List Statement) → length xs ≡ 0 → xs ≡ []
  none_of [] e = refl
  none_of (x ∷ xs) e = let bad : ⊥ = omega (arith, e) in absurd bad

  pub has_statement : length body.statements ≡ 0 → ⊥
  has_statement n =
      let e : body.statements ≡ [] = none_of body.statements n in
      let none : no_statements ≡ more_statements [] (plain_tree tree) no_statements = sym (ap (λ (ss : List Statement). map_statements (name_at names) (statements_of ss)) e) ∙ ap (λ (b : SequenceOf Text). b.statements) built in
      let bad : ⊥ = cc none in bad

  module _ (s : Statement) (rest : List Statement) (is : body.statements ≡ s ∷ rest) where
    pub same_node : map_names (name_at names) s.node ≡ plain_tree tree
    same_node =
        ap (first_of_them (plain_tree tree)) (sym (ap (λ (ss : List Statement). map_statements (name_at names) (statements_of ss)) is) ∙ ap (λ (b : SequenceOf Text). b.statements) built)

    pub node_known : SequenceNames (λ n. n < length names) (sequence_of body) → AllNames (λ n. n < length names) s.node
    node_known h = (subst (λ (ss : List Statement). StatementsNames (λ n. n < length names) (statements_of ss)) is h.statements).0

    -- where the second list stands
    pub second_list : (w : State) → w ≡ walked (λ n. spells_list (name_at names n)) false s.node (sequence_spans (alone ts tree), None) → w.1 ≡ two_lists tree
    second_list w e =
        ap (λ (v : State). v.1)
        (e
        ∙ sym (walked_mapped spells_list (name_at names) false s.node (sequence_spans (alone ts tree), None))
        ∙ (λ i. walked spells_list false (same_node i) (map-append spanned (tree_nodes (0 ∷ []) tree) [] i, None))
        ∙ walked_finds tree (0 ∷ []) [] None)

-- the later names of a pattern are the earlier ones
module _ {names later : List Text} (g : Grows names later) (p : PatternOf ℕ) (h : PatternNames (λ n. n < length names) p) where
  pub pattern_kept : map_pattern (name_at later) p ≡ map_pattern (name_at names) p
  pattern_kept = pattern_same (λ n. n < length names) (name_at later) (name_at names) (same_text g) p h

  pub pattern_known : PatternNames (λ n. n < length later) p
  pattern_known = pattern_implies (λ n. n < length names) (λ n. n < length later) (still_known g) p h

-- what the metavariables of a replacement say
module _ (names : List Text) (distinct : HasNoTwice names) (p q : PatternOf ℕ) (h : PatternNames (λ n. n < length names) p) (g : PatternNames (λ n. n < length names) q) (text : Text) (said : SaysPattern text (map_pattern (name_at names) q))
    (fs : List ℕ) (placed : fs ≡ meta_places false said.spells.tokens) where
  first_unbound : unbound_in_replacement text_eq (map_pattern (name_at names) p) (map_pattern (name_at names) q) (meta_places false said.spells.tokens) ≡ unbound_in_replacement nat_eq p q fs
  first_unbound = ap (unbound_in_replacement text_eq (map_pattern (name_at names) p) (map_pattern (name_at names) q)) (sym placed) ∙ unbound_same names distinct p q fs h g

  first_twice : twice_doubled text_eq (map_pattern (name_at names) p) (map_pattern (name_at names) q) (meta_places false said.spells.tokens) ≡ twice_doubled nat_eq p q fs
  first_twice = ap (twice_doubled text_eq (map_pattern (name_at names) p) (map_pattern (name_at names) q)) (sym placed) ∙ twice_same names distinct p q fs h g

  pub replacement_said : unbound_in_replacement nat_eq p q fs ≡ None → twice_doubled nat_eq p q fs ≡ None → SaysReplacement (map_pattern (name_at names) p) text (map_pattern (name_at names) q)
  replacement_said a b = record { said = said; bound = first_unbound ∙ a; once = first_twice ∙ b }

  pub unbound_told : (at : ℕ) → unbound_in_replacement nat_eq p q fs ≡ Some at → IsRefusedReplacement (map_pattern (name_at names) p) text (UnboundInReplacement at)
  unbound_told at a = unbound (map_pattern (name_at names) q) at said (first_unbound ∙ a)

  pub twice_told : (at : ℕ) → unbound_in_replacement nat_eq p q fs ≡ None → twice_doubled nat_eq p q fs ≡ Some at → IsRefusedReplacement (map_pattern (name_at names) p) text (TwiceDoubled at)
  twice_told at a b = twice (map_pattern (name_at names) q) at said (first_unbound ∙ a) (first_twice ∙ b)
