-- What the text of a pattern and the two texts of a rule say, and why they are refused.
use Rattle.std.specs.Prelude.{◌≡◌, ℕ, false, Some, None}
use Rattle.rb_base.specs.Names.{text_eq}
use Rattle.token_model.specs.declared.kind.Dialect.TheVariants.{Second}
use Rattle.grammar_model.specs.Terminal.{Text}
use Rattle.grammar_model.specs.Spanned.{SpannedTree, plain_tree}
use Rattle.grammar_model.specs.Checks.{Fault}
use Rattle.grammar_model.specs.Whole.{PatternText}
use Rattle.grammar_model.specs.Spelling.{SpellsPatternAt, HasFirstFaultAs}
use Rattle.pattern_model.specs.Patterns.{PatternOf}
use Rattle.pattern_model.specs.Spelled.{pattern_of}
use Rattle.pattern_model.specs.Rewritten.{RuleOf}
use Rattle.pattern_trees.specs.Faults.{two_lists, meta_places, unbound_in_replacement, twice_doubled}

-- the text spells this pattern, in which no sequence has two lists of statements
pub record SaysPattern (text : Text) (p : PatternOf Text) : Type 0 where
  pub tree : SpannedTree
  pub spells : SpellsPatternAt Second text tree
  pub one_list : two_lists tree ≡ None
  pub same : p ≡ pattern_of (plain_tree tree)

-- why a text is refused, with the place of the fault in it
pub data Cause : Type 0 where
  Grammar : Fault → Cause
  TwoLists : ℕ → Cause
  UnboundInReplacement : ℕ → Cause
  TwiceDoubled : ℕ → Cause

-- the first fault of the text of a pattern: one of the grammar, or else a second list of statements in a sequence
pub data IsRefusedPattern (text : Text) : Cause → Type 0 where
  by_grammar : (f : Fault) → HasFirstFaultAs PatternText text f → IsRefusedPattern text (Grammar f)
  by_lists : (tree : SpannedTree) (at : ℕ) → SpellsPatternAt Second text tree → two_lists tree ≡ Some at → IsRefusedPattern text (TwoLists at)

-- the text of a replacement spells this pattern, too, and its metavariables are those of a rule with the first one: each is bound, and none stands twice that the first one doubles
pub record SaysReplacement (p : PatternOf Text) (text : Text) (q : PatternOf Text) : Type 0 where
  pub said : SaysPattern text q
  pub bound : unbound_in_replacement text_eq p q (meta_places false said.spells.tokens) ≡ None
  pub once : twice_doubled text_eq p q (meta_places false said.spells.tokens) ≡ None

-- the two texts of a rule say this rule
pub record SaysRule (first second : Text) (r : RuleOf Text) : Type 0 where
  pub pattern : SaysPattern first r.pattern
  pub replacement : SaysReplacement r.pattern second r.replacement

-- the first fault of a replacement: one of a pattern's text; or else a metavariable that the pattern does not have; or else one that stands a second time and that the pattern doubles
pub data IsRefusedReplacement (p : PatternOf Text) (text : Text) : Cause → Type 0 where
  as_pattern : (c : Cause) → IsRefusedPattern text c → IsRefusedReplacement p text c
  unbound : (q : PatternOf Text) (at : ℕ) → (s : SaysPattern text q) → unbound_in_replacement text_eq p q (meta_places false s.spells.tokens) ≡ Some at → IsRefusedReplacement p text (UnboundInReplacement at)
  twice : (q : PatternOf Text) (at : ℕ) → (s : SaysPattern text q) → unbound_in_replacement text_eq p q (meta_places false s.spells.tokens) ≡ None → twice_doubled text_eq p q (meta_places false s.spells.tokens) ≡ Some at →
      IsRefusedReplacement p text (TwiceDoubled at)
