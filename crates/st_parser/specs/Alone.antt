-- The tree of a pattern as the one statement of a do-it.
use Rattle.std.specs.Prelude.{◌≡◌, []}
use Rattle.tree_model.specs.Tree.{TreeOf, SequenceOf, no_statements, more_statements}
use Rattle.grammar_model.specs.Terminal.{Text}
use Rattle.grammar_model.specs.Spelling.{SpellsPattern}

-- a tree as the one statement of a do-it, without temporaries and comments
abbrev pub alone : TreeOf Text → SequenceOf Text
alone t = record { temporaries = []; statements = more_statements [] t no_statements; tail = [] }

-- the text spells a pattern without any fault of the grammar, and this is its tree alone
pub record SpellsAlone (text : Text) (s : SequenceOf Text) : Type 0 where
  pub tree : TreeOf Text
  pub spells : SpellsPattern text tree
  pub same : s ≡ alone tree
