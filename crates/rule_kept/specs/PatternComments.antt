-- The comments in the blocks of a pattern.
use Rattle.pattern_model.specs.Patterns.{PatternOf, meta, var_like, literal_like, send_like, cascade_like, assign_like, block_like, brace_like, return_like, PatternsOf, no_patterns, more_patterns, MessagesLike, no_messages_like, more_messages_like, StatementsLike, no_statements_like, more_statements_like}
use Rattle.reread_law.specs.WellFormed.{AllNotes}
use Rattle.certified_model.specs.Marks.{Text}

-- each is one, as in what a text spells
abbrev mutual
  pub HasComments : PatternOf Text → Type 0
  HasComments (meta m) = Unit {0}
  HasComments (var_like n) = Unit {0}
  HasComments (literal_like l) = Unit {0}
  HasComments (send_like r s ps) = HasComments r × AllHaveComments ps
  HasComments (cascade_like r ms) = HasComments r × MessagesHaveComments ms
  HasComments (assign_like n p) = HasComments p
  HasComments (block_like ps ts ss e) = StatementsHaveComments ss × AllNotes e
  HasComments (brace_like ps) = AllHaveComments ps
  HasComments (return_like p) = HasComments p

  pub AllHaveComments : PatternsOf Text → Type 0
  AllHaveComments no_patterns = Unit {0}
  AllHaveComments (more_patterns p ps) = HasComments p × AllHaveComments ps

  pub MessagesHaveComments : MessagesLike Text → Type 0
  MessagesHaveComments no_messages_like = Unit {0}
  MessagesHaveComments (more_messages_like s ps ms) = AllHaveComments ps × MessagesHaveComments ms

  pub StatementsHaveComments : StatementsLike Text → Type 0
  StatementsHaveComments no_statements_like = Unit {0}
  StatementsHaveComments (more_statements_like c p ss) = AllNotes c × HasComments p × StatementsHaveComments ss
