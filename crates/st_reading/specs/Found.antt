-- What is found in a text without any fault.
use Rattle.std.specs.Prelude.{◌≡◌, Bool}
use Rattle.token_model.specs.declared.kind.Dialect.TheVariants.{Second}
use Rattle.grammar_model.specs.Terminal.{Text}
use Rattle.grammar_model.specs.Spanned.{SpannedTree, SpannedSequence, SpannedMethod}
use Rattle.grammar_model.specs.Whole.{alone}
use Rattle.grammar_model.specs.Spelling.{SpellsDoItAt, SpellsMethodAt, SpellsPatternAt}
use Rattle.parse_events.specs.declared.event.SequenceEvents.{SequenceEvents}
use Rattle.parse_events.specs.declared.event.MethodEvents.{MethodEvents}
use Rattle.parse_events.specs.Found.{sequence_events, method_events}

-- the text is a do-it without any fault, and these are the events of its tree
pub record IsDoItFound (text : Text) (found : SequenceEvents) : Type 0 where
  pub tree : SpannedSequence
  pub spells : SpellsDoItAt Second text tree
  pub same : found ≡ sequence_events tree

-- the text is a method without any fault, and these are the events of its tree
pub record IsMethodFound (kernel : Bool) (text : Text) (found : MethodEvents) : Type 0 where
  pub tree : SpannedMethod
  pub spells : SpellsMethodAt Second kernel text tree
  pub same : found ≡ method_events tree

-- the text is a pattern without any fault, and these are the events of its tree as the one statement of a do-it
pub record IsPatternFound (text : Text) (found : SequenceEvents) : Type 0 where
  pub tree : SpannedTree
  pub spells : SpellsPatternAt Second text tree
  pub same : found ≡ sequence_events (alone spells.tokens tree)
