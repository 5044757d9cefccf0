-- What is answered where a chunk is read.
use Rattle.std.specs.Prelude.{◌≡◌, Bool, Some, None, Ok, Err, Result}
use Rattle.std.specs.Result.{result_map_both}
use Rattle.rb_base.specs.Names.{text_eq}
use Rattle.token_model.specs.declared.kind.Dialect.TheVariants.{Second}
use Rattle.tree_model.specs.Tree.{SequenceOf}
use Rattle.grammar_model.specs.Whole.{DoIt}
use Rattle.grammar_model.specs.Checks.{Fault}
use Rattle.grammar_model.specs.Spelling.{SpellsDoIt, HasFirstFault}
use Rattle.file_model.specs.Causes.{Cause}
use Rattle.file_model.specs.Changes.{ChangeOf}
use Rattle.file_model.specs.Applied.{changed}
use Rattle.file_model.specs.Places.{places_after}
use Rattle.file_model.specs.Forms.{Replacement}
use Rattle.file_model.specs.Filing.{Text, Filing, Item, ReplacementChunk, Faulty, goes_on, taken}
use Rattle.file_model.specs.Reading.{IsItem}
use Rattle.file_faults.specs.Faults.{cause_of}
use Rattle.file_reading.specs.Filed.{filed, IsSoundSoFar}
use Rattle.file_reading.specs.declared.reading.Progress.{Progress}
use Rattle.file_reading.specs.declared.reading.Stop.{Stop}
use Rattle.file_reading.specs.declared.reading.Stop.TheVariants as stop

-- the answer is what was read then, or a cause, of which the fact holds, or want of memory
abbrev pub Answers : (Result Filing Cause → Type 0) → Result Progress Stop → Type 0
Answers P (Ok new) = IsSoundSoFar new × P (Ok (filed new))
Answers P (Err (stop.Refused cause)) = (k : Cause) × (cause_of cause ≡ Some k) × P (Err k)
Answers P (Err stop.Memory) = Unit {0}

-- what a change makes
abbrev pub change_taken : Bool → Filing → ChangeOf Text → Result Filing Cause
change_taken kernel f c = result_map_both (goes_on (places_after text_eq c f.places) None) (λ e. e) (changed text_eq kernel c f.image)

-- a source makes this, or is refused with this cause
pub record TakesSource (kernel : Bool) (old : Filing) (source : Text) (r : Result Filing Cause) : Type 0 where
  pub item : Item
  pub is_item : IsItem Second kernel old.run source item
  pub result : r ≡ taken Second kernel old item

-- what a chunk is that replaces a do-it, by what the source in it spells
pub data IsReplacing (r : Replacement) : Item → Type 0 where
  Spells : {b : SequenceOf Text} → SpellsDoIt Second r.source b → IsReplacing r (ReplacementChunk r b)
  HasFault : {fault : Fault} → HasFirstFault Second DoIt r.source fault → IsReplacing r (Faulty fault)

-- a replacement of a do-it makes this, or is refused with this cause
pub record Replaces (kernel : Bool) (old : Filing) (replacement : Replacement) (r : Result Filing Cause) : Type 0 where
  pub item : Item
  pub is_item : IsReplacing replacement item
  pub result : r ≡ taken Second kernel old item
