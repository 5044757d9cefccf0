-- Which edits can be stated by chunks.
use Rattle.std.specs.Prelude.{◌≡◌, ◌^◌, ◌≤◌, ◌<◌, ℕ, true, false, IsTrue, Some}
use Rattle.std.specs.List.{AllByRecursion}
use Rattle.token_model.specs.declared.kind.Dialect.TheVariants.{Second}
use Rattle.text_model.specs.Literals.{is_selector}
use Rattle.grammar_model.specs.Spelling.{SpellsDoIt, SpellsMethod}
use Rattle.image_model.specs.Image.{EntryOf, DoItOf}
use Rattle.file_model.specs.Changes.{DefinitionOf, ChangeOf, Define, DefineAt, Comment, SetClassSide, RemoveMethod, RemoveClass}
use Rattle.file_model.specs.Fileable.{MayStand}
use Rattle.file_model.specs.Filing.{Text}
use Rattle.file_model.specs.Words.{may_name}
use Rattle.file_model.specs.Written.{run_of}
use Rattle.change_model.specs.Edits.{Edit, Settle, Change, Put, Replace}

-- a name that may be given
abbrev pub MayName : Text → Type 0
MayName n = IsTrue (may_name n)

-- a number that a numeral of at most nine digits states: places and do-its are counted from 1
pub record IsStatedNumber (k : ℕ) : Type 0 where
  pub from : 1 ≤ k
  pub to : k < 10 ^ 9

-- a definition of names that may be given, under a class
pub record IsStatedDefinition (d : DefinitionOf Text) : Type 0 where
  pub above : Text
  pub under : d.superclass ≡ Some above
  pub above_named : MayName above
  pub named : MayName d.name
  pub instance : AllByRecursion MayName d.instance
  pub shared : AllByRecursion MayName d.shared

-- a change that can be stated
abbrev pub IsStatedChange : ChangeOf Text → Type 0
IsStatedChange (Define d) = IsStatedDefinition d
IsStatedChange (DefineAt d k) = IsStatedDefinition d × IsStatedNumber k
IsStatedChange (Comment n text) = MayName n
IsStatedChange (SetClassSide n names) = MayName n × AllByRecursion MayName names
IsStatedChange (RemoveMethod c meta s) = MayName c × (is_selector s ≡ true)
IsStatedChange (RemoveClass n) = MayName n

-- a method that can be put in at a place: its source spells it and may stand as a chunk
pub record IsStatedMethod (m : EntryOf Text) (k : ℕ) : Type 0 where
  pub class : MayName (run_of m).class
  pub spells : SpellsMethod Second false m.source m.tree
  pub stands : MayStand m.source
  pub place : IsStatedNumber k

-- a do-it of a number whose source spells it
pub record IsStatedDoIt (k : ℕ) (d : DoItOf Text) : Type 0 where
  pub number : IsStatedNumber k
  pub spells : SpellsDoIt Second d.source d.body

-- an edit that can be stated
abbrev pub IsStated : Edit → Type 0
IsStated Settle = Unit {0}
IsStated (Change c) = IsStatedChange c
IsStated (Put m k) = IsStatedMethod m k
IsStated (Replace k d) = IsStatedDoIt k d
