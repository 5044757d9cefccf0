-- What a chunk says, over numbers of names.
use Rattle.std.specs.Prelude.{ℕ, List}
use Rattle.rb_base.specs.Names.{name_at}
use Rattle.file_model.specs.Causes.{PoolsNotEmpty, UnknownDefinition}
use Rattle.file_model.specs.Changes.{DefineAt, map_change, map_run}
use Rattle.file_model.specs.Forms as forms
use Rattle.file_model.specs.Forms.{Form}
use Rattle.file_model.specs.Filing.{Text}
use Rattle.file_numbers.specs.ChangeNames.{ChangeNames}
use Rattle.image_draft.specs.Drafted.{change_of}
use Rattle.file_reading.specs.declared.said.Said.{Said}
use Rattle.file_reading.specs.declared.said.Said.TheVariants as said

-- what it says, over the texts of names
abbrev pub said_text : List Text → Said → Form
said_text names said.Evaluates = forms.Evaluates
said_text names (said.Changes c) = forms.Changes (map_change (name_at names) (change_of c))
said_text names (said.DefinesAt d k) = forms.Changes (map_change (name_at names) (DefineAt d k))
said_text names (said.Opens r) = forms.Opens (map_run (name_at names) r)
said_text names (said.OpensAt r k) = forms.OpensAt (map_run (name_at names) r) k
said_text names said.Settles = forms.Settles
said_text names said.HasPools = forms.Refuses PoolsNotEmpty
said_text names said.IsUnknown = forms.Refuses UnknownDefinition

-- a fact of each name in it
abbrev pub SaidNames : (ℕ → Type 0) → Said → Type 0
SaidNames P said.Evaluates = Unit {0}
SaidNames P (said.Changes c) = ChangeNames P (change_of c)
SaidNames P (said.DefinesAt d k) = ChangeNames P (DefineAt d k)
SaidNames P (said.Opens r) = P r.class
SaidNames P (said.OpensAt r k) = P r.class
SaidNames P said.Settles = Unit {0}
SaidNames P said.HasPools = Unit {0}
SaidNames P said.IsUnknown = Unit {0}
