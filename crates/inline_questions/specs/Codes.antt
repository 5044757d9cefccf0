-- Methods of an image, and messages in them with the methods that they find.
use Rattle.std.specs.Prelude.{ℕ, [], Option, option_map}
use Rattle.tree_model.specs.Tree.{TreeOf, no_statements, more_statements, SequenceOf}
use Rattle.st_tree.specs.View.{method_of}
use Rattle.image_model.specs.Image.{EntryOf}
use Rattle.class_table.specs.Slots.{Slots}
use Rattle.class_table.specs.Valid.{IsLive}
use Rattle.class_table.specs.View.{class_name, entry_of, live_at}
use Rattle.inline_questions.specs.declared.code.Target.{Target}
use Rattle.inline_questions.specs.declared.code.Call.{Call}

-- a method without its protocol and its source
abbrev pub code_alone : {N : Type 0} → EntryOf N → EntryOf N
code_alone m = record { class = m.class; meta = m.meta; protocol = []; source = []; tree = m.tree; kernel = m.kernel }

-- the method that the program holds, as such
abbrev pub entry_in : Slots → Target → EntryOf ℕ
entry_in s m = record { class = class_name s.classes m.code.class; meta = m.code.meta; protocol = []; source = []; tree = method_of m.code.tree.now; kernel = m.kernel }

-- the classes of both methods are live
pub record IsCall (s : Slots) (c : Call) : Type 0 where
  pub live : IsLive s.class_order c.method.class
  pub target_live : IsLive s.class_order c.target.code.class

-- the method in a slot, if the slot is live
abbrev pub opened_at : Slots → ℕ → Option (EntryOf ℕ)
opened_at s k = option_map (λ m. code_alone (entry_of s.classes m)) (live_at s.methods s.method_order k)

-- a sequence of the one expression
abbrev pub alone : {N : Type 0} → TreeOf N → SequenceOf N
alone t = record { temporaries = []; statements = more_statements [] t no_statements; tail = [] }
