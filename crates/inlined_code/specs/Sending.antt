-- Messages of the program's methods.
use Rattle.std.specs.Prelude.{ℕ}
use Rattle.tree_model.specs.Tree.{trees_of}
use Rattle.command_model.specs.Places.{SendOf}
use Rattle.inlined_code.specs.declared.sent.Sent.{Sent}

-- a message of a method, and where it stands
abbrev pub send_of : Sent → SendOf ℕ
send_of e = record { path = e.path.now; receiver = e.receiver.now; selector = e.selector; arguments = trees_of e.arguments.now }
