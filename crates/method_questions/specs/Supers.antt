-- What is sought in a method.
use Rattle.std.specs.Prelude.{ℕ, Bool, nat_eq}
use Rattle.tree_model.specs.Tree.{TreeOf}
use Rattle.command_model.specs.SameMethods.{is_super_node, is_super_sender}
use Rattle.method_questions.specs.declared.supers.Sought.{Sought}
use Rattle.method_questions.specs.declared.supers.Sought.TheVariants as sought

-- whether a node is what is sought
abbrev pub is_sought : (ℕ → Bool) → Sought → TreeOf ℕ → Bool
is_sought is_super sought.Super t = is_super_node is_super t
is_sought is_super (sought.SentToSuper s) t = is_super_sender is_super nat_eq s t
