-- Nodes that are sought.
use Rattle.std.specs.Prelude.{ℕ, Bool, false, nat_eq}
use Rattle.tree_model.specs.Tree.{TreeOf, var}
use Rattle.image_model.specs.Uses.{is_sender}
use Rattle.parameter_questions.specs.declared.found.Sought.{Sought}
use Rattle.parameter_questions.specs.declared.found.Sought.TheVariants as sought

-- whether a node reads a name
abbrev pub reads : ℕ → TreeOf ℕ → Bool
reads n (var m) = nat_eq n m
reads n t = false

-- whether a node is sought
abbrev pub is_sought : Sought → TreeOf ℕ → Bool
is_sought (sought.Read n) t = reads n t
is_sought (sought.Sent s) t = is_sender nat_eq s t
