-- A part that is taken out of a method, and put back.
use Rattle.std.specs.Prelude.{◌≡◌, Bool, true, List, ℕ, Some}
use Rattle.tree_model.specs.Tree.{MethodOf}
use Rattle.command_model.specs.Parts.{Expression}
use Rattle.command_model.specs.Asked.{AskedOf}
use Rattle.command_model.specs.Places.{SendOf, sent_by}
use Rattle.command_model.specs.Extracted.{part_replaced, call_of, method_of}
use Rattle.command_model.specs.Inlined.{tree_inlined}

-- names that are told to be the same are the same
abbrev pub TellsApart : {N : Type 0} → (N → N → Bool) → Type 0
TellsApart {N} same = (j k : N) → same j k ≡ true → j ≡ k

-- Where an expression of a method becomes a message of t, that message stands there; and where it is replaced by the body of the method that the expression became, the method is as it was, with all its comments.
pub record IsPutBack {N : Type 0} (a : AskedOf N) (t : N) (m : MethodOf N) (path : List ℕ) : Type 0 where
  pub message : SendOf N
  pub stands : sent_by (part_replaced m (Expression path) (call_of a t m (Expression path))) (Expression path) ≡ Some message
  pub is_of : message.selector ≡ t
  pub same : tree_inlined a (part_replaced m (Expression path) (call_of a t m (Expression path))) message (method_of a t m (Expression path)) ≡ Some m
