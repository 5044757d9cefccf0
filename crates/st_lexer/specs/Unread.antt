-- Where a reader of tokens stands in a text.
use Rattle.std.specs.Prelude.{ℕ, Bool, List}

-- the whole text, how far it has been read, and whether its end or a fault has been given
pub record Unread : Type 0 where
  pub text : List ℕ
  pub at : ℕ
  pub over : Bool
