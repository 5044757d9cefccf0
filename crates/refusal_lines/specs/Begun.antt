-- Texts that begin with others.
use Rattle.std.specs.Prelude.{◌≡◌, ℕ, List, ◌++◌}

-- the later text begins with the first one
pub record BeginsWith (later first : List ℕ) : Type 0 where
  pub more : List ℕ
  pub is : later ≡ first ++ more
