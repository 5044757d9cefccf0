-- What becomes of a table of names where a tree is built.
use Rattle.std.specs.Prelude.{◌≡◌, List, ◌++◌, Bool, IsTrue}
use Rattle.std.specs.List.{AllByRecursion}
use Rattle.grammar_model.specs.Terminal.{Text}

-- the later names begin with the earlier ones
pub record Grows (names later : List Text) : Type 0 where
  pub more : List Text
  pub grown : later ≡ names ++ more

-- the later names begin with the earlier ones, and a test that some names pass, those that may come, is passed by each one that came
pub record Adds (names later : List Text) (Pass : (Text → Bool) → Type 0) : Type 0 where
  pub more : List Text
  pub grown : later ≡ names ++ more
  pub passed : (p : Text → Bool) → Pass p → AllByRecursion (λ t. IsTrue (p t)) more

-- each of the texts passes a test
abbrev pub AllPass : List Text → (Text → Bool) → Type 0
AllPass ts p = AllByRecursion (λ t. IsTrue (p t)) ts
