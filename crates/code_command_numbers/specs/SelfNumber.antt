-- Which number of a table is that of `self`.
use Rattle.std.specs.Prelude.{◌≡◌, ◌<◌, ℕ, List, length, codes}
use Rattle.rb_base.specs.Names.{name_at}

-- the number is of a name in the table, which is `self`
pub record IsNumberOfSelf (names : List (List ℕ)) (n : ℕ) : Type 0 where
  pub known : n < length names
  pub spelled : name_at names n ≡ codes "self"
