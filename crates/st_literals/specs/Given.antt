-- What comes of literals.
use Rattle.std.specs.Prelude.{List, Option, Some, None, ℕ}
use Rattle.rb_base.specs.Names.{name_at}
use Rattle.tree_model.specs.Tree.{LiteralOf, LiteralsOf, literals_of, map_literal, map_literals}
use Rattle.run_model.specs.Values.{Name, unsupported}
use Rattle.run_model.specs.Store.{Store, ends_by, Result, fine, leaves}

-- the thing, and where there is none the error of what is only kept
abbrev pub given : {A : Type 0} → Option A → Store → Result A
given (Some a) s = fine a s
given None s = leaves (ends_by unsupported) s

-- the literal over texts
abbrev pub literal_at : List Name → LiteralOf ℕ → LiteralOf Name
literal_at names l = map_literal (name_at names) l

-- literals in order
abbrev pub literals_at : List Name → List (LiteralOf ℕ) → LiteralsOf Name
literals_at names ls = map_literals (name_at names) (literals_of ls)
