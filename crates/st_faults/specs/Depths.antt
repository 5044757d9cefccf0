-- How deep the brackets of a text are.
use Rattle.std.specs.Prelude.{ℕ, List, Option, Some}
use Rattle.grammar_model.specs.Input.{Lexeme}
use Rattle.grammar_model.specs.Checks.{first_deep}
use Rattle.st_faults.specs.declared.brackets.Depth.{Depth}
use Rattle.st_faults.specs.declared.brackets.Depth.TheVariants.{Open, TooDeep}

-- the first bracket that is too deep, where the tokens before these lead to the depth
abbrev pub deep_behind : Depth → List Lexeme → Option ℕ
deep_behind (Open n) ts = first_deep n ts
deep_behind (TooDeep at) ts = Some at
