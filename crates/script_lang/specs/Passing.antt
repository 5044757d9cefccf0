-- What is passed for a parameter that comes.
use Rattle.std.specs.Prelude.{◌≡◌, ℕ, List, Option, None}
use Rattle.std.specs.Option.{option_map}
use Rattle.token_model.specs.declared.kind.Dialect.TheVariants.{Second}
use Rattle.grammar_model.specs.Whole.{DoIt}
use Rattle.grammar_model.specs.Checks.{Fault}
use Rattle.grammar_model.specs.Spelling.{HasFirstFault}
use Rattle.st_spans.specs.Trees.{OfDoIt}
use Rattle.script_model.specs.Parameters as script
use Rattle.script_lang.specs.declared.parameters.Parameter.{Parameter}

-- the parts of a parameter that comes
abbrev pub parameter_shown : Option Parameter → Option script.Parameter
parameter_shown o = option_map (λ (p : Parameter). record { selector = p.selector.now; to = p.to.now; name = p.name.now; passed = p.passed.now }) o

-- the text is no do-it
abbrev pub IsFaulty : List ℕ → Type 0
IsFaulty text = (fault : Fault) × HasFirstFault Second DoIt text fault

-- the text is no literal: it is no do-it, or is another one
pub data IsNoLiteral (text : List ℕ) : Type 0 where
  Unreadable : IsFaulty text → IsNoLiteral text
  Other : OfDoIt text (λ s. script.literal_in text s ≡ None) → IsNoLiteral text
