use Rattle.std.proofs.Common.{ℕ, Option, sym, ap, ◌∙◌}
use Rattle.std.specs.Prelude.{unwrap_or, is_some}
use Rattle.derivations.proofs.Numbers.{number_is}
use Rattle.derivations.proofs.words.number_of.Goals as goal

pub unwrap-requires : goal.unwrap-requires
unwrap-requires c = ap is_some (c.find.ensures ∙ number_is c.args.names.now c.args.word.now c.requires)

pub returns : goal.returns
returns c = ap (λ (o : Option ℕ). unwrap_or o 0) (sym c.unwrap.ensures ∙ c.find.ensures)
