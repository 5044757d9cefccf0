use Rattle.std.proofs.Common.{sym, ◌∙◌}
use Rattle.explained_scripts.proofs.found.put_meanings.Goals as goal

pub returns : goal.returns
returns g c = c.other_meanings.ensures (sym c.is_class.ensures ∙ c.if-not-is_class.false)
