use Rattle.std.proofs.Common.{ap, ◌∙◌}
use Rattle.std.specs.Prelude.{is_some}
use Rattle.derivations.specs.Signs.{sign_of}
use Rattle.derivations.proofs.Places.{is_among}
use Rattle.derivations.proofs.naming.has_mark.Goals as goal

pub returns : goal.returns
returns c = c.is_some.ensures ∙ ap is_some c.place_of.ensures ∙ is_among c.args.marks.now (sign_of c.args.mark.now)
