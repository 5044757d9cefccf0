use Rattle.std.proofs.Common.{◌∙◌, sym, ap, not}
use Rattle.canonical_image.specs.Sources.{is_user}
use Rattle.canonical_image.proofs.Slots.{told, untold}
use Rattle.canonical_image.proofs.format.is_user.Goals as goal

pub returns-in-None : goal.returns-in-None
returns-in-None c = sym (ap is_user (untold _ c.in-None.ensures))

pub returns-in-Some : goal.returns-in-Some
returns-in-Some c = let t = told c.in-Some.info _ c.in-Some.ensures in ap not t.2 ∙ sym (ap is_user t.1)
