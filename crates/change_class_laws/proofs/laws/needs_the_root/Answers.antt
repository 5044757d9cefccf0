use Rattle.change_class_laws.proofs.NoRoot.{not_made}
use Rattle.change_class_laws.proofs.laws.needs_the_root.Goals as goal

pub returns : goal.returns
returns c = not_made
