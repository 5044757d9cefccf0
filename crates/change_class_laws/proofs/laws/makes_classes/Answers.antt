use Rattle.change_class_laws.proofs.ClassesMade.{classes_made}
use Rattle.change_class_laws.proofs.laws.makes_classes.Goals as goal

pub returns : goal.returns
returns c = λ kernel i j can root. classes_made kernel i j can root
