-- What is sought along the chain of a class.
use Rattle.std.specs.Prelude.{ℕ, Bool, nat_eq}
use Rattle.image_model.specs.Image.{ClassOf}
use Rattle.rename_model.specs.Conditions.{defines}
use Rattle.class_questions.specs.declared.chains.Sought.{Sought}
use Rattle.class_questions.specs.declared.chains.Sought.TheVariants as sought

-- whether a class is what is sought: the class of a name, or one that defines a variable of any kind by the name
abbrev pub is_sought : Sought → ClassOf ℕ → Bool
is_sought (sought.Class c) e = nat_eq c e.name
is_sought (sought.Variable x) e = defines nat_eq x e
