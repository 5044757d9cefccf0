use Rattle.rb_base.specs.Names.{text_eq}
use Rattle.command_model.specs.Plain.{literal_node}
use Rattle.parameter_laws.specs.ArgumentsChanged.{argument_appended}
use Rattle.parameter_laws.proofs.AppendedImages.{may-lose, image-before}
use Rattle.parameter_laws.proofs.AtomTrees.{node-atom}
use Rattle.parameter_laws.proofs.laws.law_appended_argument.Goals as goal

pub returns : goal.returns
returns c = λ writing i s x k l old atom h.
    let a = literal_node l in
    let is_atom = node-atom l atom in
    c.law_argument_gone.ensures.added i (argument_appended text_eq writing s x a i) s k old (may-lose s x k a is_atom writing i h) (image-before s x k a is_atom writing i h)
