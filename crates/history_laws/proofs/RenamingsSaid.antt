-- Renamings that say the same.
use Rattle.std.proofs.Common.{sym, ap, ◌∙◌}
use Rattle.run_model.specs.Renamings.{Renaming, composed, class_image, selector_image, shared_image, instance_image, class_side_image, temporary_image}
use Rattle.run_model.proofs.RenamingLemmas.{is-composite}
use Rattle.command_model.specs.Renamings.{SaysTheSame}

pub composed-said : (r s q : Renaming) → SaysTheSame r s → SaysTheSame (composed r q) (composed s q)
composed-said r s q same = record {
  classes = λ c. (is-composite s q).classes c ∙ ap (class_image q) (same.classes c) ∙ sym ((is-composite r q).classes c);
  selectors = λ c. (is-composite s q).selectors c ∙ ap (selector_image q) (same.selectors c) ∙ sym ((is-composite r q).selectors c);
  shared = λ c. (is-composite s q).shared c ∙ ap (shared_image q) (same.shared c) ∙ sym ((is-composite r q).shared c);
  instance = λ c. (is-composite s q).instance c ∙ ap (instance_image q) (same.instance c) ∙ sym ((is-composite r q).instance c);
  class_side = λ c. (is-composite s q).class_side c ∙ ap (class_side_image q) (same.class_side c) ∙ sym ((is-composite r q).class_side c);
  temporaries = λ c. (is-composite s q).temporaries c ∙ ap (temporary_image q) (same.temporaries c) ∙ sym ((is-composite r q).temporaries c);
}
