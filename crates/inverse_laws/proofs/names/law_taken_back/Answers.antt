use Rattle.mapped_model.specs.NamesInUse.{NamesInUse}
use Rattle.mapped_model.specs.NamesOfImages.{names_in}
use Rattle.run_model.specs.Renamings.{Renaming, class_image, selector_image}
use Rattle.inverse_laws.specs.Inverse.{inverse_on, KeepsApart, TakesBack}
use Rattle.inverse_laws.proofs.OneBack.{list-back}
use Rattle.inverse_laws.proofs.names.law_taken_back.Goals as goal

given-back : (u : NamesInUse) (r : Renaming) → KeepsApart u r → TakesBack u r (inverse_on u r)
given-back u r apart = record {
  classes = λ c t. list-back (class_image r) c u.classes (λ n i e. apart.classes c n t i e) t;
  selectors = λ s t. list-back (selector_image r) s u.selectors (λ n i e. apart.selectors s n t i e) t;
}

pub returns : goal.returns
returns k = record {
  takes_back = given-back;
  matched = λ i j r apart h. k.law_matched_back.ensures.matched i j r (inverse_on (names_in i) r) (given-back (names_in i) r apart) h;
}
