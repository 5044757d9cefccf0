use Rattle.text_model.proofs.Texts.{canonical_method-map_method, canonical_doit-map_sequence}
use Rattle.text_model.proofs.laws.depends_on_texts_alone.Goals as goal

pub returns-clause-methods : goal.returns-clause-methods
returns-clause-methods g c = λ h f k m p. canonical_method-map_method h f k m p

pub returns-clause-doits : goal.returns-clause-doits
returns-clause-doits g c = λ h f k b p. canonical_doit-map_sequence h f k b p
