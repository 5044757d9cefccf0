use Rattle.image_laws.proofs.SlotLemmas.{valid-taken_out, valid-put_in}
use Rattle.image_laws.proofs.slots.law_classes_valid.Goals as goal

pub returns-clause-taken_out : goal.returns-clause-taken_out
returns-clause-taken_out g c = λ s k class orderly valid live at user nothing. valid-taken_out s orderly k class live at nothing g.R.Reading.reading valid user

pub returns-clause-put_in : goal.returns-clause-put_in
returns-clause-put_in g c = λ s k p class orderly valid dead at new follows. valid-put_in s orderly k class at g.R.Reading.reading p valid dead new follows
