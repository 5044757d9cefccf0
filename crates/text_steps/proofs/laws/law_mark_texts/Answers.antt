use Rattle.text_steps.proofs.FreshTexts.{lettered, quoted}
use Rattle.text_steps.proofs.laws.law_mark_texts.Goals as goal

pub returns-clause-lettered : goal.returns-clause-lettered
returns-clause-lettered c = lettered

pub returns-clause-quoted : goal.returns-clause-quoted
returns-clause-quoted c = quoted
