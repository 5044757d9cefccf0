use Rattle.std.proofs.Common.{ℕ, ap, sym, ◌∙◌}
use Rattle.class_table.specs.View.{class_of}
use Rattle.class_questions.specs.Sought.{is_sought}
use Rattle.class_questions.proofs.chains.is_sought.Goals as goal

pub returns-in-Variable : goal.returns-in-Variable
returns-in-Variable c = λ classes. c.defines_any.ensures ∙ sym (ap (λ s. is_sought s (class_of classes c.args.rec.now)) c.in-Variable.is)
