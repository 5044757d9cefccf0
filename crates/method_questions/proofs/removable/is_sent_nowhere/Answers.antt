use Rattle.std.proofs.Common.{not, ap, sym, ◌∙◌}
use Rattle.class_table.specs.View.{number_image}
use Rattle.method_questions.proofs.Unsent.{unsent}
use Rattle.method_questions.proofs.removable.is_sent_nowhere.Goals as goal

pub returns : goal.returns
returns g c = ap not c.in_ok-found.ensures ∙ sym (unsent c.args.image.now.names (number_image c.args.image.now) c.args.selector)
