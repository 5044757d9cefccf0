use Rattle.token_model.specs.declared.kind.Dialect.TheVariants.{Second}
use Rattle.std.proofs.Common.{false}
use Rattle.script_model.proofs.LineAnswers.{command-one, command-some}
use Rattle.script_model.proofs.RuledAnswers.{says-one, says-some}
use Rattle.script_model.proofs.OneReading.{says_once, not_refused, refused_once}
use Rattle.script_model.proofs.SomeReading.{read}
use Rattle.script_model.proofs.laws.has_one_reading.Goals as goal

pub returns-clause-requests : goal.returns-clause-requests
returns-clause-requests c =
    let law = c.spells_method_or_has_fault.ensures in
    let some = says-some (command-some (λ t. law.either Second false t)) c.has_one_rule_line.ensures.some in
    let one = says-one (command-one (λ t m n p q. law.one_tree Second false t m n p q) (λ t m f p q. law.not_both Second false t m f p q)) c.has_one_rule_line.ensures.one in
    says_once (λ l. (some l).0) (λ l. (some l).1) one

pub returns-clause-not_both : goal.returns-clause-not_both
returns-clause-not_both c =
    let law = c.spells_method_or_has_fault.ensures in
    let some = says-some (command-some (λ t. law.either Second false t)) c.has_one_rule_line.ensures.some in
    let one = says-one (command-one (λ t m n p q. law.one_tree Second false t m n p q) (λ t m f p q. law.not_both Second false t m f p q)) c.has_one_rule_line.ensures.one in
    not_refused (λ l. (some l).0) (λ l. (some l).1) one

pub returns-clause-refusal : goal.returns-clause-refusal
returns-clause-refusal c =
    let law = c.spells_method_or_has_fault.ensures in
    let some = says-some (command-some (λ t. law.either Second false t)) c.has_one_rule_line.ensures.some in
    let one = says-one (command-one (λ t m n p q. law.one_tree Second false t m n p q) (λ t m f p q. law.not_both Second false t m f p q)) c.has_one_rule_line.ensures.one in
    refused_once (λ l. (some l).0) (λ l. (some l).1) one

pub returns-clause-either : goal.returns-clause-either
returns-clause-either c =
    let law = c.spells_method_or_has_fault.ensures in
    let some = says-some (command-some (λ t. law.either Second false t)) c.has_one_rule_line.ensures.some in
    let one = says-one (command-one (λ t m n p q. law.one_tree Second false t m n p q) (λ t m f p q. law.not_both Second false t m f p q)) c.has_one_rule_line.ensures.one in
    read (λ l. (some l).0) (λ l. (some l).1) one
