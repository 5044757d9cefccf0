use Rattle.std.specs.Prelude.{Contains}
use Rattle.std.proofs.lemmas.List.Elements.{All-contains_itself}
use Rattle.mentions.specs.Mentions.{code_names, method_names}
use Rattle.mentions.proofs.Complete.{All-SequenceNames, SequenceNames-All, All-MethodNames, MethodNames-All}
use Rattle.mentions.proofs.laws.law_complete.Goals as goal

pub returns-clause-sequence : goal.returns-clause-sequence
returns-clause-sequence g c = λ p b. (λ all. All-SequenceNames _ b all, λ all. SequenceNames-All _ b all)

pub returns-clause-method : goal.returns-clause-method
returns-clause-method g c = λ p m. (λ all. All-MethodNames _ m all, λ all. MethodNames-All _ m all)

pub returns-clause-listed_in_sequence : goal.returns-clause-listed_in_sequence
returns-clause-listed_in_sequence g c = λ b. SequenceNames-All (Contains (code_names b)) b (All-contains_itself (code_names b))

pub returns-clause-listed_in_method : goal.returns-clause-listed_in_method
returns-clause-listed_in_method g c = λ m. MethodNames-All (Contains (method_names m)) m (All-contains_itself (method_names m))
