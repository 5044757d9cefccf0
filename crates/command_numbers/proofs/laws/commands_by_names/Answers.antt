use Rattle.std.proofs.Common.{IsTrue}
use Rattle.command_numbers.proofs.Named.{needs-named, holds-named, first_false-named, effect-named, judged-named}
use Rattle.command_numbers.proofs.laws.commands_by_names.Goals as goal

pub returns-clause-needs : goal.returns-clause-needs
returns-clause-needs g c = λ f p a b i command keeps s t still. needs-named (λ n. IsTrue (p n)) f a b keeps i command s t still

pub returns-clause-holds : goal.returns-clause-holds
returns-clause-holds g c = λ f p a b i command condition keeps s t u still. holds-named (λ n. IsTrue (p n)) f a b keeps i command condition s t u still

pub returns-clause-first_false : goal.returns-clause-first_false
returns-clause-first_false g c = λ f p a b i command keeps s t still. first_false-named (λ n. IsTrue (p n)) f a b keeps i command s t still

pub returns-clause-effect : goal.returns-clause-effect
returns-clause-effect g c = λ f p a b writing writing_there i command keeps written s t still. effect-named (λ n. IsTrue (p n)) f a b keeps writing writing_there written i command s t still

pub returns-clause-judged : goal.returns-clause-judged
returns-clause-judged g c = λ f p a b writing writing_there i command keeps written s t still. judged-named (λ n. IsTrue (p n)) f a b keeps writing writing_there written i command s t still
