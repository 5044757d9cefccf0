use Rattle.std.proofs.Common.{refl}
use Rattle.script_lang.proofs.Verbs.{verb-found, no-verb}
use Rattle.script_lang.proofs.verb.verb_of.Goals as goal

pub returns-clause-some : goal.returns-clause-some
returns-clause-some c = verb-found c.args.word.now c.find_verb.result c.find_verb.ensures refl

pub returns-clause-none : goal.returns-clause-none
returns-clause-none c = no-verb c.args.word.now c.find_verb.result c.find_verb.ensures refl
