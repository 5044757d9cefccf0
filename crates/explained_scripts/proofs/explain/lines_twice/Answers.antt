use Rattle.std.proofs.Common.{sym, subst}
use Rattle.script_lang.proofs.Growing.{all_known-grown, lines-grown}
use Rattle.script_model.specs.Scripts.{Says}
use Rattle.explained_scripts.proofs.explain.lines_twice.Goals as goal

pub returns-clause-known : goal.returns-clause-known
returns-clause-known c = all_known-grown c.script_lines-2.ensures.grows c.in_ok-first.first.items c.in_ok-first.ensures.known

pub returns-clause-says : goal.returns-clause-says
returns-clause-says c = subst (Says c.args.script.now) (sym (lines-grown c.script_lines-2.ensures.grows c.in_ok-first.first.items c.in_ok-first.ensures.known)) c.in_ok-first.ensures.said
