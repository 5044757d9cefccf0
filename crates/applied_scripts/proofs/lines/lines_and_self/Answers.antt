use Rattle.std.proofs.Common.{List, sym, subst}
use Rattle.ruled_model.specs.RuledScripts.{Line}
use Rattle.script_model.specs.Scripts.{Says}
use Rattle.event_trees.proofs.Known.{Grows-twice}
use Rattle.script_lang.proofs.Growing.{lines-grown, all_known-grown}
use Rattle.applied_scripts.proofs.lines.lines_and_self.Goals as goal

pub returns-in_err-intern_self-clause-grows : goal.returns-in_err-intern_self-clause-grows
returns-in_err-intern_self-clause-grows c = Grows-twice c.parse_script.ensures.grows c.intern_self.ensures.grows

pub returns-clause-grows : goal.returns-clause-grows
returns-clause-grows c = Grows-twice c.parse_script.ensures.grows c.intern_self.ensures.grows

pub returns-clause-said : goal.returns-clause-said
returns-clause-said c =
    subst (λ (asked : List Line). Says c.args.script.now asked) (sym (lines-grown c.intern_self.ensures.grows c.in_ok-lines.lines.items c.in_ok-lines.ensures.known)) c.in_ok-lines.ensures.ok

pub returns-clause-known : goal.returns-clause-known
returns-clause-known c = all_known-grown c.intern_self.ensures.grows c.in_ok-lines.lines.items c.in_ok-lines.ensures.known
