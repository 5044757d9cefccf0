use Rattle.std.proofs.Common.{◌≡◌, ◌<◌, length, take, arith}
use Rattle.std.proofs.lemmas.Grind.{common_steps}
use Rattle.session.specs.History.{renames_done}
use Rattle.session.proofs.Renamed.{collected}
use Rattle.session.proofs.ShownNames.{told-shown, told-commands, told-renaming}
use Rattle.session.proofs.session.Session.renames.Goals as goal

pub loop-entry-preserved : goal.loop-entry-preserved
loop-entry-preserved c =
    let k = c.loop-entry.entry-index in
    let h : k < length (take c.self.inside.done c.deref.result.now) = omega arith in
    collected (take c.self.inside.done c.deref.result.now) k c.entry-item.result c.loop-entry.found.items c.put_renames.new.found.items h c.entry-item.is c.loop-entry.invariant c.in_ok-put_renames.ensures

pub returns-clause-shows : goal.returns-clause-shows
returns-clause-shows c = λ s is.
    let items : c.loop-entry.found.items ≡ renames_done c.args.self.now = grind (arith, common_steps) in
    told-shown c.law_composed_names.ensures s c.args.self.now is c.loop-entry.found.items items c.by.result c.by.ensures.classes c.by.ensures.selectors

pub returns-clause-commands : goal.returns-clause-commands
returns-clause-commands c =
    let items : c.loop-entry.found.items ≡ renames_done c.args.self.now = grind (arith, common_steps) in
    told-commands c.loop-entry.found.items (renames_done c.args.self.now) items c.by.result c.by.ensures.commands

pub returns-clause-renaming : goal.returns-clause-renaming
returns-clause-renaming c = λ s.
    let items : c.loop-entry.found.items ≡ renames_done c.args.self.now = grind (arith, common_steps) in
    told-renaming s c.args.self.now c.by.result (told-commands c.loop-entry.found.items (renames_done c.args.self.now) items c.by.result c.by.ensures.commands)
