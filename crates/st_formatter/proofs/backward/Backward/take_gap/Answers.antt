use Rattle.std.proofs.Common.{◌≡◌, ◌++◌, reverse}
use Rattle.st_formatter.specs.Parts.{parts_text}
use Rattle.st_formatter.proofs.Parts.{parts-taken}
use Rattle.st_formatter.proofs.backward.Backward.take_gap.Goals as goal

pub returns-in-Some-clause-text : goal.returns-in-Some-clause-text
returns-in-Some-clause-text c =
    let view : reverse c.replace-bytes.result.items ++ parts_text c.self.inside.behind.items ≡ c.args.self.now = rw c.replace-bytes.ensures.value c.self.view_is in
    parts-taken
    c.args.done.now.items
    c.append_turned.new.done.items
    c.replace-bytes.result.items
    c.args.self.now
    c.pop.new.self.items
    c.self.inside.behind.items
    c.in-Some.field-0
    c.in_ok-append_turned.ensures
    c.in-Some.ensures.items
    view
