use Rattle.std.proofs.Common.{[]}
use Rattle.image_draft.specs.Kinds.{kind_of}
use Rattle.image_draft.specs.NameSets.{has}
use Rattle.image_draft.specs.Parts.{marked}
use Rattle.image_draft.proofs.NameTests.{never_brought}
use Rattle.image_draft.proofs.hierarchy.meets_below.Goals as goal

pub returns-then-is_empty : goal.returns-then-is_empty
returns-then-is_empty c = never_brought c.args.name (kind_of c.args.kind) c.args.above.now (marked c.args.name (has []) c.args.classes.now) (c.is_empty.ensures c.if-is_empty.true)
