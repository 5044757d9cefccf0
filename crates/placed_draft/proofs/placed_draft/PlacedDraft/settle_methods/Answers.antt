use Rattle.std.proofs.Common.{sym}
use Rattle.placed_draft.specs.declared.placed_draft.PlacedDraft.{PlacedDraft}
use Rattle.placed_draft.specs.Placed.{KeepsMethods}
use Rattle.placed_draft.proofs.Stays.{methods_stay}
use Rattle.placed_draft.proofs.placed_draft.PlacedDraft.settle_methods.Goals as goal

pub returns-then-keeps_methods-clause-methods : goal.returns-then-keeps_methods-clause-methods
returns-then-keeps_methods-clause-methods c =
    let p : PlacedDraft = c.args.self.now in
    let keeps : KeepsMethods p = c.keeps_methods.ensures c.if-keeps_methods.true in
    sym (methods_stay p.draft.methods p.places.methods keeps.front keeps.places)
