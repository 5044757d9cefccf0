use Rattle.std.proofs.Common.{◌-◌, map, ap, subst, sym, ◌∙◌}
use Rattle.class_table.specs.View.{doit_of}
use Rattle.image_draft.specs.declared.draft.Draft.{Draft}
use Rattle.placed_draft.specs.declared.placed_draft.PlacedDraft.{PlacedDraft}
use Rattle.placed_draft.specs.Placed.{image_of, IsOrder}
use Rattle.placed_draft.proofs.Doits.{doits_set, whole_doits}
use Rattle.placed_draft.proofs.placed_draft.PlacedDraft.replace_doit.Goals as goal

pub returns-clause-image : goal.returns-clause-image
returns-clause-image c =
    let p : PlacedDraft = c.args.self.now in
    ap (λ (d : Draft). image_of (record p { draft = d })) c.replace_doit.ensures.rest
    ∙ (λ i. record (image_of p) { doits = (ap (map doit_of) c.replace_doit.ensures.doits ∙ doits_set p.draft.doits.items (c.args.place - 1) c.args.doit) i })

pub returns-clause-whole : goal.returns-clause-whole
returns-clause-whole c =
    let p : PlacedDraft = c.args.self.now in
    record {
      draft = whole_doits p.draft c.replace_doit.new.self (c.args.place - 1) c.args.doit c.requires.whole.draft c.replace_doit.ensures.rest c.replace_doit.ensures.doits;
      order = subst (λ (d : Draft). IsOrder p.order d.classes) (sym c.replace_doit.ensures.rest) c.requires.whole.order;
    }
