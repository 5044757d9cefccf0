use Rattle.std.proofs.Common.{◌∙◌, sym, ap}
use Rattle.class_table.specs.View.{live_at}
use Rattle.canonical_image.specs.Sources.{is_user}
use Rattle.canonical_image.proofs.Slots.{live_at-live, user_there, swapped, stayed}
use Rattle.canonical_image.proofs.Orderly.{method_known}
use Rattle.canonical_image.proofs.format.format_slot.Goals as goal

pub method_text-requires : goal.method_text-requires
method_text-requires g c =
    let s = c.args.image.now in
    λ m e. method_known s c.args.slot m c.requires.orderly c.requires.live (sym (live_at-live s.methods s.method_order c.args.slot c.requires.live) ∙ e)

pub returns-in_ok-source-clause-methods : goal.returns-in_ok-source-clause-methods
returns-in_ok-source-clause-methods g c =
    let s = c.args.image.now in
    let there = user_there (live_at s.methods s.method_order c.args.slot) (sym c.is_user.ensures ∙ c.if-is_user.true) in
    c.swap_source.ensures.image
    ∙ swapped s c.args.slot there.0 _ (sym (live_at-live s.methods s.method_order c.args.slot c.requires.live) ∙ there.1) there.2 (c.in_ok-source.ensures there.0 there.1)

pub returns-else-is_user-clause-methods : goal.returns-else-is_user-clause-methods
returns-else-is_user-clause-methods g c =
    let s = c.args.image.now in
    stayed s c.args.slot (ap is_user (sym (live_at-live s.methods s.method_order c.args.slot c.requires.live)) ∙ sym c.is_user.ensures ∙ c.if-is_user.false)
