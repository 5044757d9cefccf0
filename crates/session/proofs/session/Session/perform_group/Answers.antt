use Rattle.std.proofs.Common.{◌≡◌, ◌++◌, ◌∷◌, [], List, length, map, take, refl, sym, ap, ◌∙◌}
use Rattle.session.specs.Log.{Done, log_at}
use Rattle.session.specs.History.{history_of}
use Rattle.proposals.specs.Proposed.{asked_in}
use Rattle.session.specs.Refused.{group_told}
use Rattle.session.specs.Grouping.{after_group, grouped}
use Rattle.session.proofs.Steps.{begins-there}
use Rattle.session.proofs.Made.{entry-noted, can-undo-entry, entry-gone, entry-stays}
use Rattle.session.proofs.Groups.{grouped-some}
use Rattle.session.proofs.session.Session.perform_group.Goals as goal

pub perform_group-requires-clause-under_way : goal.perform_group-requires-clause-under_way
perform_group-requires-clause-under_way g c =
    let s = c.args.image.now in
    let v = c.self.inside in
    (s, begins-there s v.index v.stale.items v.entries.items v.done c.new-entry.result c.args.self.now c.self.view_is c.requires.log c.requires.renewed c.new-entry.ensures)

pub undo-requires : goal.undo-requires
undo-requires g c =
    let s = c.args.image.now in
    let v = c.self.inside in
    can-undo-entry s c.perform_group.new.image v.index c.perform_group.new.index v.stale.items v.entries.items v.done c.new-entry.result c.perform_group.new.done (λ w. after_group 1 w (map (asked_in s.names) c.args.proposals.now)) group_told c.args.self.now c.self.view_is c.requires.log c.requires.renewed
    c.new-entry.ensures c.in-Err.refusal c.in-Err.ensures

pub returns-then-is_err : goal.returns-then-is_err
returns-then-is_err g c =
    let s = c.args.image.now in
    let v = c.self.inside in
    entry-stays s c.args.self.now (log_at v.index v.stale.items c.reserve.new.self.items v.done) (grouped (history_of s c.args.self.now) (map (asked_in s.names) c.args.proposals.now)) group_told _ c.requires.log (λ names. refl)
    ((λ i. log_at v.index v.stale.items (c.reserve.ensures.items i) v.done) ∙ c.self.view_is)

pub returns-in-Ok : goal.returns-in-Ok
returns-in-Ok g c =
    let s = c.args.image.now in
    let v = c.self.inside in
    let h = history_of s c.args.self.now in
    let noted : c.note.new.entries.items ≡ take v.done v.entries.items ++ c.perform_group.new.done ∷ [] = c.note.ensures ∙ ap (λ (xs : List Done). take v.done xs ++ c.perform_group.new.done ∷ []) c.reserve.ensures.items in
    let is_len : c.len-self-inside.result ≡ length c.note.new.entries.items = c.len-self-inside.ensures ∙ c.note.new.entries.ok.0 in
    rw (sym (grouped-some s.names h c.args.proposals.now c.requires.some)) (
    entry-noted s c.perform_group.new.image v.index c.perform_group.new.index v.stale.items v.entries.items v.done c.new-entry.result c.perform_group.new.done (λ w. after_group 1 w (map (asked_in s.names) c.args.proposals.now)) group_told c.args.self.now c.self.view_is c.requires.log c.requires.renewed
    c.new-entry.ensures c.in-Ok.ensures c.note.new.entries.items c.len-self-inside.result noted is_len)

pub returns-in-Err : goal.returns-in-Err
returns-in-Err g c =
    let s = c.args.image.now in
    let v = c.self.inside in
    let h = history_of s c.args.self.now in
    rw (sym (grouped-some s.names h c.args.proposals.now c.requires.some)) (
    entry-gone s c.perform_group.new.image v.index c.perform_group.new.index v.stale.items v.entries.items v.done c.new-entry.result c.perform_group.new.done (λ w. after_group 1 w (map (asked_in s.names) c.args.proposals.now)) group_told c.args.self.now c.self.view_is c.requires.log c.requires.renewed
    c.new-entry.ensures c.in-Err.refusal c.in-Err.ensures c.undo.new.image c.undo.result.items c.reserve.new.self.items c.undo.ensures.image c.undo.ensures.places c.reserve.ensures.items)
