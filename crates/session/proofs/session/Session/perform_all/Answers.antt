use Rattle.std.proofs.Common.{◌≡◌, ◌++◌, ◌∷◌, [], List, length, map, take, Err, sym, ap, subst, ◌∙◌}
use Rattle.session.specs.Log.{Done, Log, log_at}
use Rattle.session.specs.History.{history_of}
use Rattle.session.specs.Stepping.{IsStepped, after_commands}
use Rattle.session.specs.declared.refusal.StepRefusal.TheVariants as refusal
use Rattle.session.proofs.Each.{text_in}
use Rattle.session.proofs.Steps.{stays, begins-there, all-noted, can-undo, all-taken-back}
use Rattle.session.proofs.session.Session.perform_all.Goals as goal

pub perform_each-requires-clause-under_way : goal.perform_each-requires-clause-under_way
perform_each-requires-clause-under_way g c =
    let s = c.args.image.now in
    let v = c.self.inside in
    (s, begins-there s v.index v.stale.items v.entries.items v.done c.new-entry.result c.args.self.now c.self.view_is c.requires.log c.requires.renewed c.new-entry.ensures)

pub undo-requires : goal.undo-requires
undo-requires g c =
    let s = c.args.image.now in
    let v = c.self.inside in
    can-undo s c.perform_each.new.image v.index c.perform_each.new.index v.stale.items v.entries.items v.done c.new-entry.result c.perform_each.new.done (map (text_in s.names) c.args.commands.now) c.args.self.now c.self.view_is c.requires.log c.requires.renewed
    c.new-entry.ensures c.in-Err.refusal c.in-Err.ensures

pub returns-then-is_err : goal.returns-then-is_err
returns-then-is_err g c =
    let s = c.args.image.now in
    let v = c.self.inside in
    let log = c.args.self.now in
    let wanted = after_commands (history_of s log) (map (text_in s.names) c.args.commands.now) in
    let kept : log_at v.index v.stale.items c.reserve.new.self.items v.done ≡ log = (λ i. log_at v.index v.stale.items (c.reserve.ensures.items i) v.done) ∙ c.self.view_is in
    subst (λ (l : Log). IsStepped s log wanted s l (Err refusal.Memory)) (sym kept) (stays s log wanted c.requires.log)

pub returns-in-Ok : goal.returns-in-Ok
returns-in-Ok g c =
    let s = c.args.image.now in
    let v = c.self.inside in
    let noted : c.note.new.entries.items ≡ take v.done v.entries.items ++ c.perform_each.new.done ∷ [] = c.note.ensures ∙ ap (λ (xs : List Done). take v.done xs ++ c.perform_each.new.done ∷ []) c.reserve.ensures.items in
    let is_len : c.len-self-inside.result ≡ length c.note.new.entries.items = c.len-self-inside.ensures ∙ c.note.new.entries.ok.0 in
    all-noted s c.perform_each.new.image v.index c.perform_each.new.index v.stale.items v.entries.items v.done c.new-entry.result c.perform_each.new.done (map (text_in s.names) c.args.commands.now) c.args.self.now c.self.view_is c.requires.log c.requires.renewed
    c.new-entry.ensures c.in-Ok.ensures c.note.new.entries.items c.len-self-inside.result noted is_len

pub returns-in-Err : goal.returns-in-Err
returns-in-Err g c =
    let s = c.args.image.now in
    let v = c.self.inside in
    let commands = map (text_in s.names) c.args.commands.now in
    subst (λ (es : List Done). IsStepped s c.args.self.now (after_commands (history_of s c.args.self.now) commands) c.undo.new.image (log_at c.perform_each.new.index c.undo.result.items es v.done) (Err c.in-Err.refusal)) (sym {A = List Done} c.reserve.ensures.items) (
    all-taken-back s c.perform_each.new.image v.index c.perform_each.new.index v.stale.items v.entries.items v.done c.new-entry.result c.perform_each.new.done commands c.args.self.now c.self.view_is c.requires.log c.requires.renewed
    c.new-entry.ensures c.undo.new.image c.undo.result.items c.in-Err.refusal c.in-Err.ensures c.undo.ensures.image c.undo.ensures.places)
