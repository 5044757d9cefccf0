use Rattle.std.proofs.Common.{◌≡◌, ◌<◌, ◌+◌, ◌-◌, length, get_or, ℕ, Err, sym, ap, subst, ◌∙◌, arith}
use Rattle.std.proofs.lemmas.List.{with_items_is}
use Rattle.std.proofs.lemmas.Result.{err_from_is_err_and}
use Rattle.std.specs.Vec.{with_items}
use Rattle.history_model.specs.Rules.{Undo}
use Rattle.history_model.specs.History.{stepped}
use Rattle.session_model.specs.Scripts.{rules}
use Rattle.commands.specs.declared.condition.Condition.TheVariants as condition
use Rattle.session.specs.Log.{Done, Log, log_at, taken_back, left_back, IsLogOf}
use Rattle.session.specs.History.{history_of}
use Rattle.session.specs.Stepping.{IsStepped}
use Rattle.session.specs.declared.refusal.StepRefusal.TheVariants as refusal
use Rattle.session.proofs.Logs.{back_again}
use Rattle.session.proofs.UnderWay.{Follows}
use Rattle.session.proofs.Steps.{undo-made, wanting, none-back}
use Rattle.session.proofs.session.Session.undo.Goals as goal

pub returns-then-self-eq0 : goal.returns-then-self-eq0
returns-then-self-eq0 g c =
    let s = c.args.image.now in
    let v = c.self.inside in
    let zero : v.done ≡ 0 = omega (arith, c.if-self-eq0.true) in
    let view : log_at v.index v.stale.items v.entries.items 0 ≡ c.args.self.now = subst (λ (m : ℕ). log_at v.index v.stale.items v.entries.items m ≡ c.args.self.now) zero c.self.view_is in
    subst (λ (l : Log). IsStepped s l (stepped rules (history_of s l) Undo) s l (Err (refusal.Condition condition.UndoLeft))) view
    (none-back s v.index v.stale.items v.entries.items (subst (IsLogOf s) (sym view) c.requires.log))

pub returns-in_err-take_back : goal.returns-in_err-take_back
returns-in_err-take_back g c =
    let s = c.args.image.now in
    let v = c.self.inside in
    let k : ℕ = v.done - 1 in
    let made = c.in_err-take_back.ensures in
    let p = err_from_is_err_and c.from_residual.result c.from_residual.ensures.1 in
    let d : Done = record { commands = c.entry.inside.commands.items; touched = c.entry.inside.touched.items } in
    let e : Done = record { commands = (with_items c.entry.inside.commands c.take_back.new.commands).items; touched = c.entry.inside.touched.items } in
    let whole : (with_items c.entry.inside.commands c.take_back.new.commands).items ≡ c.take_back.new.commands = with_items_is c.entry.inside.commands c.take_back.new.commands (c.take_back.auto.commands ∙ c.deref_mut.ensures.len) in
    let at : d ≡ get_or v.entries.items k d = c.entry.view_is ∙ c.index_mut-entry.ensures.value ∙ ap (get_or v.entries.items k) (sym c.entry.view_is) in
    let h : k < length v.entries.items = omega (arith, v.entries.ok.0) in
    let same : e ≡ d = λ i. record d { commands = (whole ∙ made.same_commands ∙ c.deref_mut.ensures.value) i } in
    rw (p.1, p.2) (
    wanting s c.take_back.new.image v.index c.take_back.new.index v.stale.items v.entries.items k d e h at c.args.self.now c.requires.log c.requires.renewed v.done (stepped rules (history_of s c.args.self.now) Undo) c.self.view_is
    made.same_image same made.same_index)

pub returns : goal.returns
returns g c =
    let s = c.args.image.now in
    let v = c.self.inside in
    let k : ℕ = v.done - 1 in
    let made = c.in_ok-take_back.ensures in
    let d : Done = record { commands = c.entry.inside.commands.items; touched = c.entry.inside.touched.items } in
    let e : Done = record { commands = (with_items c.entry.inside.commands c.take_back.new.commands).items; touched = c.entry.inside.touched.items } in
    let whole : (with_items c.entry.inside.commands c.take_back.new.commands).items ≡ c.take_back.new.commands = with_items_is c.entry.inside.commands c.take_back.new.commands (c.take_back.auto.commands ∙ c.deref_mut.ensures.len) in
    let at : d ≡ get_or v.entries.items k d = c.entry.view_is ∙ c.index_mut-entry.ensures.value ∙ ap (get_or v.entries.items k) (sym c.entry.view_is) in
    let h : k < length v.entries.items = omega (arith, v.entries.ok.0) in
    let n : k + 1 ≡ v.done = omega arith in
    let view : log_at v.index v.stale.items v.entries.items (k + 1) ≡ c.args.self.now = subst (λ (m : ℕ). log_at v.index v.stale.items v.entries.items m ≡ c.args.self.now) (sym n) c.self.view_is in
    let left : e ≡ back_again s d = λ i. record d { commands = (whole ∙ made.commands ∙ ap (left_back s) c.deref_mut.ensures.value) i } in
    let follows : Follows c.take_back.new.image v.index c.take_back.new.index d.touched = subst (Follows c.take_back.new.image v.index c.take_back.new.index) c.deref.ensures.value made.index in
    undo-made s c.take_back.new.image v.index c.take_back.new.index v.stale.items v.entries.items k d e h at c.args.self.now c.requires.log c.requires.renewed view
    (made.image ∙ ap (taken_back s) c.deref_mut.ensures.value) left follows
