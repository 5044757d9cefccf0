use Rattle.std.proofs.Common.{◌≡◌, ◌<◌, ◌≤◌, length, get_or, ℕ, Err, sym, ap, subst, ◌∙◌, arith}
use Rattle.std.proofs.lemmas.List.{with_items_is}
use Rattle.std.proofs.lemmas.Result.{err_from_is_err_and}
use Rattle.std.specs.Vec.{with_items}
use Rattle.history_model.specs.Rules.{Redo}
use Rattle.history_model.specs.History.{stepped}
use Rattle.session_model.specs.Scripts.{rules}
use Rattle.commands.specs.declared.condition.Condition.TheVariants as condition
use Rattle.session.specs.Log.{Done, Log, done_again, left_again, IsLogOf}
use Rattle.session.specs.History.{history_of}
use Rattle.session.specs.Stepping.{IsStepped}
use Rattle.session.specs.declared.refusal.StepRefusal.TheVariants as refusal
use Rattle.session.proofs.Logs.{again}
use Rattle.session.proofs.UnderWay.{Follows}
use Rattle.session.proofs.Steps.{redo-made, wanting, none-forth}
use Rattle.session.proofs.session.Session.redo.Goals as goal

pub returns-then-len-self : goal.returns-then-len-self
returns-then-len-self g c =
    let s = c.args.image.now in
    let v = c.self.inside in
    let h : length v.entries.items ≤ v.done = omega (arith, c.if-len-self.true, c.len.ensures, v.entries.ok.0) in
    subst (λ (l : Log). IsStepped s l (stepped rules (history_of s l) Redo) s l (Err (refusal.Condition condition.RedoLeft))) c.self.view_is
    (none-forth s v.index v.stale.items v.entries.items v.done h (subst (IsLogOf s) (sym c.self.view_is) c.requires.log))

pub returns-in_err-do_again : goal.returns-in_err-do_again
returns-in_err-do_again g c =
    let s = c.args.image.now in
    let v = c.self.inside in
    let k : ℕ = v.done in
    let made = c.in_err-do_again.ensures in
    let p = err_from_is_err_and c.from_residual.result c.from_residual.ensures.1 in
    let d : Done = record { commands = c.entry.inside.commands.items; touched = c.entry.inside.touched.items } in
    let e : Done = record { commands = (with_items c.entry.inside.commands c.do_again.new.commands).items; touched = c.entry.inside.touched.items } in
    let whole : (with_items c.entry.inside.commands c.do_again.new.commands).items ≡ c.do_again.new.commands = with_items_is c.entry.inside.commands c.do_again.new.commands (c.do_again.auto.commands ∙ c.deref_mut.ensures.len) in
    let at : d ≡ get_or v.entries.items k d = c.entry.view_is ∙ c.index_mut-entry.ensures.value ∙ ap (get_or v.entries.items k) (sym c.entry.view_is) in
    let h : k < length v.entries.items = omega (arith, v.entries.ok.0) in
    let same : e ≡ d = λ i. record d { commands = (whole ∙ made.same_commands ∙ c.deref_mut.ensures.value) i } in
    rw (p.1, p.2) (
    wanting s c.do_again.new.image v.index c.do_again.new.index v.stale.items v.entries.items k d e h at c.args.self.now c.requires.log c.requires.renewed v.done (stepped rules (history_of s c.args.self.now) Redo) c.self.view_is
    made.same_image same made.same_index)

pub returns : goal.returns
returns g c =
    let s = c.args.image.now in
    let v = c.self.inside in
    let k : ℕ = v.done in
    let made = c.in_ok-do_again.ensures in
    let d : Done = record { commands = c.entry.inside.commands.items; touched = c.entry.inside.touched.items } in
    let e : Done = record { commands = (with_items c.entry.inside.commands c.do_again.new.commands).items; touched = c.entry.inside.touched.items } in
    let whole : (with_items c.entry.inside.commands c.do_again.new.commands).items ≡ c.do_again.new.commands = with_items_is c.entry.inside.commands c.do_again.new.commands (c.do_again.auto.commands ∙ c.deref_mut.ensures.len) in
    let at : d ≡ get_or v.entries.items k d = c.entry.view_is ∙ c.index_mut-entry.ensures.value ∙ ap (get_or v.entries.items k) (sym c.entry.view_is) in
    let h : k < length v.entries.items = omega (arith, v.entries.ok.0) in
    let left : e ≡ again s d = λ i. record d { commands = (whole ∙ made.commands ∙ ap (left_again s) c.deref_mut.ensures.value) i } in
    let follows : Follows c.do_again.new.image v.index c.do_again.new.index d.touched = subst (Follows c.do_again.new.image v.index c.do_again.new.index) c.deref.ensures.value made.index in
    redo-made s c.do_again.new.image v.index c.do_again.new.index v.stale.items v.entries.items k d e h at c.args.self.now c.requires.log c.requires.renewed c.self.view_is
    (made.image ∙ ap (done_again s) c.deref_mut.ensures.value) left follows
