use Rattle.std.proofs.Common.{◌≡◌, Bool, true, false, not, ◌&&◌, option_map, Some, option_copied, refl, ap, sym, ◌∙◌}
use Rattle.std.specs.List.{list_any}
use Rattle.class_table.specs.declared.record.ClassRec.{ClassRec}
use Rattle.class_table.specs.View.{live_at}
use Rattle.class_questions.specs.LiveClasses.{is_live_that}
use Rattle.class_questions.proofs.AnyLive.{live-live_at}
use Rattle.inline_questions.specs.Targets.{finds_users, is_rival}
use Rattle.inline_questions.proofs.Targeted.{one-told}
use Rattle.inline_questions.proofs.targets.is_one_target.Goals as goal

pub returns-else-finds_users : goal.returns-else-finds_users
returns-else-finds_users c =
    let s = c.args.image.now in
    λ n named.
    let rivals : Bool = list_any (is_live_that (is_rival s (record { class = n; meta = c.args.meta; selector = c.args.selector })) s) s.class_order in
    let found : finds_users s c.args.class c.args.meta c.args.selector ≡ false = sym c.finds_users.ensures ∙ c.if-finds_users.false in
    c.if-finds_users.false ∙ (λ i. sym found i && not rivals)
    ∙ one-told s c.requires.orderly c.args.class c.requires.live n named c.args.meta c.args.selector rivals refl

pub returns-then-finds_users : goal.returns-then-finds_users
returns-then-finds_users c =
    let s = c.args.image.now in
    let rec = c.in-Some.rec.now in
    let told : live_at s.classes s.class_order c.args.class ≡ Some rec = sym c.class_rec.ensures ∙ ap option_copied c.in-Some.is in
    let here = live-live_at s.classes s.class_order c.args.class rec told in
    let found : finds_users s c.args.class c.args.meta c.args.selector ≡ true = sym c.finds_users.ensures ∙ c.if-finds_users.true in
    λ n named.
    let whole : Some rec.name ≡ Some n = sym (ap (option_map (λ (x : ClassRec). x.name)) here.1) ∙ named in
    let same : rec.name ≡ n = cc in
    let rivals : c.has_rival.result ≡ list_any (is_live_that (is_rival s (record { class = n; meta = c.args.meta; selector = c.args.selector })) s) s.class_order =
    c.has_rival.ensures ∙ (λ i. list_any (is_live_that (is_rival s (record { class = same i; meta = c.args.meta; selector = c.args.selector })) s) (c.classes.ensures.value i)) in
    (λ i. sym found i && not c.has_rival.result)
    ∙ one-told s c.requires.orderly c.args.class c.requires.live n named c.args.meta c.args.selector c.has_rival.result rivals
