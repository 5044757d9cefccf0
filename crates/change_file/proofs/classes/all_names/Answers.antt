use Rattle.std.proofs.Common.{◌≡◌, ℕ, ◌+◌, ◌∙◌, drop, sym, ap, subst, length, slice_get, ◌<◌, Some, None}
use Rattle.std.specs.Prelude.{◌||◌, unwrap_or, Option, List, []}
use Rattle.rb_base.specs.Names.{text_eq, name_at, interned}
use Rattle.class_table.specs.Valid.{IsLive}
use Rattle.file_model.specs.Filing.{Text}
use Rattle.file_model.specs.Hierarchy.{has_class}
use Rattle.change_file.specs.Partners.{is_listed}
use Rattle.change_file.proofs.ClassLists.{all_texts, item_at, IsLive-at, live_at-live, name_taken, no_name, names_end, writable_class}
use Rattle.change_file.proofs.classes.all_names.Goals as goal
use Rattle.change_file.proofs.classes.all_names.Goals.{in-Some+in_ok-_number, in_default}

pub text_of-requires : goal.text_of-requires
text_of-requires c =
    let s = c.args.image.now in
    let items = c.classes-id-items.result.now in
    let k = c.id-item.result in
    let l : IsLive s.class_order k = subst (λ (order : List ℕ). IsLive order k) c.classes-id-items.ensures.value (IsLive-at items c.loop-id.id-index k (item_at items c.loop-id.id-index k c.loop-id-test.true c.id-item.is)) in
    subst (λ (names : List Text). c.in-Some.rec.now.name < length names) (sym c.names.ensures)
    (writable_class s k c.in-Some.rec.now c.requires l (sym (live_at-live s.classes s.class_order k l) ∙ sym c.in-Some.ensures)).names.name

pub loop-id-preserved : goal.loop-id-preserved
loop-id-preserved c =
    let s = c.args.image.now in
    let items = c.classes-id-items.result.now in
    let i = c.loop-id.id-index in
    let k = c.id-item.result in
    let at = item_at items i k c.loop-id-test.true c.id-item.is in
    let l : IsLive s.class_order k = subst (λ (order : List ℕ). IsLive order k) c.classes-id-items.ensures.value (IsLive-at items i k at) in
    let there = live_at-live s.classes s.class_order k l in
    let rest = λ (name : Text). has_class text_eq (all_texts s (drop (i + 1) items)) name in
    elim c.match-class_rec.branch [
      | in-Some+in_ok-_number w ↦ λ name.
          let e : slice_get s.classes k ≡ Some w.in-Some.rec.now = sym there ∙ sym w.in-Some.ensures in
          let t : w.text_of.result.now ≡ name_at s.names w.in-Some.rec.now.name =
          ap (λ (o : Option Text). unwrap_or o []) w.text_of.ensures ∙ ap (λ (ns : List Text). name_at ns w.in-Some.rec.now.name) w.names.ensures in
          ap (λ (ns : List Text). is_listed ns name || rest name) (w.names-is ∙ w.in_ok-_number.ensures.ok ∙ ap (interned c.loop-id.names) t)
          ∙ name_taken s items i k at c.loop-id.names w.in-Some.rec.now _ name e (c.loop-id.invariant name)
      | in_default w ↦ λ name.
          let e : slice_get s.classes k ≡ None = sym there ∙ sym w.in_default.ensures in
          ap (λ (ns : List Text). is_listed ns name || rest name) w.names-is ∙ no_name s items i k at c.loop-id.names _ name e (c.loop-id.invariant name)
    ]

pub returns : goal.returns
returns c = λ name.
    names_end c.args.image.now c.classes-id-items.result.now c.loop-id.id-index c.loop-id.names _ name c.loop-id-test.false (c.loop-id.invariant name)
    ∙ ap (λ (ks : List ℕ). has_class text_eq (all_texts c.args.image.now ks) name) c.classes-id-items.ensures.value
