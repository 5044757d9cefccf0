use Rattle.std.proofs.Common.{◌≡◌, List, ◌+◌, ◌++◌, ◌∙◌, drop, refl, sym, ap, subst, length, ◌<◌, ◌∷◌, []}
use Rattle.std.specs.Prelude.{unwrap_or, Option}
use Rattle.std.specs.Borrow.{Bor}
use Rattle.rb_base.specs.Names.{name_at}
use Rattle.image_model.specs.Image.{ClassOf}
use Rattle.class_table.specs.declared.record.ClassRec.{ClassRec}
use Rattle.file_model.specs.Filing.{Text}
use Rattle.change_model.specs.Equal.{is_namesake}
use Rattle.change_file.specs.Shown.{class_texts, class_keys}
use Rattle.change_file.proofs.KeyWalks.{keys_apart, key_taken, drop_item}
use Rattle.change_file.proofs.ClassLists.{item_at, writable_at}
use Rattle.change_file.proofs.classes.names_of.Goals as goal

pub text_of-requires : goal.text_of-requires
text_of-requires c =
    let r = c.rec-item.result in
    subst (λ (names : List Text). r.now.name < length names) (sym c.names.ensures)
    (writable_at c.args.image.now c.args.recs.now c.loop-rec.rec-index r c.requires.writable (item_at c.args.recs.now c.loop-rec.rec-index r c.loop-rec-test.true c.rec-item.is)).names.name

pub loop-rec-preserved : goal.loop-rec-preserved
loop-rec-preserved c =
    let s = c.args.image.now in
    let recs = c.args.recs.now in
    let i = c.loop-rec.rec-index in
    let r = c.rec-item.result in
    let t = c.text_of.result.now in
    let rest = class_keys (class_texts s (drop (i + 1) recs)) in
    let name : t ≡ name_at s.names r.now.name = ap (λ (o : Option Text). unwrap_or o []) c.text_of.ensures ∙ ap (λ (ns : List Text). name_at ns r.now.name) c.names.ensures in
    let first : class_keys (class_texts s (drop i recs)) ≡ t ∷ rest =
    ap (λ (rs : List (Bor ClassRec)). class_keys (class_texts s rs)) (drop_item recs i r (item_at recs i r c.loop-rec-test.true c.rec-item.is)) ∙ ap (λ (n : Text). n ∷ rest) (sym name) in
    ap (λ (ns : List Text). ns ++ rest) c.in_ok-_number.ensures.ok
    ∙ key_taken c.loop-rec.names rest (class_keys (class_texts s recs)) t
    (keys_apart (λ (d : ClassOf Text). d.name) is_namesake (λ x y. refl) (class_texts s recs) c.requires.apart)
    (ap (λ (ks : List Text). c.loop-rec.names ++ ks) (sym first) ∙ c.loop-rec.invariant)
