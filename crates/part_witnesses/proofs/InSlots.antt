-- What slots hold.
use Rattle.std.proofs.Common.{◌≡◌, ℕ, Bool, true, false, cond, Bor, Option, None, Some, option_map, refl, sym, ap, subst, ◌∙◌}
use Rattle.std.specs.Option.{option_and_then, option_copied, option_map_or}
use Rattle.image_model.specs.Image.{EntryOf}
use Rattle.image_model.specs.Nodes.{in_method}
use Rattle.st_tree.specs.declared.tree.Method.{Method}
use Rattle.st_tree.specs.View.{method_of}
use Rattle.class_table.specs.declared.record.MethodRec.{MethodRec}
use Rattle.class_table.specs.declared.record.MethodInfo.{MethodInfo}
use Rattle.class_table.specs.Info.{TellsOf, IsInfoOf}
use Rattle.class_table.specs.Slots.{Slots}
use Rattle.class_table.specs.Valid.{IsLive, IsOrderly}
use Rattle.class_table.specs.View.{class_name, entry_of, live_at}
use Rattle.class_questions.proofs.AnyLive.{live-live_at}
use Rattle.refusal_witnesses.specs.Witnesses.{AtPlace, InMethod}
use Rattle.part_witnesses.specs.declared.held.Held.{Held}
use Rattle.part_witnesses.specs.Held.{IsHeld, held_as}

module _ (s : Slots) where
  -- what is told of the method in a slot
  pub none-held : (o : Option MethodRec) → IsInfoOf None o → None ≡ option_map (entry_of s.classes) o
  none-held None t = refl
  none-held (Some m) t = absurd t

  pub lost-held : (tree : Option (Bor Method)) (o : Option MethodRec) → option_copied tree ≡ option_map (λ (m : MethodRec). m.tree) o → tree ≡ None → None ≡ option_map (entry_of s.classes) o
  lost-held None None lent e = refl
  lost-held None (Some m) lent e = absurd (cc)
  lost-held (Some t) o lent e = absurd (cc)

  -- the parts of a method are those of its record
  parts-told : (x : MethodInfo) (tree : Bor Method) (m : MethodRec) (slot : ℕ) → TellsOf x m → tree.now ≡ m.tree → held_as s.classes (record { slot = slot; info = x; tree = tree }) ≡ entry_of s.classes m
  parts-told x tree m slot t same =
      λ j. record { class = class_name s.classes (t.class j); meta = t.meta j; protocol = t.protocol j; source = t.source j; tree = method_of (same j); kernel = t.kernel j }

  pub held-told : (x : MethodInfo) (tree : Bor Method) (slot : ℕ) (o : Option MethodRec) → IsInfoOf (Some x) o → option_copied (Some tree) ≡ option_map (λ (m : MethodRec). m.tree) o
      → Some (held_as s.classes (record { slot = slot; info = x; tree = tree })) ≡ option_map (entry_of s.classes) o
  held-told x tree slot None t lent = absurd t
  held-told x tree slot (Some m) t lent = let same : tree.now ≡ m.tree = cc in ap Some (parts-told x tree m slot t same)

  -- such a method stands in its slot
  pub is-held : (orderly : IsOrderly s) (x : MethodInfo) (tree : Bor Method) (slot : ℕ) → IsInfoOf (Some x) (live_at s.methods s.method_order slot)
      → option_copied (Some tree) ≡ option_map (λ (m : MethodRec). m.tree) (live_at s.methods s.method_order slot) → IsHeld s (record { slot = slot; info = x; tree = tree })
  is-held orderly x tree slot = by (live_at s.methods s.method_order slot) refl
    where
      by : (o : Option MethodRec) → live_at s.methods s.method_order slot ≡ o → IsInfoOf (Some x) o → option_copied (Some tree) ≡ option_map (λ (m : MethodRec). m.tree) o → IsHeld s (record { slot = slot; info = x; tree = tree })
      by None e t lent = absurd t
      by (Some m) e t lent =
          let there = live-live_at s.methods s.method_order slot m e in
          let same : tree.now ≡ m.tree = cc in
          record {
            owner = ap (λ (o : Option MethodRec). option_map_or InMethod (option_map (entry_of s.classes) o) (AtPlace (in_method slot))) there.1 ∙ ap InMethod (sym (parts-told x tree m slot t same));
            live = subst (IsLive s.class_order) (sym t.class) (orderly.method_classes_live slot m there.0 there.1);
          }

  -- the method of a record, if it is one of the user
  abbrev pub user_of : MethodRec → Option (EntryOf ℕ)
  user_of m = cond m.kernel None (Some (entry_of s.classes m))

  pub no-user : (o : Option MethodRec) → None ≡ option_map (entry_of s.classes) o → None ≡ option_and_then user_of o
  no-user None e = refl
  no-user (Some m) e = absurd (cc)

  pub kernel-user : (h : Held) (o : Option MethodRec) → Some (held_as s.classes h) ≡ option_map (entry_of s.classes) o → h.info.kernel ≡ true → None ≡ option_and_then user_of o
  kernel-user h None e k = refl
  kernel-user h (Some m) e k =
      let same : held_as s.classes h ≡ entry_of s.classes m = cc in
      ap (λ (b : Bool). cond b None (Some (entry_of s.classes m))) (sym k ∙ ap (λ (x : EntryOf ℕ). x.kernel) same)

  pub is-user : (h : Held) (o : Option MethodRec) → Some (held_as s.classes h) ≡ option_map (entry_of s.classes) o → h.info.kernel ≡ false → Some (held_as s.classes h) ≡ option_and_then user_of o
  is-user h None e k = absurd (cc)
  is-user h (Some m) e k =
      let same : held_as s.classes h ≡ entry_of s.classes m = cc in
      e ∙ ap (λ (b : Bool). cond b None (Some (entry_of s.classes m))) (sym k ∙ ap (λ (x : EntryOf ℕ). x.kernel) same)

-- what holds of a method that is found
pub of-found : (P : Held → Type 0) (m x : Held) → Some m ≡ Some x → P m → P x
of-found P m x e h = let same : m ≡ x = cc in subst P same h
