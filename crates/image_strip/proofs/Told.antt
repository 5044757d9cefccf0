-- What accessors tell of methods and do-its that are asked whether they are closed.
use Rattle.std.proofs.Common.{◌≡◌, ℕ, ◌&&◌, true, not, Option, None, Some, slice_get, option_map, refl, sym, ap, subst, ◌∙◌, true≢false}
use Rattle.std.specs.Prelude.{if◌then◌else◌}
use Rattle.std.specs.Option.{is_some, option_map_or}
use Rattle.st_tree.specs.declared.tree.Method.{Method}
use Rattle.st_tree.specs.declared.tree.Sequence.{Sequence}
use Rattle.class_table.specs.declared.record.DoIt.{DoIt}
use Rattle.class_table.specs.declared.record.MethodInfo.{MethodInfo}
use Rattle.class_table.specs.declared.record.MethodRec.{MethodRec}
use Rattle.class_table.specs.Info.{IsInfoOf}
use Rattle.class_table.specs.Slots.{Slots}
use Rattle.class_table.specs.Valid.{IsLive}
use Rattle.class_table.specs.View.{live_at}
use Rattle.class_questions.proofs.AnyLive.{live_at-live, live-live_at}
use Rattle.image_strip.specs.Code.{method_at, doit_at}
use Rattle.image_strip.specs.Reached.{Marks, is_marked}
use Rattle.image_strip.specs.SlotsClosed.{code_closed, doit_closed, is_wanted, method_closed}
use Rattle.image_strip.specs.Stripped.{is_class_marked}

module _ (s : Slots) (r : Marks) where
  pub doit-told : (p : Option DoIt) (b : Sequence) → Some b ≡ option_map (λ (d : DoIt). d.body) p → option_map_or (doit_closed s r) p true ≡ code_closed r (doit_at s b)
  doit-told None b e = absurd (cc)
  doit-told (Some d) b e = let same : d.body ≡ b = cc in ap (λ (x : Sequence). code_closed r (doit_at s x)) same

  pub method-told : (k : ℕ) → IsLive s.method_order k → (info : MethodInfo) (tree : Method) → IsInfoOf (Some info) (live_at s.methods s.method_order k) → Some tree ≡ option_map (λ (m : MethodRec). m.tree) (live_at s.methods s.method_order k)
      → is_marked r.methods k ≡ true → is_class_marked s.classes r.classes info.class ≡ true → code_closed r (method_at s info.class info.meta tree) ≡ method_closed s r k
  method-told k l info tree tells of marked home =
      by (slice_get s.methods k) (subst (IsInfoOf (Some info)) (live_at-live s.methods s.method_order k l) tells) (of ∙ ap (option_map (λ (m : MethodRec). m.tree)) (live_at-live s.methods s.method_order k l))
    where
      by : (p : Option MethodRec) → IsInfoOf (Some info) p → Some tree ≡ option_map (λ (m : MethodRec). m.tree) p
          → code_closed r (method_at s info.class info.meta tree)
          ≡ option_map_or (λ (m : MethodRec). if is_marked r.methods k then (is_class_marked s.classes r.classes m.class && code_closed r (method_at s m.class m.meta m.tree)) else not (is_wanted s r m)) p true
      by None t e = absurd t
      by (Some m) t e =
          let same : tree ≡ m.tree = cc in
          (λ j. sym home j && code_closed r (method_at s (t.class j) (t.meta j) (same j)))
          ∙ (λ j. is_class_marked s.classes r.classes (t.class j) && code_closed r (method_at s m.class m.meta m.tree))
          ∙ (λ j. if sym marked j then (is_class_marked s.classes r.classes m.class && code_closed r (method_at s m.class m.meta m.tree)) else not (is_wanted s r m))

-- a slot of a method of which something is told is live
pub told-live : (s : Slots) (k : ℕ) (info : Option MethodInfo) → IsInfoOf info (live_at s.methods s.method_order k) → is_some info ≡ true → IsLive s.method_order k
told-live s k info = by info (live_at s.methods s.method_order k) refl
  where
    by : (p : Option MethodInfo) (q : Option MethodRec) → live_at s.methods s.method_order k ≡ q → IsInfoOf p q → is_some p ≡ true → IsLive s.method_order k
    by None q e t h = absurd (true≢false (sym h))
    by (Some info) None e t h = absurd t
    by (Some info) (Some m) e t h = (live-live_at s.methods s.method_order k m e).0
