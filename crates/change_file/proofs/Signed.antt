-- The selector of a method in a slot, from what the slot's accessors tell.
use Rattle.std.proofs.Common.{◌≡◌, ℕ, ◌<◌, length, Option, None, Some, slice_get, refl, sym, subst}
use Rattle.image_model.specs.ImageNames.{EntryNames}
use Rattle.class_table.specs.declared.record.MethodInfo.{MethodInfo}
use Rattle.class_table.specs.declared.record.MethodRec.{MethodRec}
use Rattle.class_table.specs.Info.{IsInfoOf}
use Rattle.class_table.specs.Slots.{Slots}
use Rattle.class_table.specs.Valid.{IsLive, IsOrderly}
use Rattle.class_table.specs.View.{live_at, entry_of}
use Rattle.class_table.proofs.Live.{live-fact}
use Rattle.change_file.proofs.ClassLists.{live_at-live}

-- it has a text
pub selector_known : (s : Slots) (k : ℕ) (info : MethodInfo) → IsLive s.method_order k → IsInfoOf (Some info) (live_at s.methods s.method_order k) → IsOrderly s → info.selector < length s.names
selector_known s k info l tells o = by (slice_get s.methods k) refl (subst (IsInfoOf (Some info)) (live_at-live s.methods s.method_order k l) tells)
  where
    by : (p : Option MethodRec) → slice_get s.methods k ≡ p → IsInfoOf (Some info) p → info.selector < length s.names
    by None e t = absurd t
    by (Some m) e t =
        let known = live-fact (EntryNames (λ n. n < length s.names)) (entry_of s.classes) s.methods s.method_order k m o.names_known.methods l e in
        subst (λ (n : ℕ). n < length s.names) (sym t.selector) known.tree.selector
