-- The method of the user that is found in a slot.
use Rattle.std.proofs.Common.{◌≡◌, ℕ, ◌&&◌, Bool, true, false, cond, Bor, Option, None, Some, option_map, slice_get, refl, sym, ap, subst, ◌∙◌}
use Rattle.std.specs.Prelude.{nat_eq}
use Rattle.std.specs.Bool.{beq}
use Rattle.std.specs.Option.{option_and_then, option_copied, option_map_or}
use Rattle.std.proofs.lemmas.Bool.{and_parts}
use Rattle.image_model.specs.Image.{EntryOf}
use Rattle.st_tree.specs.declared.tree.Method.{Method}
use Rattle.class_table.specs.declared.record.MethodRec.{MethodRec}
use Rattle.class_table.specs.declared.record.MethodInfo.{MethodInfo}
use Rattle.class_table.specs.Info.{IsInfoOf}
use Rattle.class_table.specs.Slots.{Slots}
use Rattle.class_table.specs.Valid.{IsOrderly}
use Rattle.class_table.specs.View.{class_name, entry_of, entry_at, live_at, number_image}
use Rattle.class_table.specs.Finding.{named_in, same_key, is_method_in, method_in}
use Rattle.class_table.proofs.Live.{eqb-equal, find-passes}
use Rattle.class_questions.proofs.AnyLive.{live_at-live}
use Rattle.class_questions.proofs.ChainLaws.{named-slot}
use Rattle.command_model.specs.Places.{users_method}
use Rattle.hierarchy_questions.specs.OwnMethods.{own_slot}
use Rattle.hierarchy_questions.proofs.OwnMethods.{own-slot, own-live}
use Rattle.users_methods.specs.declared.methods.UsersMethod.{UsersMethod}
use Rattle.users_methods.specs.Users.{entry_in}

module _ (s : Slots) where
  -- a method, if it is one of the user
  abbrev user_entry : MethodRec → Option (EntryOf ℕ)
  user_entry m = cond m.kernel None (Some (entry_of s.classes m))

  -- the method in a slot, if it is live and one of the user
  abbrev pub user_at : ℕ → Option (EntryOf ℕ)
  user_at j = option_and_then user_entry (live_at s.methods s.method_order j)

  pub named-entry : (orderly : IsOrderly s) (c : ℕ) (meta : Bool) (selector : ℕ)
      → option_and_then user_at (own_slot s c meta selector) ≡ users_method nat_eq (number_image s) c meta selector
  named-entry orderly c meta selector =
      by (own_slot s c meta selector) (own-live s orderly c meta selector)
      ∙ ap (option_and_then (λ (m : EntryOf ℕ). cond m.kernel None (Some m))) (sym (own-slot s orderly c meta selector))
    where
      by : (o : Option ℕ) → ((j : ℕ) → o ≡ Some j → (m : MethodRec) × (live_at s.methods s.method_order j ≡ Some m) × (slice_get s.methods j ≡ Some m))
          → option_and_then user_at o ≡ option_and_then (λ (m : EntryOf ℕ). cond m.kernel None (Some m)) (option_and_then (entry_at s) o)
      by None h = refl
      by (Some j) h =
          let t = h j refl in
          ap (option_and_then user_entry) t.1
          ∙ sym (ap (λ (o : Option MethodRec). option_and_then (λ (m : EntryOf ℕ). cond m.kernel None (Some m)) (option_map (entry_of s.classes) o)) t.2)

  -- what is told of a method in a slot
  pub none-told : (o : Option MethodRec) → IsInfoOf None o → None ≡ option_and_then user_entry o
  none-told None t = refl
  none-told (Some m) t = absurd t

  pub kernel-told : (x : MethodInfo) (o : Option MethodRec) → IsInfoOf (Some x) o → x.kernel ≡ true → None ≡ option_and_then user_entry o
  kernel-told x None t e = absurd t
  kernel-told x (Some m) t e = ap (λ b. cond b None (Some (entry_of s.classes m))) (sym (sym t.kernel ∙ e))

  pub lost-told : (x : MethodInfo) (tree : Option (Bor Method)) (o : Option MethodRec) → IsInfoOf (Some x) o → option_copied tree ≡ option_map (λ (m : MethodRec). m.tree) o → tree ≡ None → None ≡ option_and_then user_entry o
  lost-told x tree None t lent e = refl
  lost-told x None (Some m) t lent e = absurd (cc)
  lost-told x (Some tree) (Some m) t lent e = absurd (cc)

  pub user-told : (x : MethodInfo) (tree : Bor Method) (o : Option MethodRec) → IsInfoOf (Some x) o → x.kernel ≡ false → option_copied (Some tree) ≡ option_map (λ (m : MethodRec). m.tree) o
      → Some (entry_in s.classes (record { class = x.class; meta = x.meta; protocol = x.protocol; source = x.source; tree = tree })) ≡ option_and_then user_entry o
  user-told x tree None t e lent = absurd t
  user-told x tree (Some m) t e lent =
      let same : tree.now ≡ m.tree = cc in
      let kernel : m.kernel ≡ false = sym t.kernel ∙ e in
      (λ j. Some (entry_of s.classes (record { class = t.class j; meta = t.meta j; protocol = t.protocol j; source = t.source j; tree = same j; kernel = sym kernel j })))
      ∙ ap (λ b. cond b None (Some (entry_of s.classes m))) (sym kernel)

  -- the class of what the class of a name itself has is that class
  named-class : (c : ℕ) (meta : Bool) (selector j : ℕ) (m : MethodRec) → own_slot s c meta selector ≡ Some j → live_at s.methods s.method_order j ≡ Some m → class_name s.classes m.class ≡ Some c
  named-class c meta selector j m = by (named_in s.classes s.class_order c) refl
    where
      by : (o : Option ℕ) → named_in s.classes s.class_order c ≡ o → option_and_then (λ k. method_in s.methods s.method_order (record { class = k; meta = meta; selector = selector })) o ≡ Some j
          → live_at s.methods s.method_order j ≡ Some m → class_name s.classes m.class ≡ Some c
      by None q e at = absurd (cc)
      by (Some k) q e at =
          let p = find-passes (is_method_in s.methods (record { class = k; meta = meta; selector = selector })) s.method_order j e in
          let stands : slice_get s.methods j ≡ Some m = sym (live_at-live s.methods s.method_order j p.1) ∙ at in
          let same : (nat_eq k m.class && (beq meta m.meta && nat_eq selector m.tree.selector)) ≡ true =
          sym (ap (λ (o : Option MethodRec). option_map_or (same_key (record { class = k; meta = meta; selector = selector })) (option_map (λ (x : MethodRec). record { class = x.class; meta = x.meta; selector = x.tree.selector }) o) false) stands)
          ∙ p.0 in
          ap (class_name s.classes) (sym (eqb-equal k m.class (and_parts (nat_eq k m.class) (beq meta m.meta && nat_eq selector m.tree.selector) same).0)) ∙ (named-slot s.classes s.class_order c k q).1

  pub named-told : (c : ℕ) (meta : Bool) (selector j : ℕ) (x : MethodInfo) → own_slot s c meta selector ≡ Some j → IsInfoOf (Some x) (live_at s.methods s.method_order j) → class_name s.classes x.class ≡ Some c
  named-told c meta selector j x own = by (live_at s.methods s.method_order j) refl
    where
      by : (o : Option MethodRec) → live_at s.methods s.method_order j ≡ o → IsInfoOf (Some x) o → class_name s.classes x.class ≡ Some c
      by None at t = absurd t
      by (Some m) at t = ap (class_name s.classes) t.class ∙ named-class c meta selector j m own at

-- what holds of the class of a method that is found
pub class-of-found : (P : ℕ → Type 0) (m x : UsersMethod) → Some m ≡ Some x → P m.class → P x.class
class-of-found P m x e h = let same : m ≡ x = cc in subst (λ (u : UsersMethod). P u.class) same h
