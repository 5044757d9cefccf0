-- The user's method that a command names.
use Rattle.std.proofs.Common.{◌≡◌, ℕ, ◌<◌, Bool, true, false, length, Option, None, Some, slice_get, refl, sym, ap, ◌∙◌, true≢false}
use Rattle.std.specs.Prelude.{nat_eq, not, ◌&&◌, if◌then◌else◌}
use Rattle.std.specs.Option.{option_map_or, option_and_then}
use Rattle.tree_model.specs.AllNames.{MethodNames}
use Rattle.st_tree.specs.View.{method_of}
use Rattle.st_tree.specs.declared.tree.Method.{Method}
use Rattle.image_model.specs.Image.{EntryOf}
use Rattle.image_model.specs.Lookup.{is_method, own_method}
use Rattle.class_table.specs.declared.record.MethodRec.{MethodRec}
use Rattle.class_table.specs.Slots.{Slots}
use Rattle.class_table.specs.Valid.{IsLive, IsOrderly}
use Rattle.class_table.specs.View.{entry_of, live_at, number_image}
use Rattle.class_questions.proofs.AnyLive.{live_at-live}
use Rattle.command_model.specs.Places.{users_method}
use Rattle.commands.specs.declared.command.MethodName.{MethodName}
use Rattle.users_methods.specs.declared.methods.UsersMethod.{UsersMethod}
use Rattle.users_methods.specs.Users.{entry_in, is_users}
use Rattle.users_methods.proofs.UsersKnown.{users-known}

-- the method that the user has
own-there : (o : Option (EntryOf ℕ)) → option_map_or (λ (m : EntryOf ℕ). not m.kernel) o false ≡ true → (m : EntryOf ℕ) × (o ≡ Some m) × (not m.kernel ≡ true)
own-there None e = absurd (true≢false (sym e))
own-there (Some m) e = (m, refl, e)

of-user : (b : Bool) (m : EntryOf ℕ) → not b ≡ true → (if b then None else Some m) ≡ Some m
of-user true m e = absurd (true≢false (sym e))
of-user false m e = refl

-- what a live slot holds, and whether it is one of the user
pub users-live : (s : Slots) → IsOrderly s → (method : MethodName) (k : ℕ) (r : MethodRec) → IsLive s.method_order k → slice_get s.methods k ≡ Some r
    → is_users s method k ≡ (is_method nat_eq method.class method.meta method.selector (entry_of s.classes r) && not r.kernel)
users-live s o method k r l at =
    ap (λ (q : Option MethodRec). option_map_or (λ (m : MethodRec). is_method nat_eq method.class method.meta method.selector (entry_of s.classes m) && not m.kernel) q false)
    (live_at-live s.methods s.method_order k l ∙ at)

-- the tree of the user's method
pub record IsUsers (s : Slots) (method : MethodName) (tree : Method) : Type 0 where
  pub entry : EntryOf ℕ
  pub found : users_method nat_eq (number_image s) method.class method.meta method.selector ≡ Some entry
  pub is : entry.tree ≡ method_of tree
  pub known : MethodNames (λ n. n < length s.names) (method_of tree)

-- where the user has the method, it is found
pub users-there : (s : Slots) (method : MethodName) → option_map_or (λ (m : EntryOf ℕ). not m.kernel) (own_method nat_eq (number_image s).methods method.class method.meta method.selector) false ≡ true
    → None ≡ users_method nat_eq (number_image s) method.class method.meta method.selector → ⊥
users-there s method has none =
    let own = own-there (own_method nat_eq (number_image s).methods method.class method.meta method.selector) has in
    let found : users_method nat_eq (number_image s) method.class method.meta method.selector ≡ Some own.0 =
    ap (option_and_then (λ (m : EntryOf ℕ). if m.kernel then None else Some m)) own.1 ∙ of-user own.0.kernel own.0 own.2 in
    absurd (cc)

-- what is found is it
pub users-told : (s : Slots) → IsOrderly s → (method : MethodName) (m : UsersMethod) → Some (entry_in s.classes m) ≡ users_method nat_eq (number_image s) method.class method.meta method.selector → IsUsers s method m.tree.now
users-told s o method m e = record {
  entry = entry_in s.classes m;
  found = sym e;
  is = refl;
  known = users-known s o method.class method.meta method.selector (entry_in s.classes m) (sym e);
}
