-- A method of the user that is found: it is well formed, and of its class and side.
use Rattle.std.proofs.Common.{◌≡◌, ℕ, Option, Some, None, refl, sym, ap, ◌∙◌}
use Rattle.std.specs.Prelude.{Bool, true, false, ◌&&◌, if◌then◌else◌, option_and_then, slice_get}
use Rattle.std.specs.Option.{option_map_or}
use Rattle.std.proofs.Math.Bool.{beq}
use Rattle.rb_base.specs.Names.{text_eq}
use Rattle.image_model.specs.Image.{EntryOf, ImageOf}
use Rattle.image_model.specs.Lookup.{is_method, own_method}
use Rattle.image_model.proofs.Ends.{find-place}
use Rattle.run_model.specs.Values.{Name}
use Rattle.run_model.proofs.Finite.{and-true_left, and-true_right}
use Rattle.mapped_model.proofs.RenamedVariableLemmas.{all-at}
use Rattle.reread_law.specs.WholeTrees.{WellFormedMethod}
use Rattle.unfolded_calls.proofs.Running.{none-some, some-same, find-passes, same-side, class-there}
use Rattle.command_model.specs.Places.{users_method}
use Rattle.command_model.proofs.UsersMethods.{users-own}
use Rattle.moved_code_laws.specs.WellWritten.{IsWellWritten}

-- a method of the user is none of the kernel
users-kernel : (i : ImageOf Name) (c : Name) (meta : Bool) (s : Name) (m : EntryOf Name) → users_method text_eq i c meta s ≡ Some m → m.kernel ≡ false
users-kernel i c meta s m = by (own_method text_eq i.methods c meta s)
  where
    either : (n : EntryOf Name) (b : Bool) → n.kernel ≡ b → (if b then None else Some n) ≡ Some m → m.kernel ≡ false
    either n true q e = none-some e
    either n false q e = ap (λ (x : EntryOf Name). x.kernel) (sym (some-same e)) ∙ q

    by : (o : Option (EntryOf Name)) → option_and_then (λ (n : EntryOf Name). if n.kernel then None else Some n) o ≡ Some m → m.kernel ≡ false
    by None e = none-some e
    by (Some n) e = either n n.kernel refl e

-- a method of the user is well formed, and of its class and side
pub record UsersMethod (i : ImageOf Name) (c : Name) (meta : Bool) (m : EntryOf Name) : Type 0 where
  pub place : ℕ
  pub at : slice_get i.methods place ≡ Some m
  pub class : m.class ≡ Some c
  pub side : m.meta ≡ meta
  pub formed : WellFormedMethod false m.tree

pub users-there : (i : ImageOf Name) → IsWellWritten i → (c : Name) (meta : Bool) (s : Name) (m : EntryOf Name) → users_method text_eq i c meta s ≡ Some m → UsersMethod i c meta m
users-there i sound c meta s m e =
    let own = users-own text_eq i c meta s m e in
    let at = find-place (is_method text_eq c meta s) i.methods m own in
    let front = and-true_left (option_map_or (text_eq c) m.class false && beq meta m.meta) (text_eq s m.tree.selector) (find-passes (is_method text_eq c meta s) i.methods m own) in
    record {
      place = at.0;
      at = at.1;
      class = class-there c m.class (and-true_left (option_map_or (text_eq c) m.class false) (beq meta m.meta) front);
      side = same-side meta m.meta (and-true_right (option_map_or (text_eq c) m.class false) (beq meta m.meta) front);
      formed = all-at (λ (n : EntryOf Name). n.kernel ≡ false → WellFormedMethod false n.tree) i.methods at.0 m sound.formed at.1 (users-kernel i c meta s m e);
    }
