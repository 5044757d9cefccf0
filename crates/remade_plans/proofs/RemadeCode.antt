-- Where a change of code is given, and which.
use Rattle.std.proofs.Common.{◌≡◌, ℕ, Bool, true, false, Option, None, Some, slice_get, refl, sym, ap, ◌∙◌}
use Rattle.std.specs.Prelude.{if◌then◌else◌, nat_eq}
use Rattle.std.specs.List.{list_any}
use Rattle.std.specs.Option.{option_and_then}
use Rattle.st_tree.specs.View.{sequence_of}
use Rattle.st_tree.proofs.Back.{sequence_of-sequence_from, method_of-method_from}
use Rattle.class_table.specs.declared.record.MethodRec.{MethodRec}
use Rattle.class_table.specs.declared.record.DoIt.{DoIt}
use Rattle.class_table.specs.declared.record.Place.TheVariants as place
use Rattle.class_table.specs.Slots.{Slots}
use Rattle.class_table.specs.Valid.{IsLive}
use Rattle.class_table.specs.View.{live_at, entry_of, doit_of}
use Rattle.change_set.specs.declared.change.Change.{Change}
use Rattle.change_set.specs.declared.change.Change.TheVariants as change
use Rattle.remade_plans.specs.Remade.{Remaking, entry_after, doit_after, method_rec_after, doit_rec_after, change_at}

module _ (s : Slots) (r : Remaking) where
  -- which records are made anew
  abbrev pub entry_changes : MethodRec → Bool
  entry_changes m = r.is_method_remade (entry_of s.classes m)

  abbrev pub doit_changes : DoIt → Bool
  doit_changes d = r.is_doit_remade (doit_of d)

  -- the record after stands for the method after, and the other record for the do-it after
  pub entry-is : (m : MethodRec) (b : Bool) → entry_changes m ≡ b → entry_of s.classes (if b then method_rec_after s r m else m) ≡ entry_after s r (entry_of s.classes m)
  entry-is m true q =
      (λ j. record (entry_of s.classes (method_rec_after s r m)) { tree = method_of-method_from (r.method_after (entry_of s.classes m)) j })
      ∙ sym (ap (λ (c : Bool). if c then record (entry_of s.classes (method_rec_after s r m)) { tree = r.method_after (entry_of s.classes m) } else entry_of s.classes m) q)
  entry-is m false q = sym (ap (λ (c : Bool). if c then record (entry_of s.classes (method_rec_after s r m)) { tree = r.method_after (entry_of s.classes m) } else entry_of s.classes m) q)

  pub doit-is : (d : DoIt) (b : Bool) → doit_changes d ≡ b → doit_of (if b then doit_rec_after s r d else d) ≡ doit_after s r (doit_of d)
  doit-is d true q =
      (λ j. record (doit_of (doit_rec_after s r d)) { body = sequence_of-sequence_from (r.body_after (sequence_of d.body)) j })
      ∙ sym (ap (λ (c : Bool). if c then record (doit_of (doit_rec_after s r d)) { body = r.body_after (sequence_of d.body) } else doit_of d) q)
  doit-is d false q = sym (ap (λ (c : Bool). if c then record (doit_of (doit_rec_after s r d)) { body = r.body_after (sequence_of d.body) } else doit_of d) q)

  -- what stands where a change is given
  pub record GivenMethod (k : ℕ) (c : Change) : Type 0 where
    pub rec : MethodRec
    pub live : IsLive s.method_order k
    pub there : slice_get s.methods k ≡ Some rec
    pub changes : entry_changes rec ≡ true
    pub is : c ≡ change.Method k (method_rec_after s r rec)

  pub record GivenDoIt (n : ℕ) (c : Change) : Type 0 where
    pub rec : DoIt
    pub there : slice_get s.doits n ≡ Some rec
    pub changes : doit_changes rec ≡ true
    pub is : c ≡ change.DoIt n (doit_rec_after s r rec)

  some-same : {X : Type 0} {x y : X} → Some x ≡ Some y → x ≡ y
  some-same h = cc

  none-some : {X : Type 0} {x : X} → None ≡ Some x → ⊥
  none-some h = cc

  abbrev method_given : ℕ → Option MethodRec → Option Change
  method_given k o = option_and_then (λ (m : MethodRec). if entry_changes m then Some (change.Method k (method_rec_after s r m)) else None) o

  abbrev doit_given : ℕ → Option DoIt → Option Change
  doit_given n o = option_and_then (λ (d : DoIt). if doit_changes d then Some (change.DoIt n (doit_rec_after s r d)) else None) o

  pub given-method : (k : ℕ) (c : Change) → change_at s r (place.Method k) ≡ Some c → GivenMethod k c
  given-method k c h = first (list_any (nat_eq k) s.method_order) refl (slice_get s.methods k) refl h
    where
      first : (b : Bool) → list_any (nat_eq k) s.method_order ≡ b → (o : Option MethodRec) → slice_get s.methods k ≡ o → method_given k (if b then o else None) ≡ Some c → GivenMethod k c
      first false l o e g = absurd (none-some g)
      first true l None e g = absurd (none-some g)
      first true l (Some m) e g = second (entry_changes m) refl g
        where
          second : (t : Bool) → entry_changes m ≡ t → (if t then Some (change.Method k (method_rec_after s r m)) else None) ≡ Some c → GivenMethod k c
          second false q f = absurd (none-some f)
          second true q f = record { rec = m; live = l; there = e; changes = q; is = sym (some-same f) }

  pub given-doit : (n : ℕ) (c : Change) → change_at s r (place.DoIt n) ≡ Some c → GivenDoIt n c
  given-doit n c h = first (slice_get s.doits n) refl h
    where
      first : (o : Option DoIt) → slice_get s.doits n ≡ o → doit_given n o ≡ Some c → GivenDoIt n c
      first None e g = absurd (none-some g)
      first (Some d) e g = second (doit_changes d) refl g
        where
          second : (t : Bool) → doit_changes d ≡ t → (if t then Some (change.DoIt n (doit_rec_after s r d)) else None) ≡ Some c → GivenDoIt n c
          second false q f = absurd (none-some f)
          second true q f = record { rec = d; there = e; changes = q; is = sym (some-same f) }

  -- what is given for a live method and for a do-it
  pub method-gives : (k : ℕ) (m : MethodRec) → live_at s.methods s.method_order k ≡ Some m → (b : Bool) → entry_changes m ≡ b
      → change_at s r (place.Method k) ≡ (if b then Some (change.Method k (method_rec_after s r m)) else None)
  method-gives k m e b q = ap (method_given k) e ∙ ap (λ (c : Bool). if c then Some (change.Method k (method_rec_after s r m)) else None) q

  pub doit-gives : (n : ℕ) (d : DoIt) → slice_get s.doits n ≡ Some d → (b : Bool) → doit_changes d ≡ b
      → change_at s r (place.DoIt n) ≡ (if b then Some (change.DoIt n (doit_rec_after s r d)) else None)
  doit-gives n d e b q = ap (doit_given n) e ∙ ap (λ (c : Bool). if c then Some (change.DoIt n (doit_rec_after s r d)) else None) q

  -- where nothing stands, none is given
  pub no-method_gives : (k : ℕ) → live_at s.methods s.method_order k ≡ None → None ≡ change_at s r (place.Method k)
  no-method_gives k e = sym (ap (method_given k) e)

  pub no-doit_gives : (n : ℕ) → slice_get s.doits n ≡ None → None ≡ change_at s r (place.DoIt n)
  no-doit_gives n e = sym (ap (doit_given n) e)

  -- a live slot that holds something
  pub live-there : (k : ℕ) (m : MethodRec) → IsLive s.method_order k → slice_get s.methods k ≡ Some m → live_at s.methods s.method_order k ≡ Some m
  live-there k m l e = ap (λ (b : Bool). if b then slice_get s.methods k else None) l ∙ e
