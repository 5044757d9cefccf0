-- The methods of the user in an image, slot by slot, and the texts that tell them apart.
use Rattle.std.proofs.Common.{◌≡◌, ℕ, ◌+◌, ◌≤◌, Bool, true, false, cond, not, List, [], ◌∷◌, ◌++◌, length, map, filter, drop, Option, None, Some, slice_get, refl, sym, ap, ◌∙◌, append-nil}
use Rattle.std.specs.Prelude.{◌&&◌, if◌then◌else◌, nat_eq}
use Rattle.std.specs.Bool.{beq}
use Rattle.std.specs.List.{cons_option}
use Rattle.std.specs.Option.{option_and_then}
use Rattle.rb_base.specs.Names.{text_eq, name_at}
use Rattle.image_model.specs.Image.{EntryOf, map_entry}
use Rattle.class_table.specs.declared.record.MethodRec.{MethodRec}
use Rattle.class_table.specs.Slots.{Slots}
use Rattle.class_table.specs.View.{live, entry_of}
use Rattle.file_model.specs.Filing.{Text}
use Rattle.change_model.specs.Equal.{is_counterpart, is_equal_method}
use Rattle.change_file.specs.declared.methods.SignedMethod.{SignedMethod}
use Rattle.change_file.specs.Shown.{Shown, shown, shown_method, shown_user, shown_at, key_text, key_shown, is_counterpart_shown, is_equal_shown}
use Rattle.change_file.proofs.KeyWalks.{drop_item, drop_end, moved}

-- the methods of the user in the slots of an order, and what is shown of them
abbrev pub user_entries : Slots → List ℕ → List (EntryOf Text)
user_entries s order = filter (λ (m : EntryOf Text). not m.kernel) (map (map_entry (name_at s.names)) (map (entry_of s.classes) (live s.methods order)))

abbrev pub shown_users : Slots → List ℕ → List Shown
shown_users s order = map shown (user_entries s order)

module _ (s : Slots) (k : ℕ) (ks : List ℕ) where
  shown_first : (o : Option Shown) → shown_at s k ≡ o → shown_users s (k ∷ ks) ≡ cons_option o (shown_users s ks)
  shown_first o e = by (slice_get s.methods k) ∙ ap (λ (p : Option Shown). cons_option p (shown_users s ks)) e
    where
      kernel : (b : Bool) (m : EntryOf Text) (ms : List (EntryOf Text)) → map shown (cond (not b) (m ∷ ms) ms) ≡ cons_option (if b then None else Some (shown m)) (map shown ms)
      kernel true m ms = refl
      kernel false m ms = refl

      by : (p : Option MethodRec) → map shown (filter (λ (m : EntryOf Text). not m.kernel) (map (map_entry (name_at s.names)) (map (entry_of s.classes) (cons_option p (live s.methods ks)))))
          ≡ cons_option (option_and_then (λ (m : MethodRec). shown_user (map_entry (name_at s.names) (entry_of s.classes m))) p) (shown_users s ks)
      by None = refl
      by (Some m) = kernel m.kernel (map_entry (name_at s.names) (entry_of s.classes m)) (filter (λ (e : EntryOf Text). not e.kernel) (map (map_entry (name_at s.names)) (map (entry_of s.classes) (live s.methods ks))))

-- methods, one more at the end
pub shown_push : (items : List SignedMethod) (m : SignedMethod) → map shown_method (items ++ m ∷ []) ≡ map shown_method items ++ shown_method m ∷ []
shown_push [] m = refl
shown_push (n ∷ ns) m = ap (λ (xs : List Shown). shown_method n ∷ xs) (shown_push ns m)

module _ (s : Slots) (order : List ℕ) (i k : ℕ) (at : slice_get order i ≡ Some k) where
  pub method_taken : (items : List SignedMethod) (m : SignedMethod) (whole : List Shown) → Some (shown_method m) ≡ shown_at s k
      → map shown_method items ++ shown_users s (drop i order) ≡ whole → map shown_method (items ++ m ∷ []) ++ shown_users s (drop (i + 1) order) ≡ whole
  method_taken items m whole e h =
      ap (λ (xs : List Shown). xs ++ shown_users s (drop (i + 1) order)) (shown_push items m)
      ∙ moved (map shown_method items) (shown_users s (drop (i + 1) order)) whole (shown_method m)
      (ap (λ (xs : List Shown). map shown_method items ++ xs) (sym (ap (shown_users s) (drop_item order i k at) ∙ shown_first s k (drop (i + 1) order) (Some (shown_method m)) (sym e))) ∙ h)

  pub method_left : (items : List SignedMethod) (whole : List Shown) → None ≡ shown_at s k
      → map shown_method items ++ shown_users s (drop i order) ≡ whole → map shown_method items ++ shown_users s (drop (i + 1) order) ≡ whole
  method_left items whole e h =
      ap (λ (xs : List Shown). map shown_method items ++ xs) (sym (ap (shown_users s) (drop_item order i k at) ∙ shown_first s k (drop (i + 1) order) None (sym e))) ∙ h

pub methods_end : (s : Slots) (order : List ℕ) (i : ℕ) (items : List SignedMethod) (whole : List Shown) → length order ≤ i → map shown_method items ++ shown_users s (drop i order) ≡ whole → map shown_method items ≡ whole
methods_end s order i items whole l h = sym (append-nil (map shown_method items)) ∙ ap (λ (ks : List ℕ). map shown_method items ++ shown_users s ks) (sym (drop_end order i l)) ∙ h

-- keys are equal exactly where class, side and selector are
key_tells : (c d : Text) (m n : Bool) (s t : Text) → (text_eq c d && beq m n && text_eq s t) ≡ text_eq (key_text c m s) (key_text d n t)
key_tells [] [] true true s t = refl
key_tells [] [] true false s t = refl
key_tells [] [] false true s t = refl
key_tells [] [] false false s t = refl
key_tells [] (d ∷ ds) true n s t = refl
key_tells [] (d ∷ ds) false n s t = refl
key_tells (c ∷ cs) [] m true s t = refl
key_tells (c ∷ cs) [] m false s t = refl
key_tells (c ∷ cs) (d ∷ ds) m n s t = by (nat_eq c d) (key_tells cs ds m n s t)
  where
    by : (b : Bool) → (text_eq cs ds && beq m n && text_eq s t) ≡ text_eq (key_text cs m s) (key_text ds n t)
        → (b && text_eq cs ds && beq m n && text_eq s t) ≡ (b && text_eq (key_text cs m s) (key_text ds n t))
    by true rest = rest
    by false rest = refl

pub shown_tells : (m n : Shown) → is_counterpart_shown m n ≡ text_eq (key_shown m) (key_shown n)
shown_tells m n = key_tells m.run.class n.run.class m.run.meta n.run.meta m.selector n.selector

pub entry_tells : (m n : EntryOf Text) → is_counterpart m n ≡ text_eq (key_shown (shown m)) (key_shown (shown n))
entry_tells m n = shown_tells (shown m) (shown n)

-- the byte of a class is put into a key
pub key_append : (class : Text) (meta : Bool) (selector : Text) → key_text class meta selector ≡ key_text class meta [] ++ selector
key_append [] meta selector = refl
key_append (b ∷ class) meta selector = ap (λ (t : Text). 1 ∷ b ∷ t) (key_append class meta selector)

-- equal methods of the user
pub equal_users : (m n : EntryOf Text) → m.kernel ≡ false → n.kernel ≡ false → is_equal_shown (shown m) (shown n) ≡ is_equal_method m n
equal_users m n e f = by (is_counterpart m n) (text_eq m.protocol n.protocol) (text_eq m.source n.source) ∙ ap (λ (b : Bool). is_counterpart m n && (text_eq m.protocol n.protocol && (text_eq m.source n.source && b))) (sym kernels)
  where
    kernels : beq m.kernel n.kernel ≡ true
    kernels = λ j. beq (e j) (f j)

    by : (a b c : Bool) → (a && b && c) ≡ (a && (b && (c && true)))
    by true true true = refl
    by true true false = refl
    by true false c = refl
    by false b c = refl
