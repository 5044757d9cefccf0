-- Steps by which more is reached.
use Rattle.std.specs.Prelude.{◌≡◌, ℕ, ◌<◌, ◌+◌, List, filter, length, Bool, true, false, not, ◌||◌, nat_eq, slice_get, Option, Some}
use Rattle.std.specs.List.{list_any, list_all}
use Rattle.std.specs.Option.{option_map_or, option_and_then}
use Rattle.image_model.specs.Image.{DoItOf, plus}
use Rattle.image_model.specs.Words.{number_words}
use Rattle.strip_model.specs.Reach.{CodeOf, ReachOf, has_class, has_selector, has_method, is_closed, code_means, code_sends, if_named}
use Rattle.class_table.specs.declared.record.DoIt.{DoIt}
use Rattle.class_table.specs.declared.record.MethodRec.{MethodRec}
use Rattle.class_table.specs.Slots.{Slots}
use Rattle.class_table.specs.Valid.{IsLive}
use Rattle.class_table.specs.View.{class_name, entry_of, number_image}
use Rattle.image_strip.specs.Code.{method_at}
use Rattle.image_strip.specs.Reached.{Marks, is_marked}
use Rattle.image_strip.specs.SlotsClosed.{code_closed, doit_closed, is_wanted}
use Rattle.image_strip.specs.Stripped.{is_class_marked}

-- the name of the class in a slot, if there is one
abbrev pub option_names : Slots → Option ℕ → List ℕ
option_names s class = if_named (option_and_then (class_name s.classes) class)

-- what is marked stays marked
pub record IsMore (old new : Marks) : Type 0 where
  pub classes : (n : ℕ) → is_marked old.classes n ≡ true → is_marked new.classes n ≡ true
  pub selectors : (n : ℕ) → is_marked old.selectors n ≡ true → is_marked new.selectors n ≡ true
  pub methods : (n : ℕ) → is_marked old.methods n ≡ true → is_marked new.methods n ≡ true

-- what code demands is marked besides
pub record IsAdded (c : CodeOf ℕ) (old new : Marks) : Type 0 where
  pub classes : (n : ℕ) → is_marked new.classes n ≡ (list_any (nat_eq n) (code_means c) || is_marked old.classes n)
  pub selectors : (n : ℕ) → is_marked new.selectors n ≡ (list_any (nat_eq n) (code_sends c) || is_marked old.selectors n)
  pub methods : new.methods ≡ old.methods

-- all that is marked is among what is reached elsewhere
pub record IsBelow (s : Slots) (r : ReachOf ℕ) (m : Marks) : Type 0 where
  pub classes : (n : ℕ) → is_marked m.classes n ≡ true → has_class nat_eq r n ≡ true
  pub selectors : (n : ℕ) → is_marked m.selectors n ≡ true → has_selector nat_eq r n ≡ true
  pub methods : (k : ℕ) (x : MethodRec) → IsLive s.method_order k → slice_get s.methods k ≡ Some x → is_marked m.methods k ≡ true → has_method nat_eq r (entry_of s.classes x) ≡ true

-- of each method that is marked the class is marked, and what its code demands
abbrev pub IsOpened : Slots → Marks → Type 0
IsOpened s m = (k : ℕ) (x : MethodRec) → IsLive s.method_order k → slice_get s.methods k ≡ Some x → is_marked m.methods k ≡ true
    → (is_class_marked s.classes m.classes x.class ≡ true) × (code_closed m (method_at s x.class x.meta x.tree) ≡ true)

-- more is marked, and no more than in all that is closed for the image with some do-it at its end
pub record IsStep (s : Slots) (old new : Marks) : Type 0 where
  pub more : IsMore old new
  pub opened : IsOpened s old → IsOpened s new
  pub sound : (e : DoItOf ℕ) (r : ReachOf ℕ) → is_closed (number_words s.names) (plus (number_image s) e) r ≡ true → IsBelow s r old → IsBelow s r new

-- what do-its of the image demand is marked besides
pub record AreDoItsAdded (s : Slots) (ds : List DoIt) (old new : Marks) : Type 0 where
  pub step : IsStep s old new
  pub closed : list_all (doit_closed s new) ds ≡ true

-- how many live classes and methods are not marked
abbrev pub unreached : Slots → Marks → ℕ
unreached s m = length (filter (λ k. not (is_class_marked s.classes m.classes k)) s.class_order) + length (filter (λ k. not (is_marked m.methods k)) s.method_order)

-- slots are passed: either nothing changes, since each of them is settled, or there is less to reach
pub record IsPass (s : Slots) (settled : Marks → ℕ → Bool) (slots : List ℕ) (changed : Bool) (old new : Marks) : Type 0 where
  pub step : IsStep s old new
  pub same : changed ≡ false → new ≡ old
  pub all_settled : changed ≡ false → list_all (settled new) slots ≡ true
  pub fewer : changed ≡ true → unreached s new < unreached s old

-- a method is marked, or need not be
abbrev pub is_method_settled : Slots → Marks → ℕ → Bool
is_method_settled s m k = option_map_or (λ (x : MethodRec). is_marked m.methods k || not (is_wanted s m x)) (slice_get s.methods k) true
