-- The method that a message finds.
use Rattle.std.proofs.Common.{◌≡◌, ℕ, Bool, false, not, ◌&&◌, Option, None, Some, option_map, refl, sym, ap, ◌∙◌}
use Rattle.std.specs.List.{list_any}
use Rattle.std.specs.Option.{option_map_or, option_and_then}
use Rattle.image_model.specs.Image.{EntryOf}
use Rattle.image_model.specs.Words.{number_words}
use Rattle.image_model.specs.Lookup.{lookup}
use Rattle.class_table.specs.declared.record.MethodRec.{MethodRec}
use Rattle.class_table.specs.Slots.{Slots}
use Rattle.class_table.specs.View.{class_name, class_of, entry_of, entry_at, live_at, number_image}
use Rattle.class_table.specs.Valid.{IsLive, IsOrderly}
use Rattle.class_table.specs.Finding.{found_by_lookup}
use Rattle.class_table.proofs.Found.{lookup-live}
use Rattle.class_questions.specs.LiveClasses.{is_live_that}
use Rattle.class_questions.proofs.AnyLive.{live-live_at, any_live}
use Rattle.command_model.specs.InlineConditions as model
use Rattle.commands.specs.Views.{asked_by}
use Rattle.hierarchy_questions.proofs.OwnMethods.{found-there}
use Rattle.inline_questions.specs.Codes.{code_alone, opened_at}
use Rattle.inline_questions.specs.Targets.{finds_users, is_rival}

module _ (s : Slots) (orderly : IsOrderly s) (k : ℕ) (live : IsLive s.class_order k) (c : ℕ) (named : class_name s.classes k ≡ Some c) (meta : Bool) (selector : ℕ) where
  abbrev found : Option (EntryOf ℕ)
  found = lookup (number_words s.names) (number_image s) (Some c) meta selector

  -- it is the method in the slot that is found
  in-slot : found ≡ option_and_then (entry_at s) (found_by_lookup s k meta selector)
  in-slot = ap (λ (o : Option ℕ). lookup (number_words s.names) (number_image s) o meta selector) (sym named) ∙ lookup-live s orderly k meta selector live

  -- what is read of the slot
  read : {R : Type 0} (d : R) (f : EntryOf ℕ → R) → option_map_or (λ j. option_map_or (λ (m : MethodRec). f (entry_of s.classes m)) (live_at s.methods s.method_order j) d) (found_by_lookup s k meta selector) d ≡ option_map_or f found d
  read d f = by (found_by_lookup s k meta selector) refl ∙ ap (λ (o : Option (EntryOf ℕ)). option_map_or f o d) (sym in-slot)
    where
      by : (o : Option ℕ) → found_by_lookup s k meta selector ≡ o
          → option_map_or (λ j. option_map_or (λ (m : MethodRec). f (entry_of s.classes m)) (live_at s.methods s.method_order j) d) o d ≡ option_map_or f (option_and_then (entry_at s) o) d
      by None e = refl
      by (Some j) e =
          let t = found-there s meta selector k j e in
          let there = (live-live_at s.methods s.method_order j t.0 t.1).1 in
          ap (λ (o : Option MethodRec). option_map_or (λ (m : MethodRec). f (entry_of s.classes m)) o d) t.1
          ∙ sym (ap (λ (o : Option MethodRec). option_map_or f (option_map (entry_of s.classes) o) d) there)

  pub users-found : finds_users s k meta selector ≡ option_map_or (λ (m : EntryOf ℕ). not m.kernel) found false
  users-found = read false (λ (m : EntryOf ℕ). not m.kernel)

  -- the method in that slot, which is live
  pub held-found : option_and_then (λ j. option_map (entry_of s.classes) (live_at s.methods s.method_order j)) (found_by_lookup s k meta selector) ≡ found
  held-found = by (found_by_lookup s k meta selector) refl ∙ sym in-slot
    where
      by : (o : Option ℕ) → found_by_lookup s k meta selector ≡ o → option_and_then (λ j. option_map (entry_of s.classes) (live_at s.methods s.method_order j)) o ≡ option_and_then (entry_at s) o
      by None e = refl
      by (Some j) e =
          let t = found-there s meta selector k j e in
          ap (option_map (entry_of s.classes)) (t.1 ∙ sym (live-live_at s.methods s.method_order j t.0 t.1).1)

  pub opened-found : option_and_then (opened_at s) (found_by_lookup s k meta selector) ≡ option_map code_alone found
  opened-found = by (found_by_lookup s k meta selector) refl ∙ ap (option_map code_alone) (sym in-slot)
    where
      by : (o : Option ℕ) → found_by_lookup s k meta selector ≡ o → option_and_then (opened_at s) o ≡ option_map code_alone (option_and_then (entry_at s) o)
      by None e = refl
      by (Some j) e =
          let t = found-there s meta selector k j e in
          let there = (live-live_at s.methods s.method_order j t.0 t.1).1 in
          ap (option_map (λ (m : MethodRec). code_alone (entry_of s.classes m))) t.1
          ∙ sym (ap (λ (o : Option MethodRec). option_map code_alone (option_map (entry_of s.classes) o)) there)

  -- the answer, where classes are asked by their slots
  pub one-told : (r : Bool) → r ≡ list_any (is_live_that (is_rival s (record { class = c; meta = meta; selector = selector })) s) s.class_order
      → (finds_users s k meta selector && not r) ≡ model.is_one_target (asked_by s.names) (number_image s) c meta selector
  one-told r e =
      let rival = is_rival s (record { class = c; meta = meta; selector = selector }) in
      let none : r ≡ list_any rival (number_image s).classes = e ∙ any_live (class_of s.classes) rival s.classes s.class_order in
      λ i. users-found i && not (none i)
