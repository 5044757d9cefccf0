-- Whether messages find other methods in an image with other methods of a selector on a side, from what each class itself has.
use Rattle.std.proofs.Common.{◌≡◌, ℕ, zero, suc, Bool, true, false, cond, not, ◌&&◌, ◌||◌, List, length, find, Option, Some, None, option_map, slice_get, refl, sym, ap, ◌∙◌}
use Rattle.std.specs.Prelude.{nat_eq}
use Rattle.std.specs.List.{filter_map, cons_option, list_any}
use Rattle.std.specs.Option.{option_map_or, option_and_then, option_or}
use Rattle.image_model.specs.Image.{ClassOf, EntryOf, ImageOf}
use Rattle.image_model.specs.ImageNames.{OptionNames}
use Rattle.image_model.specs.Words.{number_words}
use Rattle.image_model.specs.Upwards.{upwards, first_given}
use Rattle.image_model.specs.Chain.{chain_from, chain}
use Rattle.image_model.proofs.Lists.{option_map-option_or}
use Rattle.image_model.specs.Lookup.{own_method, as_object, lookup}
use Rattle.class_table.specs.declared.record.ClassRec.{ClassRec}
use Rattle.class_table.specs.Slots.{Slots}
use Rattle.class_table.specs.View.{class_of, class_at, live_at, number_image}
use Rattle.class_table.specs.Valid.{IsLive, IsOrderly}
use Rattle.class_table.specs.Finding.{above, found_by_lookup}
use Rattle.class_table.proofs.Live as live
use Rattle.class_table.proofs.Found.{lookup-live}
use Rattle.name_meanings.proofs.Walks.{chain-classes}
use Rattle.class_questions.proofs.AnyLive.{live-live_at, any-agree, any_live}
use Rattle.command_model.specs.SameMethods.{is_same_found}
use Rattle.command_model.specs.MethodConditions as model
use Rattle.commands.specs.Views.{asked_by}
use Rattle.method_questions.specs.declared.moves.Moved.{Moved}
use Rattle.method_questions.specs.Found.{bare_entry, opened_at, object_slot}
use Rattle.method_questions.specs.Moves.{there, own_after, first_after, found_after, after_entry, finds_another}
use Rattle.method_questions.specs.Unreached.{LeadsTo, is_one_reached, is_unreached}
use Rattle.method_questions.proofs.OwnMethods.{looked-up, own-live}
use Rattle.method_questions.proofs.Inherited.{object-found, object-holds}
use Rattle.method_questions.proofs.AfterFacts.{there-read, first-read, above-live, walk-up, own-there, chain-there}

-- methods in place of those of an image, among which each class has the method that the program tells; on the other side nothing changes
pub record IsMove (s : Slots) (v : Moved) (ms : List (EntryOf ℕ)) : Type 0 where
  pub own : (k : ℕ) (c : ClassRec) → IsLive s.class_order k → slice_get s.classes k ≡ Some c
      → option_map bare_entry (own_method nat_eq ms c.name v.method.meta v.selector) ≡ option_and_then (after_entry s v) (own_after s v k)
  pub other : v.method.meta ≡ true → (n : ℕ) → own_method nat_eq ms n false v.selector ≡ own_method nat_eq (number_image s).methods n false v.selector

module _ (s : Slots) (orderly : IsOrderly s) (v : Moved) (ms : List (EntryOf ℕ)) (move : IsMove s v ms) where
  abbrev image : ImageOf ℕ
  image = number_image s

  -- the image afterwards
  abbrev pub moved : ImageOf ℕ
  moved = record image { methods = ms }

  abbrev gives : ClassOf ℕ → Option (EntryOf ℕ)
  gives d = own_method nat_eq ms d.name v.method.meta v.selector

  -- the first method on the way up
  upwards-told : (n : ℕ) (o : Option ℕ) → OptionNames (IsLive s.class_order) o
      → option_map bare_entry (first_given gives (filter_map (class_at s) (upwards (above s.classes s.class_order) n o))) ≡ option_and_then (after_entry s v) (first_given (own_after s v) (upwards (above s.classes s.class_order) n o))
  upwards-told zero o l = refl
  upwards-told (suc n) None l = refl
  upwards-told (suc n) (Some k) l =
      let c = live.there s.classes k (orderly.class_order.below k l) in
      let rest = filter_map (class_at s) (upwards (above s.classes s.class_order) n (above s.classes s.class_order k)) in
      ap (λ (d : Option (ClassOf ℕ)). option_map bare_entry (first_given gives (cons_option d rest))) (ap (option_map (class_of s.classes)) c.1)
      ∙ option_map-option_or bare_entry (gives (class_of s.classes c.0)) (first_given gives rest)
      ∙ (λ i. option_or (move.own k c.0 l c.1 i) (upwards-told n (above s.classes s.class_order k) (above-live s k) i))
      ∙ first-read (after_entry s v) (own_after s v k) (first_given (own_after s v) (upwards (above s.classes s.class_order) n (above s.classes s.class_order k))) (λ a e. (own-there s orderly v k l a e).method)

  -- what a class understands as an object is the same on the other side
  object-same : v.method.meta ≡ true → as_object (number_words s.names) moved v.selector ≡ as_object (number_words s.names) image v.selector
  object-same e =
      λ i. first_given (λ (d : ClassOf ℕ). move.other e d.name i) (chain_from nat_eq image.classes (find (λ (d : ClassOf ℕ). (number_words s.names).is_class d.name) image.classes))

  object-told : (b : Bool) → v.method.meta ≡ b → option_map bare_entry (cond b (as_object (number_words s.names) moved v.selector) None) ≡ option_and_then (after_entry s v) (cond b (there (object_slot s v.selector)) None)
  object-told false e = refl
  object-told true e =
      ap (option_map bare_entry) (object-same e ∙ object-found s orderly v.selector)
      ∙ sym (own-live s orderly v.method.meta v.selector (object_slot s v.selector) (λ y q. (object-holds s v.selector y q).live))
      ∙ there-read s v (object_slot s v.selector)

  -- what a live class finds afterwards
  found-told : (k : ℕ) (c : ClassRec) → IsLive s.class_order k → slice_get s.classes k ≡ Some c
      → option_map bare_entry (lookup (number_words s.names) moved (Some c.name) v.method.meta v.selector) ≡ option_and_then (after_entry s v) (found_after s v k)
  found-told k c l e =
      option_map-option_or bare_entry (first_given gives (chain nat_eq image.classes (Some c.name))) (cond v.method.meta (as_object (number_words s.names) moved v.selector) None)
      ∙ (λ i. option_or (on-chain i) (object-told v.method.meta refl i))
      ∙ first-read (after_entry s v) (first_after s v k) (cond v.method.meta (there (object_slot s v.selector)) None) (λ a q. (chain-there s orderly v k l a q).method)
    where
      on-chain : option_map bare_entry (first_given gives (chain nat_eq image.classes (Some c.name))) ≡ option_and_then (after_entry s v) (first_after s v k)
      on-chain =
          ap (λ (o : Option ℕ). option_map bare_entry (first_given gives (chain nat_eq image.classes o))) (sym (ap (option_map (λ (x : ClassRec). x.name)) e))
          ∙ ap (λ (ds : List (ClassOf ℕ)). option_map bare_entry (first_given gives ds)) (chain-classes s orderly k l)
          ∙ upwards-told (length s.class_order) (Some k) l
          ∙ sym (ap (λ (ks : List ℕ). option_and_then (after_entry s v) (first_given (own_after s v) ks)) (walk-up s (length s.class_order) (Some k) l))

  -- what it finds before
  found-before : (k : ℕ) (c : ClassRec) → IsLive s.class_order k → slice_get s.classes k ≡ Some c
      → option_map bare_entry (lookup (number_words s.names) image (Some c.name) v.method.meta v.selector) ≡ option_and_then (opened_at s) (found_by_lookup s k v.method.meta v.selector)
  found-before k c l e =
      ap (λ (o : Option ℕ). option_map bare_entry (lookup (number_words s.names) image o v.method.meta v.selector)) (sym (ap (option_map (λ (x : ClassRec). x.name)) e))
      ∙ ap (option_map bare_entry) (lookup-live s orderly k v.method.meta v.selector l)
      ∙ sym (own-live s orderly v.method.meta v.selector (found_by_lookup s k v.method.meta v.selector) (λ y q. (looked-up s v.selector k v.method.meta y q).live))

  -- what is no code does not count
  bared : (o r : Option (EntryOf ℕ)) → is_same_found (number_words s.names) (asked_by s.names).is_super image moved o r
      ≡ is_same_found (number_words s.names) (asked_by s.names).is_super image image (option_map bare_entry o) (option_map bare_entry r)
  bared None None = refl
  bared None (Some n) = refl
  bared (Some m) None = refl
  bared (Some m) (Some n) = refl

  -- whether it finds another
  another-told : (k : ℕ) (c : ClassRec) → IsLive s.class_order k → slice_get s.classes k ≡ Some c
      → finds_another s v k ≡ model.finds_another (number_words s.names) (asked_by s.names).is_super image moved c.name v.method.meta v.selector
  unfolding finds_another
  another-told k c l e =
      sym (ap not (bared (lookup (number_words s.names) image (Some c.name) v.method.meta v.selector) (lookup (number_words s.names) moved (Some c.name) v.method.meta v.selector)
      ∙ (λ i. is_same_found (number_words s.names) (asked_by s.names).is_super image image (found-before k c l e i) (found-told k c l e i))))

  -- so the move leads to the image afterwards
  pub leads : LeadsTo s v moved v.method.meta v.selector
  leads = record { same_selector = refl; classes = another-told }

-- a move that leads to an image
module _ (s : Slots) (v : Moved) (j : ImageOf ℕ) (meta : Bool) (selector : ℕ) (to : LeadsTo s v j meta selector) where
  -- whether a class is reached that finds another method in the image
  abbrev test : ClassOf ℕ → Bool
  test d = model.finds_another (number_words s.names) (asked_by s.names).is_super (number_image s) j d.name meta selector && model.is_reached (number_words s.names) (asked_by s.names).is_super (number_image s) d.name selector

  -- the same of a live class
  pub one-reached : (k : ℕ) (c : ClassRec) → live_at s.classes s.class_order k ≡ Some c → is_one_reached s v k ≡ test (class_of s.classes c)
  unfolding is_one_reached
  one-reached k c e =
      ap (λ (o : Option ClassRec). option_map_or (λ (x : ClassRec). finds_another s v k && model.is_reached (number_words s.names) (asked_by s.names).is_super (number_image s) x.name v.selector) o false) e
      ∙ (λ i. to.classes k c (live-live_at s.classes s.class_order k c e).0 (live-live_at s.classes s.class_order k c e).1 i && model.is_reached (number_words s.names) (asked_by s.names).is_super (number_image s) c.name (to.same_selector i))

  one-told : (k : ℕ) → is_one_reached s v k ≡ option_map_or (λ (c : ClassRec). test (class_of s.classes c)) (live_at s.classes s.class_order k) false
  unfolding is_one_reached
  one-told k = by (live_at s.classes s.class_order k) refl
    where
      by : (o : Option ClassRec) → live_at s.classes s.class_order k ≡ o
          → option_map_or (λ (c : ClassRec). finds_another s v k && model.is_reached (number_words s.names) (asked_by s.names).is_super (number_image s) c.name v.selector) o false ≡ option_map_or (λ (c : ClassRec). test (class_of s.classes c)) o false
      by None q = refl
      by (Some c) q =
          λ i. to.classes k c (live-live_at s.classes s.class_order k c q).0 (live-live_at s.classes s.class_order k c q).1 i && model.is_reached (number_words s.names) (asked_by s.names).is_super (number_image s) c.name (to.same_selector i)

  -- whether messages find other methods
  pub unreached-told : is_unreached s v ≡ model.is_unreached (number_words s.names) (asked_by s.names).is_super (number_image s) j meta selector
  unreached-told =
      (λ i. model.is_sent_nowhere (number_words s.names) (number_image s) (to.same_selector i) || not (list_any (is_one_reached s v) s.class_order))
      ∙ ap (λ (b : Bool). model.is_sent_nowhere (number_words s.names) (number_image s) selector || not b)
      (any-agree (is_one_reached s v) (λ k. option_map_or (λ (c : ClassRec). test (class_of s.classes c)) (live_at s.classes s.class_order k) false) s.class_order (λ k l. one-told k)
      ∙ any_live (class_of s.classes) test s.classes s.class_order)
