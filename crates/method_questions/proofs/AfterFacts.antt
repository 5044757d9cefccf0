-- What classes find once a method has moved, among the slots and in the image.
use Rattle.std.proofs.Common.{◌≡◌, ℕ, zero, suc, Bool, true, false, cond, not, List, ◌∷◌, length, Option, Some, None, is_some, slice_get, refl, sym, ap, subst, ◌∙◌, true≢false}
use Rattle.std.specs.Prelude.{nat_eq}
use Rattle.std.specs.List.{list_any}
use Rattle.std.specs.Option.{option_and_then, option_or}
use Rattle.image_model.specs.Image.{EntryOf}
use Rattle.image_model.specs.ImageNames.{OptionNames}
use Rattle.image_model.specs.Words.{number_words}
use Rattle.image_model.specs.Upwards.{upwards, first_given}
use Rattle.class_table.specs.declared.record.ClassRec.{ClassRec}
use Rattle.class_table.specs.Slots.{Slots}
use Rattle.class_table.specs.View.{number_image}
use Rattle.class_table.specs.Valid.{IsLive, IsOrderly}
use Rattle.class_table.specs.Finding.{only_live, above, on_chain_at, found_by_lookup}
use Rattle.command_model.specs.SameMethods.{is_same_found}
use Rattle.commands.specs.Views.{asked_by}
use Rattle.method_questions.specs.declared.moves.Way.{Way}
use Rattle.method_questions.specs.declared.moves.Way.TheVariants as way
use Rattle.method_questions.specs.declared.moves.Moved.{Moved}
use Rattle.method_questions.specs.declared.moves.After.{After}
use Rattle.method_questions.specs.declared.moves.After.TheVariants as after
use Rattle.method_questions.specs.Found.{opened_at, own_slot, object_slot, are_same}
use Rattle.method_questions.specs.Moves as moves
use Rattle.method_questions.specs.Moves.{own_by, own_after, first_after, found_after, after_entry, finds_another, IsLiveAfter}
use Rattle.method_questions.proofs.OwnMethods.{Holds, looked-up, own-holds, opened-holds}
use Rattle.method_questions.proofs.Inherited.{object-holds}

-- the first of two that are read
pub first-read : {X Y : Type 0} (read : X → Option Y) (a b : Option X) → ((x : X) → a ≡ Some x → is_some (read x) ≡ true) → option_or (option_and_then read a) (option_and_then read b) ≡ option_and_then read (option_or a b)
first-read read None b h = refl
first-read read (Some x) b h = by (read x) (h x refl)
  where
    by : (o : Option _) → is_some o ≡ true → option_or o (option_and_then read b) ≡ o
    by None q = absurd (true≢false (sym q))
    by (Some y) q = refl

module _ (s : Slots) where
  -- a slot of a method that has not moved
  pub there-read : (v : Moved) (o : Option ℕ) → option_and_then (opened_at s) o ≡ option_and_then (after_entry s v) (moves.there o)
  there-read v None = refl
  there-read v (Some y) = refl

  -- what is above a live class is live
  pub above-live : (k : ℕ) → OptionNames (IsLive s.class_order) (above s.classes s.class_order k)
  above-live k = by (slice_get s.classes k)
    where
      only : (j : ℕ) (b : Bool) → list_any (nat_eq j) s.class_order ≡ b → OptionNames (IsLive s.class_order) (cond b (Some j) None)
      only j true q = q
      only j false q = tt

      then : (o : Option ℕ) → OptionNames (IsLive s.class_order) (option_and_then (only_live s.class_order) o)
      then None = tt
      then (Some j) = only j (list_any (nat_eq j) s.class_order) refl

      by : (o : Option ClassRec) → OptionNames (IsLive s.class_order) (option_and_then (λ (c : ClassRec). option_and_then (only_live s.class_order) c.superclass) o)
      by None = tt
      by (Some c) = then c.superclass

  -- one step up from a live class
  step-up : (k : ℕ) → IsLive s.class_order k → on_chain_at s.classes s.class_order k 1 ≡ above s.classes s.class_order k
  step-up k l = ap (λ b. option_and_then (above s.classes s.class_order) (cond b (Some k) None)) l

  pub walk-up : (n : ℕ) (o : Option ℕ) → OptionNames (IsLive s.class_order) o → upwards (λ k. on_chain_at s.classes s.class_order k 1) n o ≡ upwards (above s.classes s.class_order) n o
  walk-up zero o l = refl
  walk-up (suc n) None l = refl
  walk-up (suc n) (Some k) l =
      ap (λ (ks : List ℕ). k ∷ ks) (ap (upwards (λ j. on_chain_at s.classes s.class_order j 1) n) (step-up k l) ∙ walk-up n (above s.classes s.class_order k) (above-live k))

  module _ (orderly : IsOrderly s) (v : Moved) where
    -- what is found afterwards is there
    pub record IsThere (a : After) : Type 0 where
      pub method : is_some (after_entry s v a) ≡ true
      pub live : IsLiveAfter s a

    in-slot : (y : ℕ) → Holds s v.selector y → IsThere (after.There y)
    in-slot y h = record { method = ap is_some (opened-holds s orderly v.method.meta v.selector y h); live = tt }

    as-one-of : (k : ℕ) → IsLive s.class_order k → IsThere (after.Comes k)
    as-one-of k l = record { method = refl; live = l }

    own-kept : (k : ℕ) (o : Option ℕ) → own_slot s k v.method.meta v.selector ≡ o → (a : After) → moves.there o ≡ Some a → IsThere a
    own-kept k None q a e = absurd (cc)
    own-kept k (Some y) q a e = let same : after.There y ≡ a = cc in subst IsThere same (in-slot y (own-holds s orderly v.method.meta v.selector k y q))

    comes : (k : ℕ) → IsLive s.class_order k → (b : Bool) (a : After) → cond b (Some (after.Comes k)) None ≡ Some a → IsThere a
    comes k l true a e = let same : after.Comes k ≡ a = cc in subst IsThere same (as-one-of k l)
    comes k l false a e = absurd (cc)

    either : (k : ℕ) → IsLive s.class_order k → (o : Option After) → ((a : After) → o ≡ Some a → IsThere a) → (b : Bool) (a : After) → option_or o (cond b (Some (after.Comes k)) None) ≡ Some a → IsThere a
    either k l None h b a e = comes k l b a e
    either k l (Some x) h b a e = h a e

    by-way : (k : ℕ) → IsLive s.class_order k → (how : Way) (o : Option After) → ((a : After) → o ≡ Some a → IsThere a) → (a : After) → own_by s v.method.class how k o ≡ Some a → IsThere a
    by-way k l way.New o h a e = either k l o h (nat_eq k v.method.class) a e
    by-way k l (way.Up up first) o h a e = at (nat_eq k up) first (nat_eq k v.method.class) e
      where
        at : (b c d : Bool) → cond b (cond c (Some (after.Comes k)) o) (cond d None o) ≡ Some a → IsThere a
        at true true d q = let same : after.Comes k ≡ a = cc in subst IsThere same (as-one-of k l)
        at true false d q = h a q
        at false c true q = absurd (cc)
        at false c false q = h a q
    by-way k l way.Down o h a e = at (nat_eq k v.method.class) e
      where
        at : (b : Bool) → cond b None (option_or o (cond (moves.is_below s k v.method.class) (Some (after.Comes k)) None)) ≡ Some a → IsThere a
        at true q = absurd (cc)
        at false q = either k l o h (moves.is_below s k v.method.class) a q

    pub own-there : (k : ℕ) → IsLive s.class_order k → (a : After) → own_after s v k ≡ Some a → IsThere a
    unfolding own_after
    own-there k l a e = by-way k l v.way (moves.there (own_slot s k v.method.meta v.selector)) (own-kept k (own_slot s k v.method.meta v.selector) refl) a e

    first-there : (n : ℕ) (o : Option ℕ) → OptionNames (IsLive s.class_order) o → (a : After) → first_given (own_after s v) (upwards (above s.classes s.class_order) n o) ≡ Some a → IsThere a
    first-there zero o l a e = absurd (cc)
    first-there (suc n) None l a e = absurd (cc)
    first-there (suc n) (Some k) l a e = by (own_after s v k) refl e (first-there n (above s.classes s.class_order k) (above-live k) a)
      where
        by : (o : Option After) → own_after s v k ≡ o → option_or o (first_given (own_after s v) (upwards (above s.classes s.class_order) n (above s.classes s.class_order k))) ≡ Some a
            → (first_given (own_after s v) (upwards (above s.classes s.class_order) n (above s.classes s.class_order k)) ≡ Some a → IsThere a) → IsThere a
        by None q h rest = rest h
        by (Some x) q h rest = own-there k l a (q ∙ h)

    pub chain-there : (k : ℕ) → IsLive s.class_order k → (a : After) → first_after s v k ≡ Some a → IsThere a
    chain-there k l a e = first-there (length s.class_order) (Some k) l a (sym (ap (first_given (own_after s v)) (walk-up (length s.class_order) (Some k) l)) ∙ e)

    object-there : (o : Option ℕ) → object_slot s v.selector ≡ o → (a : After) → moves.there o ≡ Some a → IsThere a
    object-there None q a e = absurd (cc)
    object-there (Some y) q a e = let same : after.There y ≡ a = cc in subst IsThere same (in-slot y (object-holds s v.selector y q))

    -- what a live class finds afterwards is there
    pub found-there : (k : ℕ) → IsLive s.class_order k → (a : After) → found_after s v k ≡ Some a → IsThere a
    found-there k l a e = by (first_after s v k) refl e
      where
        second : (b : Bool) → cond b (moves.there (object_slot s v.selector)) None ≡ Some a → IsThere a
        second true q = object-there (object_slot s v.selector) refl a q
        second false q = absurd (cc)

        by : (o : Option After) → first_after s v k ≡ o → option_or o (cond v.method.meta (moves.there (object_slot s v.selector)) None) ≡ Some a → IsThere a
        by None q h = second v.method.meta h
        by (Some x) q h = chain-there k l a (q ∙ h)

    -- what it finds before is there
    pub before-there : (k y : ℕ) → found_by_lookup s k v.method.meta v.selector ≡ Some y → is_some (opened_at s y) ≡ true
    before-there k y e = ap is_some (opened-holds s orderly v.method.meta v.selector y (looked-up s v.selector k v.method.meta y e))

    -- the cases of what is found before and afterwards
    pub none-before : (k : ℕ) → IsLive s.class_order k → found_by_lookup s k v.method.meta v.selector ≡ None → is_some (found_after s v k) ≡ finds_another s v k
    unfolding finds_another
    none-before k l e =
        by (found_after s v k) refl
        ∙ sym (ap (λ o. not (is_same_found (number_words s.names) (asked_by s.names).is_super (number_image s) (number_image s) (option_and_then (opened_at s) o) (option_and_then (after_entry s v) (found_after s v k)))) e)
      where
        some : (o : Option (EntryOf ℕ)) → is_some o ≡ true → true ≡ not (is_same_found (number_words s.names) (asked_by s.names).is_super (number_image s) (number_image s) None o)
        some None q = absurd (true≢false (sym q))
        some (Some m) q = refl

        by : (o : Option After) → found_after s v k ≡ o → is_some o ≡ not (is_same_found (number_words s.names) (asked_by s.names).is_super (number_image s) (number_image s) None (option_and_then (after_entry s v) o))
        by None q = refl
        by (Some a) q = some (after_entry s v a) (found-there k l a q).method

    pub none-after : (k y : ℕ) → found_by_lookup s k v.method.meta v.selector ≡ Some y → found_after s v k ≡ None → true ≡ finds_another s v k
    unfolding finds_another
    none-after k y e q =
        by (opened_at s y) (before-there k y e)
        ∙ sym (λ i. not (is_same_found (number_words s.names) (asked_by s.names).is_super (number_image s) (number_image s) (option_and_then (opened_at s) (e i)) (option_and_then (after_entry s v) (q i))))
      where
        by : (o : Option (EntryOf ℕ)) → is_some o ≡ true → true ≡ not (is_same_found (number_words s.names) (asked_by s.names).is_super (number_image s) (number_image s) o None)
        by None h = absurd (true≢false (sym h))
        by (Some m) h = refl

    pub both-found : (k y : ℕ) (a : After) → IsLive s.class_order k → found_by_lookup s k v.method.meta v.selector ≡ Some y → found_after s v k ≡ Some a → not (are_same s (opened_at s y) (after_entry s v a)) ≡ finds_another s v k
    unfolding finds_another
    both-found k y a l e q =
        ap not (by (opened_at s y) (after_entry s v a) (before-there k y e) (found-there k l a q).method)
        ∙ sym (λ i. not (is_same_found (number_words s.names) (asked_by s.names).is_super (number_image s) (number_image s) (option_and_then (opened_at s) (e i)) (option_and_then (after_entry s v) (q i))))
      where
        by : (o r : Option (EntryOf ℕ)) → is_some o ≡ true → is_some r ≡ true → are_same s o r ≡ is_same_found (number_words s.names) (asked_by s.names).is_super (number_image s) (number_image s) o r
        by None r h j = absurd (true≢false (sym h))
        by (Some m) None h j = absurd (true≢false (sym j))
        by (Some m) (Some n) h j = refl
