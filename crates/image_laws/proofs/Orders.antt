-- Orders of slots in which one is moved, put in or taken out, and then the change is taken back.
use Rattle.std.proofs.Common.{◌≡◌, ℕ, zero, suc, ◌+◌, ◌<◌, ◌≤◌, ◌⊎◌, inl, inr, Bool, true, false, cond, ◌||◌, List, [], ◌∷◌, length, position, Option, None, Some, slice_get, refl, sym, ap, subst, ◌∙◌, arith, true≢false}
use Rattle.std.specs.Prelude.{insert}
use Rattle.std.specs.List.{list_any, position_or_len, remove}
use Rattle.std.specs.Option.{ForSome}
use Rattle.std.proofs.Math.Dec.{eqb}
use Rattle.std.proofs.lemmas.Bool.{lt-ltb}
use Rattle.std.proofs.lemmas.List.Edits.{length-insert, length-remove}
use Rattle.std.proofs.lemmas.List.Quantifiers.{position-Some}
use Rattle.std.proofs.lemmas.Option.{slice_get-get_or}
use Rattle.class_table.specs.declared.record.Slot.{Slot}
use Rattle.class_table.specs.declared.record.Slot.TheVariants as slot
use Rattle.class_table.specs.Slots.{Slots}
use Rattle.class_table.specs.Changing.{HasSlot, HasRoomAt, former_place, with_live}
use Rattle.class_table.specs.Order.{without, put_at, Distinct, IsOrderOf}
use Rattle.class_table.proofs.OrderLemmas.{position-none, position-some, any-without, any-insert, Distinct-without, Distinct-insert, gone-without}
use Rattle.class_table.proofs.Live.{or_true, eqb-refl, eqb-equal, IsLive-rest}
use Rattle.image_laws.specs.Orders.{HasOrders}
use Rattle.image_laws.proofs.Lists.{insert-remove}

-- both tests fail where one of them would pass
pub or_false : (b c : Bool) → (b || c) ≡ false → (b ≡ false) × (c ≡ false)
or_false true c h = absurd (true≢false h)
or_false false c h = (refl, h)

-- what stands at a place of an order is live
pub stands-live : (k : ℕ) (order : List ℕ) (p : ℕ) → slice_get order p ≡ Some k → list_any (eqb k) order ≡ true
stands-live k [] p e = absurd (cc)
stands-live k (j ∷ js) zero e = let same : j ≡ k = cc in ap (λ b. b || list_any (eqb k) js) (ap (eqb k) same ∙ eqb-refl k)
stands-live k (j ∷ js) (suc p) e = IsLive-rest k j js (stands-live k js p e)

module _ (k : ℕ) where
  -- a list in which k does not stand
  pub absent-without : (xs : List ℕ) → list_any (eqb k) xs ≡ false → without k xs ≡ xs
  absent-without [] h = refl
  absent-without (x ∷ xs) h =
      let both = or_false (eqb k x) (list_any (eqb k) xs) h in
      rw both.0 (ap (λ (ys : List ℕ). x ∷ ys) (absent-without xs both.1))

  -- k is put in and taken out again
  without-insert : (xs : List ℕ) (p : ℕ) → list_any (eqb k) xs ≡ false → without k (insert xs p k) ≡ xs
  without-insert [] zero h = rw (eqb-refl k) refl
  without-insert [] (suc p) h = rw (eqb-refl k) refl
  without-insert (x ∷ xs) zero h = rw (eqb-refl k) refl
  without-insert (x ∷ xs) (suc p) h =
      let both = or_false (eqb k x) (list_any (eqb k) xs) h in
      rw both.0 (ap (λ (ys : List ℕ). x ∷ ys) (without-insert xs p both.1))

  -- k stands at its place
  pub position-get : (xs : List ℕ) (p : ℕ) → position (eqb k) xs ≡ Some p → slice_get xs p ≡ Some k
  position-get xs p e =
      let found = position-Some (eqb k) xs p 0 e in
      slice_get-get_or xs p 0 found.0 ∙ ap Some (sym (eqb-equal k _ found.1))

  -- k does not stand where it has no place
  pub position-dead : (xs : List ℕ) → position (eqb k) xs ≡ None → list_any (eqb k) xs ≡ false
  position-dead xs e = by (list_any (eqb k) xs) refl
    where
      found : (ys : List ℕ) → list_any (eqb k) ys ≡ true → position_or_len (eqb k) ys < length ys
      found [] h = absurd (true≢false (sym h))
      found (y ∷ ys) h = at (eqb k y) refl (found ys)
        where
          at : (b : Bool) → eqb k y ≡ b → (list_any (eqb k) ys ≡ true → position_or_len (eqb k) ys < length ys) → position_or_len (eqb k) (y ∷ ys) < length (y ∷ ys)
          at true q rest = rw q (omega arith)
          at false q rest = rw q (omega (arith, rest (rw q at h)))

      by : (b : Bool) → list_any (eqb k) xs ≡ b → list_any (eqb k) xs ≡ false
      by false h = h
      by true h =
          let bad : None ≡ Some (position_or_len (eqb k) xs) = sym e ∙ ap (λ b. cond b (Some (position_or_len (eqb k) xs)) None) (lt-ltb _ _ (found xs h)) in
          absurd (cc)

  -- k has no place where it does not stand
  position-absent : (xs : List ℕ) → list_any (eqb k) xs ≡ false → position (eqb k) xs ≡ None
  position-absent xs h = by (position (eqb k) xs) refl
    where
      by : (o : Option ℕ) → position (eqb k) xs ≡ o → position (eqb k) xs ≡ None
      by None e = e
      by (Some i) e = absurd (true≢false (sym (position-some k xs i (sym e)).2 ∙ h))

  first-insert : (xs : List ℕ) (p : ℕ) → list_any (eqb k) xs ≡ false → p ≤ length xs → position_or_len (eqb k) (insert xs p k) ≡ p
  first-insert [] zero h less = rw (eqb-refl k) refl
  first-insert [] (suc p) h less = absurd (omega arith)
  first-insert (x ∷ xs) zero h less = rw (eqb-refl k) refl
  first-insert (x ∷ xs) (suc p) h less =
      let both = or_false (eqb k x) (list_any (eqb k) xs) h in
      let rest : position_or_len (eqb k) (insert xs p k) ≡ p = first-insert xs p both.1 (omega arith) in
      let up : 1 + position_or_len (eqb k) (insert xs p k) ≡ suc p = omega arith in
      rw both.0 up

  -- the place at which k is put in is its place
  position-insert : (xs : List ℕ) (p : ℕ) → list_any (eqb k) xs ≡ false → p ≤ length xs → position (eqb k) (insert xs p k) ≡ Some p
  position-insert xs p h less =
      let first : position_or_len (eqb k) (insert xs p k) ≡ p = first-insert xs p h less in
      let more : length (insert xs p k) ≡ length xs + 1 = length-insert xs p k less in
      ap (λ b. cond b (Some (position_or_len (eqb k) (insert xs p k))) None) (lt-ltb _ _ (omega arith)) ∙ ap Some first

  module _ (order : List ℕ) (distinct : Distinct order) where
    -- the order without k is the same wherever k was put
    pub without-put_at : (place : Option ℕ) → without k (put_at k place (without k order)) ≡ without k order
    without-put_at None = absent-without (without k order) (gone-without k order distinct)
    without-put_at (Some p) = without-insert (without k order) p (gone-without k order distinct)

    -- k is put back to its place
    pub put_at-position : put_at k (position (eqb k) order) (without k order) ≡ order
    put_at-position = by (position (eqb k) order) refl
      where
        by : (o : Option ℕ) → position (eqb k) order ≡ o → put_at k o (without k order) ≡ order
        by None e = position-none k order (sym e)
        by (Some i) e = ap (λ (ys : List ℕ). insert ys i k) (sym (position-some k order i (sym e)).1) ∙ insert-remove order i k (position-get order i e)

    -- a move and the move back
    pub order-back : (place : Option ℕ) → put_at k (position (eqb k) order) (without k (put_at k place (without k order))) ≡ order
    order-back place = ap (put_at k (position (eqb k) order)) (without-put_at place) ∙ put_at-position

    -- the former place may be given to the move back
    pub room-back : (place : Option ℕ) → ForSome (position (eqb k) order) (λ n. n ≤ length (without k (put_at k place (without k order))))
    room-back place = λ i e.
        let found = position-some k order i (sym e) in
        let within : i < length order = found.0 in
        let less : length (remove order i) + 1 ≡ length order = length-remove order i within in
        let same : length (without k (put_at k place (without k order))) ≡ length (remove order i) = ap length (without-put_at place ∙ sym found.1) in
        omega arith

    -- k is moved to the place that is given
    pub position-moved : (place : Option ℕ) → ForSome place (λ n. n ≤ length (without k order)) → position (eqb k) (put_at k place (without k order)) ≡ place
    position-moved None h = position-absent (without k order) (gone-without k order distinct)
    position-moved (Some p) h = position-insert (without k order) p (gone-without k order distinct) (h p refl)

  -- what stood in an order from which k was taken out
  pub still : (j : ℕ) (order : List ℕ) → Distinct order → list_any (eqb j) (without k order) ≡ true → list_any (eqb j) order ≡ true
  still j order d l = by (eqb j k) (sym (any-without k j order d) ∙ l)
    where
      by : (b : Bool) → cond b false (list_any (eqb j) order) ≡ true → list_any (eqb j) order ≡ true
      by true e = absurd (true≢false (sym e))
      by false e = e

  -- an order in which k is moved
  pub IsOrderOf-moved : (order : List ℕ) (slots : ℕ) → k < slots → (place : Option ℕ) → IsOrderOf (record { items = order; slots = slots }) → IsOrderOf (record { items = put_at k place (without k order); slots = slots })
  IsOrderOf-moved order slots less None o = record { distinct = Distinct-without k order o.distinct; below = λ j l. o.below j (still j order o.distinct l) }
  IsOrderOf-moved order slots less (Some p) o = record {
    distinct = Distinct-insert k (without k order) p (gone-without k order o.distinct) (Distinct-without k order o.distinct);
    below = λ j l. within j (or_true (eqb j k) (list_any (eqb j) (without k order)) (sym (any-insert k (eqb j) (without k order) p) ∙ l));
  }
    where
      within : (j : ℕ) → (eqb j k ≡ true) ⊎ (list_any (eqb j) (without k order) ≡ true) → j < slots
      within j (inl e) = subst (λ (n : ℕ). n < slots) (sym (eqb-equal j k e)) less
      within j (inr e) = o.below j (still j order o.distinct e)

module _ (s : Slots) (orders : HasOrders s) where
  -- a slot that is moved, and moved back
  pub live-back : (what : Slot) (place : Option ℕ) → with_live (with_live s what place) what (former_place s what) ≡ s
  live-back (slot.Class k) place = ap (λ (xs : List ℕ). record s { class_order = xs }) (order-back k s.class_order orders.classes.distinct place)
  live-back (slot.Method k) place = ap (λ (xs : List ℕ). record s { method_order = xs }) (order-back k s.method_order orders.methods.distinct place)

  pub live-room : (what : Slot) (place : Option ℕ) → HasRoomAt (with_live s what place) what (former_place s what)
  live-room (slot.Class k) place = room-back k s.class_order orders.classes.distinct place
  live-room (slot.Method k) place = room-back k s.method_order orders.methods.distinct place

  pub live-place : (what : Slot) (place : Option ℕ) → HasRoomAt s what place → former_place (with_live s what place) what ≡ place
  live-place (slot.Class k) place h = position-moved k s.class_order orders.classes.distinct place h
  live-place (slot.Method k) place h = position-moved k s.method_order orders.methods.distinct place h

  pub live-orders : (what : Slot) (place : Option ℕ) → HasSlot s what → HasOrders (with_live s what place)
  live-orders (slot.Class k) place h = record { classes = IsOrderOf-moved k s.class_order (length s.classes) h place orders.classes; methods = orders.methods }
  live-orders (slot.Method k) place h = record { classes = orders.classes; methods = IsOrderOf-moved k s.method_order (length s.methods) h place orders.methods }
