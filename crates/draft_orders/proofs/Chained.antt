-- The classes below a class, by position.
use Rattle.std.proofs.Common.{◌≡◌, ℕ, zero, suc, ◌+◌, ◌<◌, ◌≤◌, Bool, true, false, cond, List, [], ◌∷◌, ◌++◌, length, slice_get, nat_eq, nat_lt, Option, Some, None, refl, sym, ap, ◌∙◌, arith, true≢false}
use Rattle.std.specs.Option.{option_map_or}
use Rattle.std.proofs.lemmas.Bool.{ltb-true, ltb-false, eqb-true}
use Rattle.std.proofs.lemmas.List.{length-append}
use Rattle.std.specs.HashMap.{get}
use Rattle.draft_orders.specs.declared.chains.Chains.{Chains}
use Rattle.draft_orders.specs.Chains.{is_named, is_below, last_before, IsChained, IsLinked}

-- tests that agree before a position have one last position there
pub last_alike : (p q : ℕ → Bool) (b : ℕ) → ((k : ℕ) → k < b → p k ≡ q k) → last_before p b ≡ last_before q b
last_alike p q zero h = refl
last_alike p q (suc b) h = λ i. cond (h b (omega arith) i) (Some b) (last_alike p q b (λ k l. h k (omega arith)) i)

-- no position is past the end
pub past_end : {X : Type 0} (xs : List X) (k : ℕ) → length xs ≤ k → slice_get xs k ≡ None
past_end [] k h = refl
past_end (x ∷ xs) zero h = absurd (omega arith)
past_end (x ∷ xs) (suc k) h = past_end xs k (omega arith)

pub front_same : {X : Type 0} (xs : List X) (x : X) (k : ℕ) → k < length xs → slice_get (xs ++ x ∷ []) k ≡ slice_get xs k
front_same [] x k h = absurd (omega arith)
front_same (y ∷ ys) x zero h = refl
front_same (y ∷ ys) x (suc k) h = front_same ys x k (omega arith)

pub at_end : {X : Type 0} (xs : List X) (x : X) → slice_get (xs ++ x ∷ []) (length xs) ≡ Some x
at_end [] x = refl
at_end (y ∷ ys) x = at_end ys x

-- one superclass more
below_front : (above : List (Option ℕ)) (o : Option ℕ) (n k : ℕ) → k < length above → is_below (above ++ o ∷ []) n k ≡ is_below above n k
below_front above o n k h = ap (λ (s : Option (Option ℕ)). option_map_or (is_named n) s false) (front_same above o k h)

below_end : (above : List (Option ℕ)) (o : Option ℕ) (n : ℕ) → is_below (above ++ o ∷ []) n (length above) ≡ is_named n o
below_end above o n = ap (λ (s : Option (Option ℕ)). option_map_or (is_named n) s false) (at_end above o)

pub below_past : (above : List (Option ℕ)) (n k : ℕ) → length above ≤ k → is_below above n k ≡ false
below_past above n k h = ap (λ (s : Option (Option ℕ)). option_map_or (is_named n) s false) (past_end above k h)

-- one class more
pub chained_more : (old linked new : Chains) (o : Option ℕ) → IsChained old → IsLinked (length old.above.items) o old linked → new.above.items ≡ old.above.items ++ o ∷ [] → new.last ≡ linked.last → new.before.items ≡ linked.before.items → IsChained new
chained_more old linked new o c l above last before = record {
  heads = λ n. ap (λ t. get nat_eq t n) last ∙ l.heads n ∙ ap (λ (r : Option ℕ). cond (is_named n o) (Some size) r) (c.heads n ∙ front n size (omega arith))
      ∙ ap (λ (b : Bool). cond b (Some size) (last_before (is_below new.above.items n) size)) (sym (at_size n)) ∙ ap (last_before (is_below new.above.items n)) (sym longer);
  links = links;
  all = ap length links_are ∙ length-append old.before.items (link ∷ []) ∙ (λ i. c.all i + 1) ∙ sym (length-append old.above.items (o ∷ [])) ∙ ap length (sym above);
}
  where
    size : ℕ
    size = length old.above.items

    link : Option ℕ
    link = option_map_or (λ n. get nat_eq old.last n) o None

    links_are : new.before.items ≡ old.before.items ++ link ∷ []
    links_are = before ∙ l.links

    longer : length new.above.items ≡ suc size
    longer = ap length above ∙ length-append old.above.items (o ∷ []) ∙ omega arith

    at_front : (n k : ℕ) → k < size → is_below new.above.items n k ≡ is_below old.above.items n k
    at_front n k h = ap (λ (a : List (Option ℕ)). is_below a n k) above ∙ below_front old.above.items o n k h

    at_size : (n : ℕ) → is_below new.above.items n size ≡ is_named n o
    at_size n = ap (λ (a : List (Option ℕ)). is_below a n size) above ∙ below_end old.above.items o n

    front : (n b : ℕ) → b ≤ size → last_before (is_below old.above.items n) b ≡ last_before (is_below new.above.items n) b
    front n b h = last_alike (is_below old.above.items n) (is_below new.above.items n) b (λ k l. sym (at_front n k (omega arith)))

    named_link : (p : Option ℕ) (n : ℕ) → is_named n p ≡ true → option_map_or (λ m. get nat_eq old.last m) p None ≡ get nat_eq old.last n
    named_link None n h = absurd (true≢false (sym h))
    named_link (Some m) n h = ap (λ j. get nat_eq old.last j) (eqb-true m n h)

    links : (n k : ℕ) → is_below new.above.items n k ≡ true → slice_get new.before.items k ≡ Some (last_before (is_below new.above.items n) k)
    links n k h = by (nat_lt k size) (nat_lt size k) refl refl
      where
        by : (s t : Bool) → nat_lt k size ≡ s → nat_lt size k ≡ t → slice_get new.before.items k ≡ Some (last_before (is_below new.above.items n) k)
        by true t e f =
            let inside : k < size = ltb-true k size e in
            let within : k < length old.before.items = omega (arith, c.all) in
            ap (λ (r : List (Option ℕ)). slice_get r k) links_are ∙ front_same old.before.items link k within
            ∙ c.links n k (sym (at_front n k inside) ∙ h) ∙ ap Some (front n k (omega arith))
        by false true e f =
            let past : size < k = ltb-true size k f in
            absurd (true≢false (sym h ∙ below_past new.above.items n k (omega (arith, longer))))
        by false false e f =
            let equal : k ≡ size = omega (arith, ltb-false k size e, ltb-false size k f) in
            let named : is_named n o ≡ true = sym (at_size n) ∙ ap (is_below new.above.items n) (sym equal) ∙ h in
            ap (λ (r : List (Option ℕ)). slice_get r k) links_are ∙ ap (slice_get (old.before.items ++ link ∷ [])) (equal ∙ sym c.all) ∙ at_end old.before.items link
            ∙ ap Some (named_link o n named ∙ c.heads n ∙ front n size (omega arith) ∙ ap (last_before (is_below new.above.items n)) (sym equal))

-- what is behind a position that is reached
abbrev pub reach : Option ℕ → ℕ
reach next = option_map_or suc next 0

-- the last position passes, and none between it and the bound does
pub last_is : (p : ℕ → Bool) (b k : ℕ) → last_before p b ≡ Some k → (p k ≡ true) × (k < b)
last_is p zero k e = absurd (none_some k e)
  where
    none_some : (k : ℕ) → None ≡ Some k → ⊥
    none_some k e = cc
last_is p (suc b) k e = by (p b) refl e (last_is p b k)
  where
    same : (j k : ℕ) → Some j ≡ Some k → j ≡ k
    same j k e = cc

    by : (t : Bool) → p b ≡ t → cond t (Some b) (last_before p b) ≡ Some k → (last_before p b ≡ Some k → (p k ≡ true) × (k < b)) → (p k ≡ true) × (k < suc b)
    by true s e more = (ap p (sym (same b k e)) ∙ s, omega (arith, same b k e))
    by false s e more = ((more e).0, omega (arith, (more e).1))

pub none_behind : (p : ℕ → Bool) (b j : ℕ) → reach (last_before p b) ≤ j → j < b → p j ≡ false
none_behind p zero j h l = absurd (omega arith)
none_behind p (suc b) j h l = by (p b) refl h (none_behind p b j)
  where
    by : (t : Bool) → p b ≡ t → reach (cond t (Some b) (last_before p b)) ≤ j → (reach (last_before p b) ≤ j → j < b → p j ≡ false) → p j ≡ false
    by true s h more = absurd (omega arith)
    by false s h more = cases (nat_lt j b) refl
      where
        cases : (t : Bool) → nat_lt j b ≡ t → p j ≡ false
        cases true e = more h (ltb-true j b e)
        cases false e = let equal : j ≡ b = omega (arith, ltb-false j b e) in ap p equal ∙ s

pub reach_same : (p : ℕ → Bool) (b : ℕ) → last_before p (reach (last_before p b)) ≡ last_before p b
reach_same p zero = refl
reach_same p (suc b) = by (p b) refl (reach_same p b)
  where
    by : (t : Bool) → p b ≡ t → last_before p (reach (last_before p b)) ≡ last_before p b → last_before p (reach (cond t (Some b) (last_before p b))) ≡ cond t (Some b) (last_before p b)
    by true s more = ap (λ (t : Bool). cond t (Some b) (last_before p b)) s
    by false s more = more
