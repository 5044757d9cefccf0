-- Where neither a class nor any above it gets or loses the method that moves, the class finds what it found.
use Rattle.std.proofs.Common.{◌≡◌, ℕ, zero, suc, Bool, true, false, cond, not, ◌&&◌, ◌||◌, List, [], ◌∷◌, length, Option, Some, None, is_some, option_map, slice_get, refl, sym, ap, subst, ◌∙◌, true≢false}
use Rattle.std.specs.Prelude.{nat_eq}
use Rattle.std.specs.Bool.{beq}
use Rattle.std.specs.List.{list_any, filter_map, cons_option}
use Rattle.std.specs.Option.{option_map_or, option_and_then, option_or}
use Rattle.std.proofs.Math.Bool.{and-true, and-false}
use Rattle.std.proofs.lemmas.Bool.{and_parts, and_from}
use Rattle.image_model.specs.Image.{EntryOf}
use Rattle.image_model.specs.ImageNames.{OptionNames}
use Rattle.image_model.specs.Words.{number_words}
use Rattle.image_model.specs.Upwards.{upwards, first_given}
use Rattle.image_model.proofs.Lists.{option_map-option_or}
use Rattle.class_table.specs.declared.record.ClassRec.{ClassRec}
use Rattle.class_table.specs.declared.record.MethodRec.{MethodRec}
use Rattle.class_table.specs.declared.record.Place.{Place}
use Rattle.class_table.specs.declared.record.Place.TheVariants as place
use Rattle.class_table.specs.Slots.{Slots}
use Rattle.class_table.specs.View.{live_at, number_image}
use Rattle.class_table.specs.Valid.{IsLive, IsOrderly}
use Rattle.class_table.specs.Finding.{above, same_key, is_method_in, method_in, found_on_chain, class_class, found_as_object, found_by_lookup}
use Rattle.class_table.proofs.Live.{eqb-refl, eqb-equal}
use Rattle.class_questions.proofs.AnyLive.{live-live_at}
use Rattle.command_model.specs.SameMethods.{is_same_found}
use Rattle.command_model.specs.MethodConditions.{is_reached}
use Rattle.commands.specs.Views.{asked_by}
use Rattle.method_questions.specs.declared.moves.Way.{Way}
use Rattle.method_questions.specs.declared.moves.Way.TheVariants as way
use Rattle.method_questions.specs.declared.moves.Moved.{Moved}
use Rattle.method_questions.specs.declared.moves.After.{After}
use Rattle.method_questions.specs.declared.moves.After.TheVariants as after
use Rattle.method_questions.specs.Found.{opened_at, own_slot, object_slot}
use Rattle.method_questions.specs.Moves as moves
use Rattle.method_questions.specs.Moves.{is_below, is_changed_by, is_changed, is_concerned, owner_at, AreOwners, covered_in, is_covered, own_by, own_after, first_after, found_after, after_entry, finds_another}
use Rattle.method_questions.specs.Unreached.{is_one_reached}
use Rattle.method_questions.proofs.OwnMethods.{sides-equal, sides-same, find-none, key, own-keyed}
use Rattle.method_questions.proofs.Inherited.{or-none, class-live}
use Rattle.method_questions.proofs.AfterFacts.{there-read, above-live, walk-up}
use Rattle.method_questions.proofs.Selves.{same-self}

module _ (s : Slots) (orderly : IsOrderly s) (v : Moved) where
  -- the method of a class
  abbrev own : ℕ → Option ℕ
  own k = method_in s.methods s.method_order (key k v.method.meta v.selector)

  -- what a class has that neither gets nor loses the method
  kept-by : (how : Way) (k : ℕ) (o : Option After) → is_changed_by s v.method.class how k ≡ false → own_by s v.method.class how k o ≡ o
  kept-by way.New k o e = ap (λ (b : Bool). option_or o (cond b (Some (after.Comes k)) None)) e ∙ or-none o
  kept-by (way.Up up first) k o e = by (nat_eq k v.method.class) (nat_eq k up) e
    where
      by : (b c : Bool) → (b || c) ≡ false → cond c (cond first (Some (after.Comes k)) o) (cond b None o) ≡ o
      by true c q = absurd (true≢false q)
      by false true q = absurd (true≢false q)
      by false false q = refl
  kept-by way.Down k o e = by (nat_eq k v.method.class) (is_below s k v.method.class) e
    where
      by : (b c : Bool) → (b || c) ≡ false → cond b None (option_or o (cond c (Some (after.Comes k)) None)) ≡ o
      by true c q = absurd (true≢false q)
      by false true q = absurd (true≢false q)
      by false false q = or-none o

  own-kept : (k : ℕ) → IsLive s.class_order k → is_changed s v k ≡ false → own_after s v k ≡ moves.there (own k)
  unfolding own_after is_changed
  own-kept k l e = kept-by v.way k (moves.there (own_slot s k v.method.meta v.selector)) e ∙ ap moves.there (own-keyed s v.selector k v.method.meta l)

  -- the classes above a class
  abbrev way-up : ℕ → ℕ → List ℕ
  way-up n k = upwards (above s.classes s.class_order) n (above s.classes s.class_order k)

  -- the first method on the way up
  upwards-kept : (n : ℕ) (o : Option ℕ) → OptionNames (IsLive s.class_order) o → list_any (is_changed s v) (upwards (above s.classes s.class_order) n o) ≡ false
      → first_given (own_after s v) (upwards (above s.classes s.class_order) n o) ≡ moves.there (first_given own (upwards (above s.classes s.class_order) n o))
  upwards-kept zero o l e = refl
  upwards-kept (suc n) None l e = refl
  upwards-kept (suc n) (Some k) l e = by (is_changed s v k) refl e (upwards-kept n (above s.classes s.class_order k) (above-live s k))
    where
      by : (b : Bool) → is_changed s v k ≡ b → (b || list_any (is_changed s v) (way-up n k)) ≡ false
          → (list_any (is_changed s v) (way-up n k) ≡ false → first_given (own_after s v) (way-up n k) ≡ moves.there (first_given own (way-up n k)))
          → option_or (own_after s v k) (first_given (own_after s v) (way-up n k)) ≡ moves.there (option_or (own k) (first_given own (way-up n k)))
      by true q r more = absurd (true≢false r)
      by false q r more = (λ i. option_or (own-kept k l q i) (more r i)) ∙ sym (option_map-option_or (λ y. after.There y) (own k) (first_given own (way-up n k)))

  -- the same where one of the owners comes before each class that may have another method
  covered-upwards : (owners : List ℕ) → AreOwners s v owners → (n : ℕ) (o : Option ℕ) → OptionNames (IsLive s.class_order) o → covered_in s v owners (upwards (above s.classes s.class_order) n o) ≡ true
      → first_given (own_after s v) (upwards (above s.classes s.class_order) n o) ≡ moves.there (first_given own (upwards (above s.classes s.class_order) n o))
  covered-upwards owners known zero o l e = absurd (true≢false (sym e))
  covered-upwards owners known (suc n) None l e = absurd (true≢false (sym e))
  covered-upwards owners known (suc n) (Some k) l e = by (is_changed s v k) refl (list_any (nat_eq k) owners) refl e (covered-upwards owners known n (above s.classes s.class_order k) (above-live s k))
    where
      some : (o : Option ℕ) (a : Option After) (b : Option ℕ) → is_some o ≡ true → option_or (moves.there o) a ≡ moves.there (option_or o b)
      some None a b q = absurd (true≢false (sym q))
      some (Some y) a b q = refl

      by : (b : Bool) → is_changed s v k ≡ b → (a : Bool) → list_any (nat_eq k) owners ≡ a → (not b && (a || covered_in s v owners (way-up n k))) ≡ true
          → (covered_in s v owners (way-up n k) ≡ true → first_given (own_after s v) (way-up n k) ≡ moves.there (first_given own (way-up n k)))
          → option_or (own_after s v k) (first_given (own_after s v) (way-up n k)) ≡ moves.there (option_or (own k) (first_given own (way-up n k)))
      by true q a p r more = absurd (true≢false (sym r))
      by false q true p r more =
          ap (λ (o : Option After). option_or o (first_given (own_after s v) (way-up n k))) (own-kept k l q)
          ∙ some (own k) (first_given (own_after s v) (way-up n k)) (first_given own (way-up n k)) (sym (ap is_some (own-keyed s v.selector k v.method.meta l)) ∙ known k p)
      by false q false p r more = (λ i. option_or (own-kept k l q i) (more r i)) ∙ sym (option_map-option_or (λ y. after.There y) (own k) (first_given own (way-up n k)))

  -- the first method on the chain of a class is the same
  abbrev Keeps : ℕ → Type 0
  Keeps k =
      first_given (own_after s v) (upwards (above s.classes s.class_order) (length s.class_order) (Some k)) ≡ moves.there (first_given own (upwards (above s.classes s.class_order) (length s.class_order) (Some k)))

  keeps-apart : (k : ℕ) → IsLive s.class_order k → is_concerned s v k ≡ false → Keeps k
  keeps-apart k l e = upwards-kept (length s.class_order) (Some k) l (sym (ap (list_any (is_changed s v)) (walk-up s (length s.class_order) (Some k) l)) ∙ e)

  keeps-covered : (owners : List ℕ) → AreOwners s v owners → (k : ℕ) → IsLive s.class_order k → is_covered s v owners k ≡ true → Keeps k
  keeps-covered owners known k l e = covered-upwards owners known (length s.class_order) (Some k) l (sym (ap (covered_in s v owners) (walk-up s (length s.class_order) (Some k) l)) ∙ e)

  -- what a class understands as an object
  object-same : object_slot s v.selector ≡ found_as_object s v.selector
  object-same = by (class_class s) refl
    where
      by : (o : Option ℕ) → class_class s ≡ o → option_and_then (λ class. found_by_lookup s class false v.selector) o ≡ option_and_then (λ c. found_on_chain s c false v.selector) o
      by None e = refl
      by (Some k) e =
          ap (λ b. option_and_then (λ c. option_or (found_on_chain s c false v.selector) None) (cond b (Some k) None)) (class-live s orderly k e)
          ∙ or-none (found_on_chain s k false v.selector)

  -- what a class finds
  found-kept : (k : ℕ) → IsLive s.class_order k → Keeps k → found_after s v k ≡ moves.there (found_by_lookup s k v.method.meta v.selector)
  found-kept k l e =
      (λ i. option_or (on-chain i) (second v.method.meta i))
      ∙ sym (option_map-option_or (λ y. after.There y) (found_on_chain s k v.method.meta v.selector) (cond v.method.meta (found_as_object s v.selector) None))
      ∙ sym (ap (λ b. moves.there (option_and_then (λ c. option_or (found_on_chain s c v.method.meta v.selector) (cond v.method.meta (found_as_object s v.selector) None)) (cond b (Some k) None))) l)
    where
      on-chain : first_after s v k ≡ moves.there (found_on_chain s k v.method.meta v.selector)
      on-chain =
          ap (first_given (own_after s v)) (walk-up s (length s.class_order) (Some k) l)
          ∙ e
          ∙ sym (ap (λ b. moves.there (first_given own (upwards (above s.classes s.class_order) (length s.class_order) (cond b (Some k) None)))) l)

      second : (b : Bool) → cond b (moves.there (object_slot s v.selector)) None ≡ moves.there (cond b (found_as_object s v.selector) None)
      second true = ap moves.there object-same
      second false = refl

  -- what is found is the same as itself
  found-self : (o : Option (EntryOf ℕ)) → is_same_found (number_words s.names) (asked_by s.names).is_super (number_image s) (number_image s) o o ≡ true
  found-self None = refl
  found-self (Some m) = same-self s (Some m) refl

  another-kept : (k : ℕ) → IsLive s.class_order k → Keeps k → finds_another s v k ≡ false
  unfolding finds_another
  another-kept k l e =
      ap not
      (ap (is_same_found (number_words s.names) (asked_by s.names).is_super (number_image s) (number_image s) (option_and_then (opened_at s) (found_by_lookup s k v.method.meta v.selector)))
      (ap (option_and_then (after_entry s v)) (found-kept k l e) ∙ sym (there-read s v (found_by_lookup s k v.method.meta v.selector)))
      ∙ found-self (option_and_then (opened_at s) (found_by_lookup s k v.method.meta v.selector)))

  -- so such a class is not asked whether it is reached
  one-kept : (k : ℕ) (c : ClassRec) → live_at s.classes s.class_order k ≡ Some c → Keeps k → false ≡ is_one_reached s v k
  unfolding is_one_reached
  one-kept k c at e =
      sym (ap (λ (o : Option ClassRec). option_map_or (λ (d : ClassRec). finds_another s v k && is_reached (number_words s.names) (asked_by s.names).is_super (number_image s) d.name v.selector) o false) at
      ∙ ap (λ (b : Bool). b && is_reached (number_words s.names) (asked_by s.names).is_super (number_image s) c.name v.selector) (another-kept k (live-live_at s.classes s.class_order k c at).0 e))

  pub one-apart : (k : ℕ) (c : ClassRec) (b : Bool) → Some c ≡ live_at s.classes s.class_order k → b ≡ is_concerned s v k → b ≡ false → false ≡ is_one_reached s v k
  one-apart k c b at told e = one-kept k c (sym at) (keeps-apart k (live-live_at s.classes s.class_order k c (sym at)).0 (sym told ∙ e))

  pub one-covered : (owners : List ℕ) → AreOwners s v owners → (k : ℕ) (c : ClassRec) (b : Bool) → Some c ≡ live_at s.classes s.class_order k → b ≡ is_covered s v owners k → b ≡ true → false ≡ is_one_reached s v k
  one-covered owners known k c b at told e = one-kept k c (sym at) (keeps-covered owners known k (live-live_at s.classes s.class_order k c (sym at)).0 (sym told ∙ e))

  -- nor is one asked what it finds that is not reached
  pub none-reaches : (k : ℕ) (c : ClassRec) (b : Bool) → Some c ≡ live_at s.classes s.class_order k → b ≡ is_reached (number_words s.names) (asked_by s.names).is_super (number_image s) c.name v.selector → b ≡ false → false ≡ is_one_reached s v k
  unfolding is_one_reached
  none-reaches k c b at told e =
      sym (ap (λ (o : Option ClassRec). option_map_or (λ (d : ClassRec). finds_another s v k && is_reached (number_words s.names) (asked_by s.names).is_super (number_image s) d.name v.selector) o false) (sym at)
      ∙ ap (λ (x : Bool). finds_another s v k && x) (sym told ∙ e) ∙ and-false (finds_another s v k))

  -- what one finds that is
  pub finds-reached : (k : ℕ) (c : ClassRec) (b : Bool) → Some c ≡ live_at s.classes s.class_order k → b ≡ is_reached (number_words s.names) (asked_by s.names).is_super (number_image s) c.name v.selector → b ≡ true → finds_another s v k ≡ is_one_reached s v k
  unfolding is_one_reached
  finds-reached k c b at told e =
      sym (ap (λ (o : Option ClassRec). option_map_or (λ (d : ClassRec). finds_another s v k && is_reached (number_words s.names) (asked_by s.names).is_super (number_image s) d.name v.selector) o false) (sym at)
      ∙ ap (λ (x : Bool). finds_another s v k && x) (sym told ∙ e) ∙ and-true (finds_another s v k))

  -- the class of a method for the selector on the side has one
  owner-own : (p : Place) (k : ℕ) → owner_at s v.method.meta v.selector p ≡ Some k → is_some (own_slot s k v.method.meta v.selector) ≡ true
  owner-own (place.DoIt n) k e = absurd (cc)
  owner-own (place.Method j) k e = by (live_at s.methods s.method_order j) refl e
    where
      found : (m : MethodRec) → IsLive s.method_order j → slice_get s.methods j ≡ Some m → m.meta ≡ v.method.meta → m.tree.selector ≡ v.selector → is_method_in s.methods (key m.class v.method.meta v.selector) j ≡ true
      found m l q side name =
          ap (λ (o : Option MethodRec). option_map_or (same_key (key m.class v.method.meta v.selector)) (option_map (λ (x : MethodRec). key x.class x.meta x.tree.selector) o) false) q
          ∙ and_from _ _ (eqb-refl m.class) (and_from _ _ (ap (beq v.method.meta) side ∙ sides-same v.method.meta) (ap (nat_eq v.selector) name ∙ eqb-refl v.selector))

      some : (m : MethodRec) → IsLive s.method_order j → is_method_in s.methods (key m.class v.method.meta v.selector) j ≡ true → (o : Option ℕ) → own m.class ≡ o → is_some o ≡ true
      some m l t None q = absurd (find-none (is_method_in s.methods (key m.class v.method.meta v.selector)) s.method_order q j l t)
      some m l t (Some y) q = refl

      of : (m : MethodRec) → live_at s.methods s.method_order j ≡ Some m → (beq m.meta v.method.meta && nat_eq m.tree.selector v.selector) ≡ true → is_some (own_slot s m.class v.method.meta v.selector) ≡ true
      of m at t =
          let h = live-live_at s.methods s.method_order j m at in
          let b = and_parts (beq m.meta v.method.meta) (nat_eq m.tree.selector v.selector) t in
          ap is_some (own-keyed s v.selector m.class v.method.meta (orderly.method_classes_live j m h.0 h.1))
          ∙ some m h.0 (found m h.0 h.1 (sides-equal m.meta v.method.meta b.0) (eqb-equal m.tree.selector v.selector b.1)) (own m.class) refl

      at-most : (m : MethodRec) → live_at s.methods s.method_order j ≡ Some m → (b : Bool) → (beq m.meta v.method.meta && nat_eq m.tree.selector v.selector) ≡ b → cond b (Some m.class) None ≡ Some k → is_some (own_slot s k v.method.meta v.selector) ≡ true
      at-most m at true t q = let same : m.class ≡ k = cc in sym (ap (λ (x : ℕ). is_some (own_slot s x v.method.meta v.selector)) same) ∙ of m at t
      at-most m at false t q = absurd (cc)

      by : (o : Option MethodRec) → live_at s.methods s.method_order j ≡ o
          → option_and_then (λ (m : MethodRec). cond (beq m.meta v.method.meta && nat_eq m.tree.selector v.selector) (Some m.class) None) o ≡ Some k → is_some (own_slot s k v.method.meta v.selector) ≡ true
      by None at q = absurd (cc)
      by (Some m) at q = at-most m at (beq m.meta v.method.meta && nat_eq m.tree.selector v.selector) refl q

  -- so do those of the methods at places
  owners-own : (places : List Place) → AreOwners s v (filter_map (owner_at s v.method.meta v.selector) places)
  owners-own [] k e = absurd (true≢false (sym e))
  owners-own (p ∷ ps) k e = by (owner_at s v.method.meta v.selector p) refl e (owners-own ps k)
    where
      one : (c : ℕ) → owner_at s v.method.meta v.selector p ≡ Some c → (b : Bool) → nat_eq k c ≡ b → (b || list_any (nat_eq k) (filter_map (owner_at s v.method.meta v.selector) ps)) ≡ true
          → (list_any (nat_eq k) (filter_map (owner_at s v.method.meta v.selector) ps) ≡ true → is_some (own_slot s k v.method.meta v.selector) ≡ true) → is_some (own_slot s k v.method.meta v.selector) ≡ true
      one c q true t r rest = owner-own p k (q ∙ ap Some (sym (eqb-equal k c t)))
      one c q false t r rest = rest r

      by : (o : Option ℕ) → owner_at s v.method.meta v.selector p ≡ o → list_any (nat_eq k) (cons_option o (filter_map (owner_at s v.method.meta v.selector) ps)) ≡ true
          → (list_any (nat_eq k) (filter_map (owner_at s v.method.meta v.selector) ps) ≡ true → is_some (own_slot s k v.method.meta v.selector) ≡ true) → is_some (own_slot s k v.method.meta v.selector) ≡ true
      by None q r rest = rest r
      by (Some c) q r rest = one c q (nat_eq k c) refl r rest

  pub owners-known : (places : List Place) (owners : List ℕ) → owners ≡ filter_map (owner_at s v.method.meta v.selector) places → AreOwners s v owners
  owners-known places owners e = subst (AreOwners s v) (sym e) (owners-own places)
