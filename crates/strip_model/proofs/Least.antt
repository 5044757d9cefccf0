-- What is reached is closed, and is in all that is closed.
use Rattle.std.proofs.Common.{◌≡◌, ℕ, zero, suc, ◌<◌, ◌≤◌, ◌+◌, List, length, Option, Some, None, ◌⊎◌, inl, inr, refl, arith}
use Rattle.std.specs.Prelude.{Bool, true, false, not, ◌&&◌, ◌||◌, filter}
use Rattle.std.proofs.Math.Bool.{beq}
use Rattle.std.specs.List.{list_any, list_all}
use Rattle.std.specs.Option.{option_map_or}
use Rattle.std.proofs.lemmas.Bool.{false≢true, and_parts, and_from}
use Rattle.image_model.specs.Image.{ClassOf, EntryOf, ImageOf}
use Rattle.image_model.specs.Words.{WordsOf}
use Rattle.strip_model.specs.Reach.{Signature, ReachOf, nothing, same_signature, has_class, has_selector, has_signature, has_method, if_named, signatures, code_means, code_sends, method_code, demanded_by, demanded, is_closed, everything, size, reached_after, reach}
use Rattle.strip_model.specs.Within.{IsWithin}
use Rattle.strip_model.proofs.Listed.{or-either, and-both, any-parts, any-given, all-member, none-new, all-members, count-least, count-more, count-whole}

-- sides
side-exact : (a b : Bool) → beq a b ≡ true → a ≡ b
side-exact true true h = refl
side-exact false false h = refl
side-exact true false h = absurd (false≢true h)
side-exact false true h = absurd (false≢true h)

pub side-reflexive : (b : Bool) → beq b b ≡ true
side-reflexive true = refl
side-reflexive false = refl

-- of a name that there may be
any-name : {N : Type 0} (p q : N → Bool) → ((n : N) → p n ≡ true → q n ≡ true) → (o : Option N) → option_map_or p o false ≡ true → option_map_or q o false ≡ true
any-name p q h None e = e
any-name p q h (Some n) e = h n e

module _ {N : Type 0} (w : WordsOf N) (i : ImageOf N) (reflexive : (n : N) → w.tests.same n n ≡ true) (exact : (m n : N) → w.tests.same m n ≡ true → m ≡ n) where
  abbrev same : N → N → Bool
  same = w.tests.same

  abbrev Sub : ReachOf N → ReachOf N → Type 0
  Sub p q = IsWithin same p q

  signature-reflexive : (k : Signature N) → same_signature same k k ≡ true
  signature-reflexive k = and_from (same k.0 k.0 && beq k.1 k.1) (same k.2 k.2) (and_from (same k.0 k.0) (beq k.1 k.1) (reflexive k.0) (side-reflexive k.1)) (reflexive k.2)

  signature-exact : (k l : Signature N) → same_signature same k l ≡ true → k ≡ l
  signature-exact (a, b, c) (d, e, f) h =
      let whole = and_parts (same a d && beq b e) (same c f) h in
      let first = and_parts (same a d) (beq b e) whole.0 in
      λ x. (exact a d first.0 x, side-exact b e first.1 x, exact c f whole.1 x)

  -- what more demands, by tests
  module _ (c d s t : N → Bool) (m n : EntryOf N → Bool) (cs : (x : N) → c x ≡ true → d x ≡ true) (ss : (x : N) → s x ≡ true → t x ≡ true) (ms : (x : EntryOf N) → m x ≡ true → n x ≡ true) where
    more-demands : Sub (demanded_by w i c s m) (demanded_by w i d t n)
    more-demands = record {
      classes = λ x.
          let g = same x in
          any-parts g _ _ _ _ (λ o. o)
          (any-parts g _ _ _ _ (any-given g (λ (y : ClassOf N). if_named y.superclass) (λ (y : ClassOf N). c y.name) (λ (y : ClassOf N). d y.name) (λ y. cs y.name) i.classes)
          (any-parts g _ _ _ _ (any-given g (λ (y : EntryOf N). if_named y.class) m n ms i.methods)
          (any-parts g _ _ _ _ (λ o. o) (any-given g (λ (y : EntryOf N). code_means (method_code w i y)) m n ms i.methods))));
      selectors = λ x. any-parts (same x) _ _ _ _ (λ o. o) (any-given (same x) (λ (y : EntryOf N). code_sends (method_code w i y)) m n ms i.methods);
      methods = λ k.
          any-given (same_signature same k) signatures (λ (y : EntryOf N). y.kernel || (option_map_or c y.class false && s y.tree.selector)) (λ (y : EntryOf N). y.kernel || (option_map_or d y.class false && t y.tree.selector))
          (λ y. or-either y.kernel (option_map_or c y.class false && s y.tree.selector) y.kernel (option_map_or d y.class false && t y.tree.selector) (λ o. o)
          (and-both (option_map_or c y.class false) (s y.tree.selector) (option_map_or d y.class false) (t y.tree.selector) (any-name c d cs y.class) (ss y.tree.selector))) i.methods;
    }

  -- what is in more demands no more
  demanded-within : (p q : ReachOf N) → Sub p q → Sub (demanded w i p) (demanded w i q)
  demanded-within p q h =
      more-demands (has_class same p) (has_class same q) (has_selector same p) (has_selector same q) (has_method same p) (has_method same q) h.classes h.selectors
      (λ m. any-name (λ c. has_signature same p (c, m.meta, m.tree.selector)) (λ c. has_signature same q (c, m.meta, m.tree.selector)) (λ c. h.methods (c, m.meta, m.tree.selector)) m.class)

  demanded-everything : (p : ReachOf N) → Sub (demanded w i p) (everything w i)
  demanded-everything p = more-demands (has_class same p) (λ x. true) (has_selector same p) (λ x. true) (has_method same p) (λ x. true) (λ x e. refl) (λ x e. refl) (λ x e. refl)

  within-all : (p q r : ReachOf N) → Sub p q → Sub q r → Sub p r
  within-all p q r h k = record { classes = λ n e. k.classes n (h.classes n e); selectors = λ n e. k.selectors n (h.selectors n e); methods = λ n e. k.methods n (h.methods n e) }

  nothing-within : (r : ReachOf N) → Sub nothing r
  nothing-within r = record { classes = λ n e. absurd (false≢true e); selectors = λ n e. absurd (false≢true e); methods = λ n e. absurd (false≢true e) }

  -- closed: what is demanded is in it
  pub closed-within : (r : ReachOf N) → is_closed w i r ≡ true → Sub (demanded w i r) r
  closed-within r closed =
      let parts = and_parts (list_all (has_class same r) (demanded w i r).classes) _ closed in
      let rest = and_parts (list_all (has_selector same r) (demanded w i r).selectors) _ parts.1 in
      record {
        classes = λ n. all-member same exact (has_class same r) (demanded w i r).classes n parts.0;
        selectors = λ n. all-member same exact (has_selector same r) (demanded w i r).selectors n rest.0;
        methods = λ k. all-member (same_signature same) signature-exact (has_signature same r) (demanded w i r).methods k rest.1;
      }

  pub within-closed : (r : ReachOf N) → Sub (demanded w i r) r → is_closed w i r ≡ true
  within-closed r h =
      and_from (list_all (has_class same r) (demanded w i r).classes) _ (all-members same reflexive (has_class same r) (demanded w i r).classes h.classes)
      (and_from (list_all (has_selector same r) (demanded w i r).selectors) _ (all-members same reflexive (has_selector same r) (demanded w i r).selectors h.selectors)
      (all-members (same_signature same) signature-reflexive (has_signature same r) (demanded w i r).methods h.methods))

  -- in all that is closed
  after-least : (r : ReachOf N) → is_closed w i r ≡ true → (k : ℕ) → Sub (reached_after w i k) r
  after-least r closed zero = nothing-within r
  after-least r closed (suc k) = within-all _ (demanded w i r) r (demanded-within (reached_after w i k) r (after-least r closed k)) (closed-within r closed)

  pub reach-least : (r : ReachOf N) → is_closed w i r ≡ true → Sub (reach w i) r
  reach-least r closed = after-least r closed (size w i (everything w i))

  -- each step has what the one before has, and no more than everything
  after-within : (k : ℕ) → Sub (reached_after w i k) (reached_after w i (suc k))
  after-within zero = nothing-within _
  after-within (suc k) = demanded-within (reached_after w i k) (reached_after w i (suc k)) (after-within k)

  abbrev all-classes : List N
  all-classes = (everything w i).classes

  abbrev all-selectors : List N
  all-selectors = (everything w i).selectors

  abbrev all-methods : List (Signature N)
  all-methods = (everything w i).methods

  -- how many of all members are there
  abbrev weight : ReachOf N → ℕ
  weight r = length (filter (has_class same r) all-classes) + (length (filter (has_selector same r) all-selectors) + length (filter (has_signature same r) all-methods))

  weight-whole : (r : ReachOf N) → weight r ≤ size w i (everything w i)
  weight-whole r =
      let a = count-whole (has_class same r) all-classes in
      let b = count-whole (has_selector same r) all-selectors in
      let c = count-whole (has_signature same r) all-methods in
      omega (arith, a, b, c)

  -- nothing is new, or there are more
  grows : (p q : ReachOf N) → Sub p q → Sub q (everything w i) → Sub q p ⊎ (weight p < weight q)
  grows p q h k =
      by (list_any (λ u. has_class same q u && not (has_class same p u)) all-classes) (list_any (λ u. has_selector same q u && not (has_selector same p u)) all-selectors) (list_any (λ u. has_signature same q u && not (has_signature same p u)) all-methods) refl refl refl
      (count-least (has_class same p) (has_class same q) h.classes all-classes) (count-least (has_selector same p) (has_selector same q) h.selectors all-selectors) (count-least (has_signature same p) (has_signature same q) h.methods all-methods)
    where
      by : (x y z : Bool) → list_any (λ u. has_class same q u && not (has_class same p u)) all-classes ≡ x → list_any (λ u. has_selector same q u && not (has_selector same p u)) all-selectors ≡ y →
          list_any (λ u. has_signature same q u && not (has_signature same p u)) all-methods ≡ z → length (filter (has_class same p) all-classes) ≤ length (filter (has_class same q) all-classes) →
          length (filter (has_selector same p) all-selectors) ≤ length (filter (has_selector same q) all-selectors) → length (filter (has_signature same p) all-methods) ≤ length (filter (has_signature same q) all-methods) → Sub q p ⊎ (weight p < weight q)
      by true y z e f g a b c = let more = count-more (has_class same p) (has_class same q) h.classes all-classes e in inr (omega (arith, more, b, c))
      by false true z e f g a b c = let more = count-more (has_selector same p) (has_selector same q) h.selectors all-selectors f in inr (omega (arith, more, a, c))
      by false false true e f g a b c = let more = count-more (has_signature same p) (has_signature same q) h.methods all-methods g in inr (omega (arith, more, a, b))
      by false false false e f g a b c = inl (record {
        classes = λ n t. none-new same exact (has_class same p) (has_class same q) all-classes n e (k.classes n t) t;
        selectors = λ n t. none-new same exact (has_selector same p) (has_selector same q) all-selectors n f (k.selectors n t) t;
        methods = λ n t. none-new (same_signature same) signature-exact (has_signature same p) (has_signature same q) all-methods n g (k.methods n t) t;
      })

  steady : (k : ℕ) → Sub (reached_after w i (suc k)) (reached_after w i k) ⊎ (k < weight (reached_after w i (suc k)))
  steady zero = by (grows nothing (reached_after w i 1) (after-within 0) (demanded-everything nothing))
    where
      by : Sub (reached_after w i 1) nothing ⊎ (weight nothing < weight (reached_after w i 1)) → Sub (reached_after w i 1) nothing ⊎ (0 < weight (reached_after w i 1))
      by (inl h) = inl h
      by (inr h) = inr (omega (arith, h))
  steady (suc k) = by (steady k) (grows (reached_after w i (suc k)) (reached_after w i (suc (suc k))) (after-within (suc k)) (demanded-everything (reached_after w i (suc k))))
    where
      by : Sub (reached_after w i (suc k)) (reached_after w i k) ⊎ (k < weight (reached_after w i (suc k))) →
          Sub (reached_after w i (suc (suc k))) (reached_after w i (suc k)) ⊎ (weight (reached_after w i (suc k)) < weight (reached_after w i (suc (suc k)))) →
          Sub (reached_after w i (suc (suc k))) (reached_after w i (suc k)) ⊎ (suc k < weight (reached_after w i (suc (suc k))))
      by (inl h) g = inl (demanded-within (reached_after w i (suc k)) (reached_after w i k) h)
      by (inr h) (inl g) = inl g
      by (inr h) (inr g) = inr (omega (arith, h, g))

  pub reach-closed : is_closed w i (reach w i) ≡ true
  reach-closed = within-closed (reach w i) (by (steady (size w i (everything w i))) (weight-whole (reached_after w i (suc (size w i (everything w i))))))
    where
      by : Sub (demanded w i (reach w i)) (reach w i) ⊎ (size w i (everything w i) < weight (demanded w i (reach w i))) → weight (demanded w i (reach w i)) ≤ size w i (everything w i) → Sub (demanded w i (reach w i)) (reach w i)
      by (inl h) b = h
      by (inr h) b = absurd (omega (arith, h, b))
