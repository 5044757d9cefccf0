-- Marks, and what they say is reached.
use Rattle.std.proofs.Common.{◌≡◌, ◌⊎◌, inl, inr, ℕ, zero, suc, ◌+◌, ◌<◌, ◌&&◌, ◌||◌, Bool, true, false, List, [], ◌∷◌, map, filter, Option, None, Some, slice_get, option_map, refl, sym, ap, subst, ◌∙◌, arith, true≢false}
use Rattle.std.specs.Prelude.{if◌then◌else◌, nat_eq}
use Rattle.std.specs.Bool.{beq}
use Rattle.std.specs.List.{list_any, flat_map, cons_option}
use Rattle.std.specs.Option.{option_map_or}
use Rattle.std.proofs.Math.Dec.{eqb}
use Rattle.std.proofs.lemmas.Bool.Decides.{eqb_tells}
use Rattle.std.proofs.lemmas.Bool.{and_parts}
use Rattle.std.proofs.lemmas.List.Folds.{list_any-append}
use Rattle.file_laws.proofs.Methods.{beq_equal}
use Rattle.rb_base.specs.Names.{name_at}
use Rattle.image_model.specs.Image.{EntryOf, map_entry}
use Rattle.image_model.specs.Valid.{HasNoRepeat, signature}
use Rattle.strip_model.specs.Reach.{same_signature, if_any, if_named, signatures, has_class, has_selector, has_method}
use Rattle.class_table.specs.declared.record.ClassRec.{ClassRec}
use Rattle.class_table.specs.declared.record.MethodRec.{MethodRec}
use Rattle.strip_model.proofs.Least.{side-reflexive}
use Rattle.class_table.specs.Slots.{Slots}
use Rattle.class_table.specs.Valid.{IsLive, IsOrderly}
use Rattle.class_table.specs.View.{live, live_at, entry_of}
use Rattle.class_table.proofs.Live.{or_true, eqb-refl, eqb-equal, there}
use Rattle.class_questions.proofs.AnyLive.{any_live, live_at-live}
use Rattle.code_questions.proofs.Witnesses.{same-truth, passing-live, passes-live}
use Rattle.class_plans.proofs.Orders.{live-kept, live-of_kept}
use Rattle.image_strip.specs.Reached.{Marks, is_marked, marked_from, marked_methods, reached}
use Rattle.image_strip.specs.Once.{HasMethodsOnce}

-- a number before those that are listed
marked-before : (n k : ℕ) (bs : List Bool) → n < k → list_any (nat_eq n) (marked_from k bs) ≡ false
marked-before n k [] h = refl
marked-before n k (b ∷ bs) h = by b (marked-before n (k + 1) bs (omega (arith, h))) (eqb_tells n k)
  where
    by : (b : Bool) → list_any (nat_eq n) (marked_from (k + 1) bs) ≡ false → ((eqb n k ≡ true) × (n ≡ k)) ⊎ ((eqb n k ≡ false) × (n ≡ k → ⊥)) → list_any (nat_eq n) (if b then k ∷ marked_from (k + 1) bs else marked_from (k + 1) bs) ≡ false
    by false rest t = rest
    by true rest (inl t) = absurd (omega (arith, t.1, h))
    by true rest (inr t) = λ i. t.0 i || rest i

-- a number is listed where it is marked
pub marked-listed : (n k j : ℕ) (bs : List Bool) → n ≡ k + j → list_any (nat_eq n) (marked_from k bs) ≡ is_marked bs j
marked-listed n k j [] e = refl
marked-listed n k zero (b ∷ bs) e = by b
  where
    here : n ≡ k
    here = omega (arith, e)

    by : (b : Bool) → list_any (nat_eq n) (if b then k ∷ marked_from (k + 1) bs else marked_from (k + 1) bs) ≡ b
    by true = ap (λ (b : Bool). b || list_any (nat_eq n) (marked_from (k + 1) bs)) (ap (eqb n) (sym here) ∙ eqb-refl n)
    by false = marked-before n (k + 1) bs (omega (arith, e))
marked-listed n k (suc j) (b ∷ bs) e = by b (marked-listed n (k + 1) j bs (omega (arith, e))) (eqb_tells n k)
  where
    by : (b : Bool) → list_any (nat_eq n) (marked_from (k + 1) bs) ≡ is_marked bs j → ((eqb n k ≡ true) × (n ≡ k)) ⊎ ((eqb n k ≡ false) × (n ≡ k → ⊥)) → list_any (nat_eq n) (if b then k ∷ marked_from (k + 1) bs else marked_from (k + 1) bs) ≡ is_marked bs j
    by false rest t = rest
    by true rest (inl t) = absurd (omega (arith, t.1, e))
    by true rest (inr t) = ap (λ (b : Bool). b || list_any (nat_eq n) (marked_from (k + 1) bs)) t.0 ∙ rest

module _ {X Y : Type 0} (g : X → Y) (xs : List X) where
  -- where what a live slot holds stands
  live-stands : (order : List ℕ) (k : ℕ) (x : X) → IsLive order k → slice_get xs k ≡ Some x → (p : ℕ) × (slice_get (map g (live xs order)) p ≡ Some (g x))
  live-stands [] k x l e = absurd (true≢false (sym l))
  live-stands (j ∷ js) k x l e = by (or_true (eqb k j) (list_any (eqb k) js) l) (λ m. live-stands js k x m e)
    where
      behind : (o : Option X) → (p : ℕ) × (slice_get (map g (live xs js)) p ≡ Some (g x)) → (p : ℕ) × (slice_get (map g (cons_option o (live xs js))) p ≡ Some (g x))
      behind None w = w
      behind (Some y) w = (suc w.0, w.1)

      by : (eqb k j ≡ true) ⊎ (list_any (eqb k) js ≡ true) → (IsLive js k → (p : ℕ) × (slice_get (map g (live xs js)) p ≡ Some (g x))) → (p : ℕ) × (slice_get (map g (cons_option (slice_get xs j) (live xs js))) p ≡ Some (g x))
      by (inl s) rest = (0, ap (λ (o : Option X). slice_get (map g (cons_option o (live xs js))) 0) (ap (slice_get xs) (sym (eqb-equal k j s)) ∙ e))
      by (inr m) rest = behind (slice_get xs j) (rest m)

  -- slots of an order that hold the same are one
  pub live-once : (order : List ℕ) → HasNoRepeat (map g (live xs order)) → (j k : ℕ) (x y : X) → IsLive order j → IsLive order k → slice_get xs j ≡ Some x → slice_get xs k ≡ Some y → g x ≡ g y → j ≡ k
  live-once [] once j k x y lj lk ej ek same = absurd (true≢false (sym lj))
  live-once (i ∷ is) once j k x y lj lk ej ek same =
      by (or_true (eqb j i) (list_any (eqb j) is) lj) (or_true (eqb k i) (list_any (eqb k) is) lk) (λ a b. live-once is (tail (slice_get xs i) once) j k x y a b ej ek same)
    where
      tail : (o : Option X) → HasNoRepeat (map g (cons_option o (live xs is))) → HasNoRepeat (map g (live xs is))
      tail None h a b v p q = h a b v p q
      tail (Some z) h a b v p q = less (h (suc a) (suc b) v p q)
        where
          less : suc a ≡ suc b → a ≡ b
          less e = omega (arith, e)

      apart : (z u : X) (m : ℕ) → slice_get xs i ≡ Some z → IsLive is m → slice_get xs m ≡ Some u → g z ≡ g u → ⊥
      apart z u m e l f alike =
          let at = live-stands is m u l f in
          let here : HasNoRepeat (g z ∷ map g (live xs is)) = subst (λ (o : Option X). HasNoRepeat (map g (cons_option o (live xs is)))) e once in
          let both : 0 ≡ suc at.0 = here 0 (suc at.0) (g z) refl (at.1 ∙ ap Some (sym alike)) in
          absurd (omega (arith, both))

      by : (eqb j i ≡ true) ⊎ (list_any (eqb j) is ≡ true) → (eqb k i ≡ true) ⊎ (list_any (eqb k) is ≡ true) → (IsLive is j → IsLive is k → j ≡ k) → j ≡ k
      by (inl a) (inl b) rest = eqb-equal j i a ∙ sym (eqb-equal k i b)
      by (inl a) (inr b) rest = absurd (apart x y k (ap (slice_get xs) (sym (eqb-equal j i a)) ∙ ej) b ek same)
      by (inr a) (inl b) rest = absurd (apart y x j (ap (slice_get xs) (sym (eqb-equal k i b)) ∙ ek) a ej (sym same))
      by (inr a) (inr b) rest = rest a b

-- whether a method has the signature of another
abbrev pub is_one : EntryOf ℕ → EntryOf ℕ → Bool
is_one a b = if_any nat_eq (λ c. list_any (same_signature nat_eq (c, a.meta, a.tree.selector)) (signatures b)) a.class

-- two methods that have one signature
module _ (a b : EntryOf ℕ) where
  pairs : (c d : ℕ) → (same_signature nat_eq (c, a.meta, a.tree.selector) (d, b.meta, b.tree.selector) || false) ≡ true → ◌≡◌ {A = Option ℕ × Bool × ℕ} (Some c, a.meta, a.tree.selector) (Some d, b.meta, b.tree.selector)
  pairs c d h =
      let both = and_parts (nat_eq c d && beq a.meta b.meta) (nat_eq a.tree.selector b.tree.selector) (one (same_signature nat_eq (c, a.meta, a.tree.selector) (d, b.meta, b.tree.selector)) h) in
      let first = and_parts (nat_eq c d) (beq a.meta b.meta) both.0 in
      λ i. (Some (eqb-equal c d first.0 i), beq_equal a.meta b.meta first.1 i, eqb-equal a.tree.selector b.tree.selector both.1 i)
    where
      one : (x : Bool) → (x || false) ≡ true → x ≡ true
      one true q = refl
      one false q = q

  pub one-signature : is_one a b ≡ true → signature a ≡ signature b
  one-signature = by a.class b.class refl refl
    where
      by : (o p : Option ℕ) → a.class ≡ o → b.class ≡ p
          → if_any nat_eq (λ c. list_any (same_signature nat_eq (c, a.meta, a.tree.selector)) (map (λ d. (d, b.meta, b.tree.selector)) (if_named p))) o ≡ true → signature a ≡ signature b
      by None p e f h = absurd (true≢false (sym h))
      by (Some c) None e f h = absurd (true≢false (sym h))
      by (Some c) (Some d) e f h =
          let first : ◌≡◌ {A = Option ℕ × Bool × ℕ} (signature a) (Some c, a.meta, a.tree.selector) = λ i. (e i, a.meta, a.tree.selector) in
          let last : ◌≡◌ {A = Option ℕ × Bool × ℕ} (Some d, b.meta, b.tree.selector) (signature b) = λ i. (sym f i, b.meta, b.tree.selector) in
          first ∙ pairs c d h ∙ last

-- a method has its own signature
own-signature : (a : EntryOf ℕ) (c : ℕ) → a.class ≡ Some c → is_one a a ≡ true
own-signature a c e =
    ap (λ (o : Option ℕ). if_any nat_eq (λ d. list_any (same_signature nat_eq (d, a.meta, a.tree.selector)) (map (λ d. (d, a.meta, a.tree.selector)) (if_named o))) o) e
    ∙ (λ i. (eqb-refl c i && side-reflexive a.meta i && eqb-refl a.tree.selector i) || false)

module _ {X Y : Type 0} (p : Y → Bool) (f : X → List Y) where
  pub any-flat : (xs : List X) → list_any p (flat_map f xs) ≡ list_any (λ x. list_any p (f x)) xs
  any-flat [] = refl
  any-flat (x ∷ xs) = list_any-append p (f x) (flat_map f xs) ∙ ap (λ (b : Bool). list_any p (f x) || b) (any-flat xs)

-- no item passes
none-any : {X : Type 0} (xs : List X) → false ≡ list_any (λ (x : X). false) xs
none-any [] = refl
none-any (x ∷ xs) = none-any xs

-- a signature among those of methods
among : (a : EntryOf ℕ) (bs : List (EntryOf ℕ)) → if_any nat_eq (λ c. list_any (same_signature nat_eq (c, a.meta, a.tree.selector)) (flat_map signatures bs)) a.class ≡ list_any (is_one a) bs
among a bs = by a.class
  where
    by : (o : Option ℕ) → if_any nat_eq (λ c. list_any (same_signature nat_eq (c, a.meta, a.tree.selector)) (flat_map signatures bs)) o
        ≡ list_any (λ b. if_any nat_eq (λ c. list_any (same_signature nat_eq (c, a.meta, a.tree.selector)) (signatures b)) o) bs
    by None = none-any bs
    by (Some c) = any-flat (same_signature nat_eq (c, a.meta, a.tree.selector)) signatures bs

maps : {A B C D : Type 0} (f : C → D) (g : B → C) (h : A → B) (xs : List A) → map f (map g (map h xs)) ≡ map (λ x. f (g (h x))) xs
maps f g h [] = refl
maps f g h (x ∷ xs) = ap (λ (ys : List _). f (g (h x)) ∷ ys) (maps f g h xs)

-- names and selectors are reached where they are marked
pub class-marked : (s : Slots) (r : Marks) (c : ℕ) → has_class nat_eq (reached s r) c ≡ is_marked r.classes c
class-marked s r c = marked-listed c 0 c r.classes (omega arith)

pub selector-marked : (s : Slots) (r : Marks) (n : ℕ) → has_selector nat_eq (reached s r) n ≡ is_marked r.selectors n
selector-marked s r n = marked-listed n 0 n r.selectors (omega arith)

module _ (s : Slots) (o : IsOrderly s) (once : HasMethodsOnce s) (r : Marks) where
  -- slots of methods with one signature are one
  alone : (j k : ℕ) (m n : MethodRec) → IsLive s.method_order j → IsLive s.method_order k → slice_get s.methods j ≡ Some m → slice_get s.methods k ≡ Some n → signature (entry_of s.classes m) ≡ signature (entry_of s.classes n) → j ≡ k
  alone j k m n lj lk ej ek same =
      let text : Option ℕ × Bool × ℕ → Option (List ℕ) × Bool × List ℕ = λ x. (option_map (name_at s.names) x.0, x.1, name_at s.names x.2) in
      let g : MethodRec → Option (List ℕ) × Bool × List ℕ = λ x. signature (map_entry (name_at s.names) (entry_of s.classes x)) in
      live-once g s.methods s.method_order (subst HasNoRepeat (maps signature (map_entry (name_at s.names)) (entry_of s.classes) (live s.methods s.method_order)) once) j k m n lj lk ej ek (ap text same)

  abbrev is_one_at : EntryOf ℕ → ℕ → Bool
  is_one_at e j = option_map_or (λ (n : MethodRec). is_one e (entry_of s.classes n)) (live_at s.methods (filter (is_marked r.methods) s.method_order) j) false

  -- the class of a live method has a name
  home : (k : ℕ) (m : MethodRec) → IsLive s.method_order k → slice_get s.methods k ≡ Some m → (c : ℕ) × ((entry_of s.classes m).class ≡ Some c)
  home k m l e =
      let at = there s.classes m.class (o.class_order.below m.class (o.method_classes_live k m l e)) in
      ((at.0).name, ap (option_map (λ (c : ClassRec). c.name)) at.1)

  -- a live method is reached where its slot is marked
  pub method-marked : (k : ℕ) (m : MethodRec) → IsLive s.method_order k → slice_get s.methods k ≡ Some m → has_method nat_eq (reached s r) (entry_of s.classes m) ≡ is_marked r.methods k
  method-marked k m l e =
      among a (marked_methods s r.methods)
      ∙ sym (any_live (entry_of s.classes) (is_one a) s.methods kept)
      ∙ same-truth (list_any (is_one_at a) kept) (is_marked r.methods k) only here
    where
      a : EntryOf ℕ
      a = entry_of s.classes m

      kept : List ℕ
      kept = filter (is_marked r.methods) s.method_order

      at-slot : (j : ℕ) → IsLive s.method_order j → IsLive kept j → (p : Option MethodRec) → slice_get s.methods j ≡ p → option_map_or (λ (n : MethodRec). is_one a (entry_of s.classes n)) p false ≡ true → k ≡ j
      at-slot j lj kj None q h = absurd (true≢false (sym h))
      at-slot j lj kj (Some n) q h = alone k j m n l lj e q (one-signature a (entry_of s.classes n) h)

      told : (j : ℕ) → IsLive kept j → is_one_at a j ≡ option_map_or (λ (n : MethodRec). is_one a (entry_of s.classes n)) (slice_get s.methods j) false
      told j kj = ap (λ (p : Option MethodRec). option_map_or (λ (n : MethodRec). is_one a (entry_of s.classes n)) p false) (live_at-live s.methods kept j kj)

      only : list_any (is_one_at a) kept ≡ true → is_marked r.methods k ≡ true
      only h =
          let w = passing-live (is_one_at a) kept h in
          let both = live-kept (is_marked r.methods) w.0 s.method_order w.1 in
          ap (is_marked r.methods) (at-slot w.0 both.0 w.1 (slice_get s.methods w.0) refl (sym (told w.0 w.1) ∙ w.2)) ∙ both.1

      here : is_marked r.methods k ≡ true → list_any (is_one_at a) kept ≡ true
      here h =
          let live_there : IsLive kept k = live-of_kept (is_marked r.methods) k s.method_order h ∙ l in
          let c = home k m l e in
          passes-live (is_one_at a) kept k live_there (told k live_there ∙ ap (λ (p : Option MethodRec). option_map_or (λ (n : MethodRec). is_one a (entry_of s.classes n)) p false) e ∙ own-signature a c.0 c.1)
