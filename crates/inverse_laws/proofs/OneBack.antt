-- One thing is called by a new name, and back.
use Rattle.std.proofs.Common.{◌≡◌, List, [], ◌∷◌, Some, None, refl, sym, ap, ◌∙◌}
use Rattle.std.specs.Prelude.{Bool, true, false, ◌||◌, find, cond, option_map, unwrap_or, if◌then◌else◌, ◌&&◌, IsTrue, map}
use Rattle.std.specs.List.{list_any}
use Rattle.std.proofs.lemmas.Bool.{false≢true}
use Rattle.rb_base.specs.Names.{text_eq}
use Rattle.rb_base.proofs.NamesLemmas.{text_eq-refl}
use Rattle.image_model.specs.Image.{ClassOf, ImageOf}
use Rattle.run_model.specs.Values.{Name}
use Rattle.run_model.specs.Store.{same_pair}
use Rattle.run_model.specs.Renamings.{OfClass, MethodName, same_temporary, mapped}
use Rattle.run_model.proofs.Finite.{by_cases}
use Rattle.run_model.proofs.RenamingLemmas.{text-same, pair-same, pair-refl, temporary-same, temporary-refl}
use Rattle.mapped_model.specs.NamesInUse.{IsAmong}
use Rattle.mapped_model.specs.RenamedVariables.{stands_above, renamed_below}

-- names that are told apart by a test that tells whether two are one; what a map has for a key is another name, or part of one
module _ {K V : Type 0} (same : K → K → Bool) where
  -- what a map with one entry has for a key
  abbrev pub called : K → V → K → V → V
  called old new n other = mapped same ((old, new) ∷ []) n other

  pub called-by : (old : K) (new : V) (n : K) (other : V) (b : Bool) → same n old ≡ b → called old new n other ≡ unwrap_or (option_map (λ (p : K × V). p.1) (cond b (Some (old, new)) None)) other
  called-by old new n other b e = ap (λ t. unwrap_or (option_map (λ (p : K × V). p.1) (cond t (Some (old, new)) None)) other) e

module _ {K : Type 0} (same : K → K → Bool) (sound : (a b : K) → same a b ≡ true → a ≡ b) (itself : (a : K) → same a a ≡ true) where
  -- a name that is not the new one has its name back
  pub given-back : (old new n : K) → (n ≡ new → ⊥) → called same new old (called same old new n n) (called same old new n n) ≡ n
  given-back old new n other =
      by_cases (same n old)
      (λ e. ap (λ m. called same new old m m) (called-by same old new n n true e) ∙ called-by same new old new new true (itself new) ∙ sym (sound n old e))
      (λ e. ap (λ m. called same new old m m) (called-by same old new n n false e) ∙ by_cases (same n new) (λ t. absurd (other (sound n new t))) (λ t. called-by same new old n n false t))

pub text-back : (old new n : Name) → (n ≡ new → ⊥) → called text_eq new old (called text_eq old new n n) (called text_eq old new n n) ≡ n
text-back old new n other = given-back text_eq text-same text_eq-refl old new n other

pub pair-back : (old new n : OfClass) → (n ≡ new → ⊥) → called same_pair new old (called same_pair old new n n) (called same_pair old new n n) ≡ n
pair-back old new n other = given-back same_pair pair-same pair-refl old new n other

-- the name of a temporary of a method
pub temporary-back : (m : MethodName) (x y : Name) (t : MethodName × Name) → (t ≡ (m, y) → ⊥) →
    (t.0, called same_temporary (m, y) x (t.0, called same_temporary (m, x) y t t.1) (called same_temporary (m, x) y t t.1)) ≡ t
temporary-back m x y t other =
    by_cases (same_temporary t (m, x))
    (λ e.
    ap (λ n. (t.0, called same_temporary (m, y) x (t.0, n) n)) (called-by same_temporary (m, x) y t t.1 true e)
    ∙ ap (λ (k : MethodName). (t.0, called same_temporary (m, y) x (k, y) y)) (ap (λ (k : MethodName × Name). k.0) (temporary-same t (m, x) e))
    ∙ ap (λ n. (t.0, n)) (called-by same_temporary (m, y) x (m, y) y true (temporary-refl (m, y)))
    ∙ (λ i. (t.0, sym (ap (λ (k : MethodName × Name). k.1) (temporary-same t (m, x) e)) i)))
    (λ e.
    ap (λ n. (t.0, called same_temporary (m, y) x (t.0, n) n)) (called-by same_temporary (m, x) y t t.1 false e)
    ∙ by_cases (same_temporary t (m, y)) (λ h. absurd (other (temporary-same t (m, y) h))) (λ h. ap (λ n. (t.0, n)) (called-by same_temporary (m, y) x t t.1 false h)))

-- a name that the new one is not
pub apart : (new n : Name) → text_eq new n ≡ false → n ≡ new → ⊥
apart new n other e = absurd (no (sym (ap (text_eq new) e ∙ text_eq-refl new) ∙ other))
  where
    no : true ≡ false → ⊥
    no q = cc

-- the variable of a class, in it and in the classes below
pub below-back : (i : ImageOf Name) (c x y : Name) (k : OfClass) → (IsTrue (stands_above i c k.0) → k.1 ≡ y → ⊥) → renamed_below i c y x (k.0, renamed_below i c x y k) ≡ k.1
below-back i c x y k other = by (stands_above i c k.0) other
  where
    named : (b : Bool) → text_eq x k.1 ≡ b → (k.1 ≡ y → ⊥) → (if text_eq y (if b then y else k.1) then x else (if b then y else k.1)) ≡ k.1
    named true e h = ap (λ b. if b then x else y) (text_eq-refl y) ∙ text-same x k.1 e
    named false e h = by_cases (text_eq y k.1) (λ t. absurd (h (sym (text-same y k.1 t)))) (λ t. ap (λ b. if b then x else k.1) t)

    by : (b : Bool) → (IsTrue b → k.1 ≡ y → ⊥) → (if b && text_eq y (if b && text_eq x k.1 then y else k.1) then x else (if b && text_eq x k.1 then y else k.1)) ≡ k.1
    by true h = named (text_eq x k.1) refl (h refl)
    by false h = refl

-- the turned entries of a renamed variable
pub entries-turned : (cs : List (ClassOf Name)) (old new : Name) →
    map {B = OfClass × Name} (λ (e : OfClass × Name). ((e.0.0, e.1), e.0.1)) (map {B = OfClass × Name} (λ (e : ClassOf Name). ((e.name, old), new)) cs) ≡ map {B = OfClass × Name} (λ (e : ClassOf Name). ((e.name, new), old)) cs
entries-turned [] old new = refl
entries-turned (c ∷ cs) old new = ap (λ (es : List (OfClass × Name)). ((c.name, new), old) ∷ es) (entries-turned cs old new)

-- names of a list, by what a function makes of them
module _ (f : Name → Name) (c : Name) where
  or_true : (a : Bool) → (a || true) ≡ true
  or_true true = refl
  or_true false = refl

  pub list-back : (ns : List Name) → ((n : Name) → IsAmong ns n → f c ≡ f n → c ≡ n) → IsAmong ns c → mapped text_eq (map {B = Name × Name} (λ n. (f n, n)) ns) (f c) (f c) ≡ c
  list-back [] single t = absurd (false≢true t)
  list-back (n ∷ ms) single t =
      by_cases (text_eq (f c) (f n))
      (λ e. ap (λ b. unwrap_or (option_map (λ (p : Name × Name). p.1) (cond b (Some (f n, n)) (find (λ (p : Name × Name). text_eq (f c) p.0) (map {B = Name × Name} (λ m. (f m, m)) ms)))) (f c)) e ∙ sym (single n (ap (λ b. b || list_any (text_eq n) ms) (text_eq-refl n)) (text-same (f c) (f n) e)))
      (λ e. ap (λ b. unwrap_or (option_map (λ (p : Name × Name). p.1) (cond b (Some (f n, n)) (find (λ (p : Name × Name). text_eq (f c) p.0) (map {B = Name × Name} (λ m. (f m, m)) ms)))) (f c)) e ∙ list-back ms (λ m i. single m (ap (λ b. text_eq m n || b) i ∙ or_true (text_eq m n))) (rest e))
    where
      rest : text_eq (f c) (f n) ≡ false → IsAmong ms c
      rest e =
          by_cases (text_eq c n) (λ q. absurd (false≢true (sym e ∙ ap (λ m. text_eq (f c) (f m)) (sym (text-same c n q)) ∙ text_eq-refl (f c))))
          (λ q. sym (ap (λ b. b || list_any (text_eq c) ms) q) ∙ t)
