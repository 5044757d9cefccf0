-- Tests of names that are mapped one to one.
use Rattle.std.proofs.Common.{◌≡◌, ℕ, zero, suc, List, [], ◌∷◌, Some, refl, sym, ap, ◌∙◌}
use Rattle.std.specs.Prelude.{Bool, true, false, ◌||◌, cond, if◌then◌else◌, map, find, get_or, option_map, unwrap_or}
use Rattle.std.specs.List.{AllByRecursion, list_any}
use Rattle.std.proofs.lemmas.Bool.{false≢true}
use Rattle.rb_base.specs.Names.{text_eq}
use Rattle.rb_base.proofs.NamesLemmas.{text_eq-refl}
use Rattle.run_model.specs.Values.{Name, Value, nil_value}
use Rattle.run_model.specs.Store.{value_of, with_value, same_pair}
use Rattle.run_model.proofs.Finite.{by_cases}
use Rattle.run_model.proofs.RenamingLemmas.{text-same, pair-same, pair-refl}

-- true with anything
pub or_right : (a b : Bool) → b ≡ true → (a || b) ≡ true
or_right true b e = refl
or_right false b e = e

-- a test of equality after one-to-one changes
test-mapped : {X : Type 0} (same : X → X → Bool) → ((x y : X) → same x y ≡ true → x ≡ y) → ((x : X) → same x x ≡ true) → (g : X → X) → ((x y : X) → g x ≡ g y → x ≡ y) → (x y : X) → same (g x) (g y) ≡ same x y
test-mapped same eq rf g one x y =
    by_cases (same x y)
    (λ t. ap (λ z. same (g x) (g z)) (sym (eq x y t)) ∙ rf (g x) ∙ sym t)
    (λ t. by_cases (same (g x) (g y))
    (λ u. absurd (false≢true (sym t ∙ ap (same x) (sym (one x y (eq (g x) (g y) u))) ∙ rf x)))
    (λ u. u ∙ sym t))

-- two texts
pub text-mapped : (g : Name → Name) → ((x y : Name) → g x ≡ g y → x ≡ y) → (x y : Name) → text_eq (g x) (g y) ≡ text_eq x y
text-mapped g one x y = test-mapped text_eq text-same text_eq-refl g one x y

-- two names of classes
pub pair-mapped : (g : Name × Name → Name × Name) → ((x y : Name × Name) → g x ≡ g y → x ≡ y) → (x y : Name × Name) → same_pair (g x) (g y) ≡ same_pair x y
pair-mapped g one x y = test-mapped same_pair pair-same pair-refl g one x y

-- a text that is kept, against another
pub word-mapped : (g : Name → Name) → ((x y : Name) → g x ≡ g y → x ≡ y) → (w : Name) → g w ≡ w → (x : Name) → text_eq w (g x) ≡ text_eq w x
word-mapped g one w e x = ap (λ v. text_eq v (g x)) (sym e) ∙ text-mapped g one w x

-- another text against one that is kept
pub mapped-word : (g : Name → Name) → ((x y : Name) → g x ≡ g y → x ≡ y) → (w : Name) → g w ≡ w → (x : Name) → text_eq (g x) w ≡ text_eq x w
mapped-word g one w e x = ap (λ v. text_eq (g x) v) (sym e) ∙ text-mapped g one x w

-- one of the texts that are kept
pub words-mapped : (g : Name → Name) → ((x y : Name) → g x ≡ g y → x ≡ y) → (ws : List Name) → AllByRecursion (λ w. g w ≡ w) ws → (x : Name) → list_any (text_eq (g x)) ws ≡ list_any (text_eq x) ws
words-mapped g one [] a x = refl
words-mapped g one (w ∷ ws) a x = λ i. mapped-word g one w a.0 x i || words-mapped g one ws a.1 x i

-- entries with changed keys and values
module _ {K : Type 0} (same : K → K → Bool) (key : K → K) (kept : (j k : K) → same (key j) (key k) ≡ same j k) (g : Value → Value) (nil : g nil_value ≡ nil_value) where
  -- the entries, after
  abbrev pub entries_after : List (K × Value) → List (K × Value)
  entries_after es = map (λ e. (key e.0, g e.1)) es

  -- the value of a key
  pub value_of-mapped : (es : List (K × Value)) (k : K) → value_of same (entries_after es) (key k) ≡ g (value_of same es k)
  value_of-mapped [] k = sym nil
  value_of-mapped (e ∷ es) k =
      ap (λ b. unwrap_or (option_map (λ (x : K × Value). x.1) (cond b (Some (key e.0, g e.1)) (find (λ (x : K × Value). same (key k) x.0) (entries_after es)))) nil_value) (kept k e.0)
      ∙ by (same k e.0) (value_of-mapped es k)
    where
      by : (b : Bool) → value_of same (entries_after es) (key k) ≡ g (value_of same es k) →
          unwrap_or (option_map (λ (x : K × Value). x.1) (cond b (Some (key e.0, g e.1)) (find (λ (x : K × Value). same (key k) x.0) (entries_after es)))) nil_value
          ≡ g (unwrap_or (option_map (λ (x : K × Value). x.1) (cond b (Some e) (find (λ (x : K × Value). same k x.0) es))) nil_value)
      by true h = refl
      by false h = h

  -- a value for a key
  pub with_value-mapped : (es : List (K × Value)) (k : K) (v : Value) → with_value same (entries_after es) (key k) (g v) ≡ entries_after (with_value same es k v)
  with_value-mapped [] k v = refl
  with_value-mapped (e ∷ es) k v =
      ap (λ b. if b then (key e.0, g v) ∷ entries_after es else (key e.0, g e.1) ∷ with_value same (entries_after es) (key k) (g v)) (kept k e.0)
      ∙ by (same k e.0) (with_value-mapped es k v)
    where
      by : (b : Bool) → with_value same (entries_after es) (key k) (g v) ≡ entries_after (with_value same es k v) →
          (if b then (key e.0, g v) ∷ entries_after es else (key e.0, g e.1) ∷ with_value same (entries_after es) (key k) (g v)) ≡ entries_after (if b then (e.0, v) ∷ es else e ∷ with_value same es k v)
      by true h = refl
      by false h = ap (λ l. (key e.0, g e.1) ∷ l) h

-- an item of a list, and what stands for one that is not there
pub get_or-after : {X Y : Type 0} (g : X → Y) (d : X) → (xs : List X) (k : ℕ) → get_or (map g xs) k (g d) ≡ g (get_or xs k d)
get_or-after g d [] k = refl
get_or-after g d (x ∷ xs) zero = refl
get_or-after g d (x ∷ xs) (suc k) = get_or-after g d xs k
