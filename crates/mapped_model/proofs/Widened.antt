-- Maps that are one to one on the names in use, made one to one on all names.
use Rattle.std.proofs.Common.{◌≡◌, ℕ, suc, ◌+◌, ◌≤◌, ◌<◌, List, [], ◌∷◌, ◌++◌, length, refl, sym, ap, ◌∙◌, arith}
use Rattle.std.specs.Prelude.{Bool, true, ◌||◌, if◌then◌else◌, IsTrue, replicate}
use Rattle.std.specs.List.{AllByRecursion, list_any}
use Rattle.std.proofs.lemmas.Bool.{false≢true}
use Rattle.scope_model.specs.SpecialNames.{one_block_selectors, two_block_selectors, loop_selectors}
use Rattle.std.proofs.lemmas.List.{append_cancel_left, length-append, length-replicate}
use Rattle.rb_base.specs.Names.{text_eq}
use Rattle.run_model.specs.Values.{Name}
use Rattle.run_model.specs.Store.{same_pair}
use Rattle.run_model.specs.ObjectPrimitives.{value_classes}
use Rattle.run_model.specs.Renamings.{OfClass}
use Rattle.run_model.proofs.Finite.{by_cases, and-true_right}
use Rattle.run_model.proofs.RenamingLemmas.{text-same, pair-same, pair-refl}
use Rattle.mapped_model.specs.NameMaps.{NameMaps, IsOneToOne, IsSameInAllClasses, KeepsWords}
use Rattle.mapped_model.specs.NamesInUse.{NamesInUse, IsAmong, IsAmongPairs, IsOneToOneOn, IsOneToOneAcross, HasWords}
use Rattle.mapped_model.proofs.Tests.{or_right}
use Rattle.mapped_model.proofs.Agreeing.{AgreesOn}

-- a thing that is in use is mapped, and another is taken away from all these
abbrev pub widened_by : {X Y : Type 0} → (X → Bool) → (X → Y) → (X → Y) → X → Y
widened_by used m away x = if used x then m x else away x

module _ {X Y : Type 0} (used : X → Bool) (m away : X → Y) where
  -- a thing in use
  pub widened-in : (x : X) → IsTrue (used x) → widened_by used m away x ≡ m x
  widened-in x t = ap (λ b. if b then m x else away x) t

  -- two things that do not come to be the same where they are both in use, or both are not
  pub widened-one : (x y : X) → (IsTrue (used x) → IsTrue (used y) → m x ≡ m y → x ≡ y) → (away x ≡ away y → x ≡ y) → (IsTrue (used x) → m x ≡ away y → ⊥) → (IsTrue (used y) → m y ≡ away x → ⊥) →
      widened_by used m away x ≡ widened_by used m away y → x ≡ y
  widened-one x y one apart fresh new e =
      by_cases (used x)
      (λ t. by_cases (used y)
      (λ u. one t u (sym (widened-in x t) ∙ e ∙ widened-in y u))
      (λ u. absurd (fresh t (sym (widened-in x t) ∙ e ∙ ap (λ b. if b then m y else away y) u))))
      (λ t. by_cases (used y)
      (λ u. absurd (new u (sym (widened-in y u) ∙ sym e ∙ ap (λ b. if b then m x else away x) t)))
      (λ u. apart (sym (ap (λ b. if b then m x else away x) t) ∙ e ∙ ap (λ b. if b then m y else away y) u)))

-- how long all things are together
abbrev total : {X : Type 0} → (X → ℕ) → List X → ℕ
total size [] = 0
total size (x ∷ xs) = size x + total size xs

-- each of them is no longer
total-bound : {X : Type 0} (same : X → X → Bool) → ((x y : X) → same x y ≡ true → x ≡ y) → (size : X → ℕ) (us : List X) (x : X) → IsTrue (list_any (same x) us) → size x ≤ total size us
total-bound same eq size [] x t = absurd (false≢true t)
total-bound same eq size (y ∷ us) x t =
    by_cases (same x y)
    (λ e. let s : size x ≡ size y = ap size (eq x y e) in omega (arith, s))
    (λ e. let ih = total-bound same eq size us x (sym (ap (λ b. b || list_any (same x) us) e) ∙ t) in omega (arith, ih))

-- whether a name is one of these
abbrev pub among : List Name → Name → Bool
among us x = list_any (text_eq x) us

-- whether it is the name of one of these variables, of whatever class
abbrev pub among_seconds : List OfClass → Name → Bool
among_seconds us x = list_any (λ (k : OfClass). text_eq x k.1) us

-- whether the name of a variable of a class is one of these
abbrev pub among_pairs : List OfClass → OfClass → Bool
among_pairs us k = list_any (same_pair k) us

-- the name of one of the variables
pair-second : (us : List OfClass) (k : OfClass) → IsTrue (among_pairs us k) → IsTrue (among_seconds us k.1)
pair-second [] k t = t
pair-second (j ∷ us) k t =
    by_cases (same_pair k j)
    (λ e. ap (λ b. b || among_seconds us k.1) (and-true_right (text_eq k.0 j.0) (text_eq k.1 j.1) e))
    (λ e. or_right (text_eq k.1 j.1) (among_seconds us k.1) (pair-second us k (sym (ap (λ b. b || among_pairs us k) e) ∙ t)))

-- a variable of which it is the name
second-pair : (us : List OfClass) (x : Name) → IsTrue (among_seconds us x) → (k : OfClass) × (k.1 ≡ x) × IsTrue (among_pairs us k)
second-pair [] x t = absurd (false≢true t)
second-pair (j ∷ us) x t =
    by_cases (text_eq x j.1)
    (λ e. (j, sym (text-same x j.1 e), ap (λ b. b || among_pairs us j) (pair-refl j)))
    (λ e. let k = second-pair us x (sym (ap (λ b. b || among_seconds us x) e) ∙ t) in (k.0, k.1, or_right (same_pair k.0 j) (among_pairs us k.0) k.2))

-- so many zeros
abbrev zeros : ℕ → Name
zeros n = replicate n 0

-- a name behind zeros
abbrev behind : ℕ → Name → Name
behind n x = zeros n ++ x

-- the name of a variable behind zeros
abbrev pub name_behind : ℕ → OfClass → Name
name_behind n k = behind n k.1

-- the name of a class variable whose class is behind zeros
abbrev behind_pair : ℕ → OfClass → OfClass
behind_pair n k = (behind n k.0, k.1)

-- how long a name behind zeros is
behind-length : (n : ℕ) (x : Name) → length (behind n x) ≡ n + length x
behind-length n x = length-append (zeros n) x ∙ ap (λ k. k + length x) (length-replicate n 0)

-- names behind zeros are told apart
behind-one : (n : ℕ) (x y : Name) → behind n x ≡ behind n y → x ≡ y
behind-one n x y e = append_cancel_left (zeros n) x y e

behind_pair-one : (n : ℕ) (x y : OfClass) → behind_pair n x ≡ behind_pair n y → x ≡ y
behind_pair-one n x y e = λ i. (behind-one n x.0 y.0 (ap (λ (k : OfClass). k.0) e) i, ap (λ (k : OfClass). k.1) e i)

-- a name behind more zeros than a name is long is another one
behind-fresh : (n : ℕ) (x y : Name) → length x < n → x ≡ behind n y → ⊥
behind-fresh n x y h e =
    let l : length x ≡ n + length y = ap length e ∙ behind-length n y in
    absurd (omega (arith, l, h))

-- names behind different numbers of zeros are not the same
pub behind-apart : (n : ℕ) (x : Name) → behind n x ≡ behind (suc n) x → ⊥
behind-apart n x e =
    let l : n + length x ≡ suc n + length x = sym (behind-length n x) ∙ ap length e ∙ behind-length (suc n) x in
    absurd (omega (arith, l))

-- where two widened maps agree, a name is in use
pub widened-agrees : (us : List Name) (g : Name → Name) (n : ℕ) (x : Name) → widened_by (among us) g (behind n) x ≡ widened_by (among us) g (behind (suc n)) x → widened_by (among us) g (behind n) x ≡ g x
widened-agrees us g n x e =
    by_cases (list_any (text_eq x) us)
    (λ t. ap (λ b. if b then g x else behind n x) t)
    (λ t. absurd (behind-apart n x (sym (ap (λ b. if b then g x else behind n x) t) ∙ e ∙ ap (λ b. if b then g x else behind (suc n) x) t)))

module _ (u : NamesInUse) (f : NameMaps) where
  -- more than any mapped name in use is long
  abbrev pub enough : ℕ
  enough =
      suc (total (λ c. length (f.class c)) u.classes + (total (λ s. length (f.selector s)) u.selectors + (total (λ k. length (f.shared k).0) u.shared
      + (total (λ k. length (f.instance k)) u.instance + total (λ k. length (f.class_side k)) u.class_side))))

  -- the maps on names in use, and all other names behind zeros
  abbrev pub widened : ℕ → NameMaps
  widened n = record {
    class = widened_by (among u.classes) f.class (behind n);
    selector = widened_by (among u.selectors) f.selector (behind n);
    shared = widened_by (among_pairs u.shared) f.shared (behind_pair n);
    instance = widened_by (among_pairs u.instance) f.instance (name_behind n);
    class_side = widened_by (among_pairs u.class_side) f.class_side (name_behind n);
  }

  -- a mapped name in use is no name behind zeros
  fresh-class : (n : ℕ) → enough ≤ n → (x y : Name) → IsAmong u.classes x → f.class x ≡ behind n y → ⊥
  fresh-class n h x y t e =
      let b : length (f.class x) ≤ total (λ c. length (f.class c)) u.classes = total-bound text_eq text-same (λ c. length (f.class c)) u.classes x t in
      behind-fresh n (f.class x) y (omega (arith, b, h)) e

  fresh-selector : (n : ℕ) → enough ≤ n → (x y : Name) → IsAmong u.selectors x → f.selector x ≡ behind n y → ⊥
  fresh-selector n h x y t e =
      let b : length (f.selector x) ≤ total (λ c. length (f.selector c)) u.selectors = total-bound text_eq text-same (λ c. length (f.selector c)) u.selectors x t in
      behind-fresh n (f.selector x) y (omega (arith, b, h)) e

  fresh-shared : (n : ℕ) → enough ≤ n → (x y : OfClass) → IsAmongPairs u.shared x → f.shared x ≡ behind_pair n y → ⊥
  fresh-shared n h x y t e =
      let b : length (f.shared x).0 ≤ total (λ k. length (f.shared k).0) u.shared = total-bound same_pair pair-same (λ k. length (f.shared k).0) u.shared x t in
      behind-fresh n (f.shared x).0 y.0 (omega (arith, b, h)) (ap (λ (k : OfClass). k.0) e)

  fresh-instance : (n : ℕ) → enough ≤ n → (k : OfClass) (y : Name) → IsAmongPairs u.instance k → f.instance k ≡ behind n y → ⊥
  fresh-instance n h k y t e =
      let b : length (f.instance k) ≤ total (λ c. length (f.instance c)) u.instance = total-bound same_pair pair-same (λ c. length (f.instance c)) u.instance k t in
      behind-fresh n (f.instance k) y (omega (arith, b, h)) e

  fresh-class_side : (n : ℕ) → enough ≤ n → (k : OfClass) (y : Name) → IsAmongPairs u.class_side k → f.class_side k ≡ behind n y → ⊥
  fresh-class_side n h k y t e =
      let b : length (f.class_side k) ≤ total (λ c. length (f.class_side c)) u.class_side = total-bound same_pair pair-same (λ c. length (f.class_side c)) u.class_side k t in
      behind-fresh n (f.class_side k) y (omega (arith, b, h)) e

  -- the name of a variable
  abbrev second : OfClass → Name
  second k = k.1

  -- no two names come to be the same
  pub widened-single : IsOneToOneOn u f → (n : ℕ) → enough ≤ n → IsOneToOne (widened n)
  widened-single one n h = record {
    class = λ x y. widened-one (among u.classes) f.class (behind n) x y (one.class x y) (behind-one n x y) (fresh-class n h x y) (fresh-class n h y x);
    selector = λ x y. widened-one (among u.selectors) f.selector (behind n) x y (one.selector x y) (behind-one n x y) (fresh-selector n h x y) (fresh-selector n h y x);
    shared = λ x y. widened-one (among_pairs u.shared) f.shared (behind_pair n) x y (one.shared x y) (behind_pair-one n x y) (fresh-shared n h x y) (fresh-shared n h y x);
    instance = λ c x y e.
        ap second (widened-one (among_pairs u.instance) f.instance (name_behind n) (c, x) (c, y) (λ s t q. ap (λ z. (c, z)) (one.instance c x y s t q)) (λ q. ap (λ z. (c, z)) (behind-one n x y q)) (fresh-instance n h (c, x) y) (fresh-instance n h (c, y) x) e);
    class_side = λ c x y e.
        ap second (widened-one (among_pairs u.class_side) f.class_side (name_behind n) (c, x) (c, y) (λ s t q. ap (λ z. (c, z)) (one.class_side c x y s t q)) (λ q. ap (λ z. (c, z)) (behind-one n x y q)) (fresh-class_side n h (c, x) y) (fresh-class_side n h (c, y) x) e);
  }

  -- words that are kept and in use
  kept-words : (g : Name → Name) (n : ℕ) (us ws : List Name) → AllByRecursion (IsAmong us) ws → AllByRecursion (λ w. g w ≡ w) ws → AllByRecursion (λ w. widened_by (among us) g (behind n) w ≡ w) ws
  kept-words g n us [] a b = tt
  kept-words g n us (w ∷ ws) a b = (widened-in (among us) g (behind n) w a.0 ∙ b.0, kept-words g n us ws a.1 b.1)

  -- the words of the language are kept
  pub widened-words : HasWords u → KeepsWords f → (n : ℕ) → KeepsWords (widened n)
  widened-words has keeps n = record {
    nothing = widened-in (among u.classes) f.class (behind n) [] has.nothing ∙ keeps.nothing;
    classes = kept-words f.class n u.classes value_classes has.classes keeps.classes;
    one_block = kept-words f.selector n u.selectors one_block_selectors has.one_block keeps.one_block;
    two_blocks = kept-words f.selector n u.selectors two_block_selectors has.two_blocks keeps.two_blocks;
    loops = kept-words f.selector n u.selectors loop_selectors has.loops keeps.loops;
  }

  -- they agree on names in use
  pub widened-on : (n : ℕ) → AgreesOn u f (widened n)
  widened-on n = record {
    class = widened-in (among u.classes) f.class (behind n);
    selector = widened-in (among u.selectors) f.selector (behind n);
    shared = widened-in (among_pairs u.shared) f.shared (behind_pair n);
    instance = widened-in (among_pairs u.instance) f.instance (name_behind n);
    class_side = widened-in (among_pairs u.class_side) f.class_side (name_behind n);
  }

  -- the maps on names of variables that are in use in some class, and all other names behind zeros
  abbrev pub widened_alike : ℕ → NameMaps
  widened_alike n = record (widened n) {
    instance = λ k. widened_by (among_seconds u.instance) (λ x. f.instance ([], x)) (behind n) k.1;
    class_side = λ k. widened_by (among_seconds u.class_side) (λ x. f.class_side ([], x)) (behind n) k.1;
  }

  -- the words of the language are kept
  pub alike-words : HasWords u → KeepsWords f → (n : ℕ) → KeepsWords (widened_alike n)
  alike-words has keeps n =
      let w = widened-words has keeps n in
      record { nothing = w.nothing; classes = w.classes; one_block = w.one_block; two_blocks = w.two_blocks; loops = w.loops }

  -- variables are called the same after in all classes
  pub alike-same : (n : ℕ) → IsSameInAllClasses (widened_alike n)
  alike-same n = record { instance = λ c d x. refl; class_side = λ c d x. refl }

  module _ (alike : IsSameInAllClasses f) where
    -- they agree on names in use
    pub alike-on : (n : ℕ) → AgreesOn u f (widened_alike n)
    alike-on n =
        let w = widened-on n in
        record {
          class = w.class;
          selector = w.selector;
          shared = w.shared;
          instance = λ k t. widened-in (among_seconds u.instance) (λ x. f.instance ([], x)) (behind n) k.1 (pair-second u.instance k t) ∙ alike.instance [] k.0 k.1;
          class_side = λ k t. widened-in (among_seconds u.class_side) (λ x. f.class_side ([], x)) (behind n) k.1 (pair-second u.class_side k t) ∙ alike.class_side [] k.0 k.1;
        }

    -- no two names come to be the same
    pub alike-single : IsOneToOneOn u f → IsOneToOneAcross u f → (n : ℕ) → enough ≤ n → IsOneToOne (widened_alike n)
    alike-single one across n h =
        let w = widened-single one n h in
        record {
          class = w.class;
          selector = w.selector;
          shared = w.shared;
          instance = λ c x y e.
              widened-one (among_seconds u.instance) (λ z. f.instance ([], z)) (behind n) x y
              (λ s t q. let k = second-pair u.instance x s in let l = second-pair u.instance y t in sym k.1 ∙ across.instance k.0 l.0 k.2 l.2 (called-in k.0 x k.1 ∙ q ∙ sym (called-in l.0 y l.1)) ∙ l.1)
              (behind-one n x y)
              (λ s q. let k = second-pair u.instance x s in fresh-instance n h k.0 y k.2 (called-in k.0 x k.1 ∙ q))
              (λ s q. let k = second-pair u.instance y s in fresh-instance n h k.0 x k.2 (called-in k.0 y k.1 ∙ q))
              e;
          class_side = λ c x y e.
              widened-one (among_seconds u.class_side) (λ z. f.class_side ([], z)) (behind n) x y
              (λ s t q. let k = second-pair u.class_side x s in let l = second-pair u.class_side y t in sym k.1 ∙ across.class_side k.0 l.0 k.2 l.2 (called-on k.0 x k.1 ∙ q ∙ sym (called-on l.0 y l.1)) ∙ l.1)
              (behind-one n x y)
              (λ s q. let k = second-pair u.class_side x s in fresh-class_side n h k.0 y k.2 (called-on k.0 x k.1 ∙ q))
              (λ s q. let k = second-pair u.class_side y s in fresh-class_side n h k.0 x k.2 (called-on k.0 y k.1 ∙ q))
              e;
        }
      where
        -- what a variable of a class is called, by its name
        called-in : (k : OfClass) (x : Name) → k.1 ≡ x → f.instance k ≡ f.instance ([], x)
        called-in k x e = alike.instance k.0 [] k.1 ∙ ap (λ z. f.instance ([], z)) e

        called-on : (k : OfClass) (x : Name) → k.1 ≡ x → f.class_side k ≡ f.class_side ([], x)
        called-on k x e = alike.class_side k.0 [] k.1 ∙ ap (λ z. f.class_side ([], z)) e
