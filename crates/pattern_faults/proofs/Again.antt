-- Metavariables among others, by numbers.
use Rattle.std.proofs.Common.{◌≡◌, ℕ, ◌+◌, ◌<◌, Bool, true, false, ◌&&◌, ◌||◌, List, [], ◌∷◌, ◌++◌, length, get_or, drop, map, Option, Some, refl, sym, ap, ◌∙◌}
use Rattle.std.specs.Prelude.{nat_eq, filter, reverse}
use Rattle.std.specs.List.{list_any}
use Rattle.std.proofs.lemmas.List.{reverse-append, map-append, append_assoc, drop_more}
use Rattle.std.proofs.lemmas.List.Folds.{list_any-append}
use Rattle.pattern_model.specs.Patterns.{MetaOf}
use Rattle.pattern_model.specs.Bindings.{kind_number, same_meta}
use Rattle.patterns.specs.declared.tree.Meta.{Meta}
use Rattle.patterns.specs.View.{meta_of}
use Rattle.pattern_match.proofs.Told.{one_test, number_refl, number_told}
use Rattle.pattern_trees.specs.Faults.{MetaAt, at_places, is_among, is_doubled_among, first_unknown, first_again}
use Rattle.pattern_faults.specs.declared.searching.PlacedMeta.{PlacedMeta}
use Rattle.pattern_faults.specs.Placed.{meta_at}

-- a test of what items are changed to
pub any_mapped : {X Y : Type 0} (f : X → Y) (p : Y → Bool) (xs : List X) → list_any p (map f xs) ≡ list_any (λ x. p (f x)) xs
any_mapped f p [] = refl
any_mapped f p (x ∷ xs) = ap (λ b. p (f x) || b) (any_mapped f p xs)

number_sym : (m n : ℕ) → nat_eq m n ≡ nat_eq n m
number_sym m n = one_test (nat_eq m n) (nat_eq n m) (λ e. ap (nat_eq n) (number_told m n e) ∙ number_refl n) (λ e. ap (nat_eq m) (number_told n m e) ∙ number_refl m)

meta_sym : (m n : MetaOf ℕ) → same_meta nat_eq m n ≡ same_meta nat_eq n m
meta_sym m n = λ i. number_sym (kind_number m.kind) (kind_number n.kind) i && number_sym m.name n.name i

any_same : {X : Type 0} (p q : X → Bool) → ((x : X) → p x ≡ q x) → (xs : List X) → list_any p xs ≡ list_any q xs
any_same p q h [] = refl
any_same p q h (x ∷ xs) = λ i. h x i || any_same p q h xs i

-- a test of a list turned round
or_end : (a b : Bool) → (a || (b || false)) ≡ (b || a)
or_end true true = refl
or_end true false = refl
or_end false true = refl
or_end false false = refl

any_reversed : {X : Type 0} (p : X → Bool) (xs : List X) → list_any p (reverse xs) ≡ list_any p xs
any_reversed p [] = refl
any_reversed p (x ∷ xs) = ap (list_any p) (reverse-append (x ∷ []) xs) ∙ list_any-append p (reverse xs) (x ∷ []) ∙ or_end (list_any p (reverse xs)) (p x) ∙ ap (λ b. p x || b) (any_reversed p xs)

-- one more at the end is the first, turned round
pub turned : (ms : List Meta) (m : Meta) → reverse (map meta_of (ms ++ m ∷ [])) ≡ meta_of m ∷ reverse (map meta_of ms)
turned ms m = ap (λ xs. reverse xs) (map-append meta_of ms (m ∷ [])) ∙ reverse-append (map meta_of ms) (meta_of m ∷ [])

module _ (known : List Meta) where
  abbrev doubled_there : MetaAt ℕ → Bool
  doubled_there x = is_doubled_among nat_eq (map meta_of known) x.meta

  -- the first that stands again, of those that are doubled
  abbrev pub again : List (MetaOf ℕ) → List (MetaAt ℕ) → Option ℕ
  again before xs = first_again nat_eq before (filter doubled_there xs)

  -- whether a metavariable is one of the known ones, asked of the program's
  known_told : (x : PlacedMeta) → is_among nat_eq (map meta_of known) (meta_of x.meta) ≡ list_any (λ y. same_meta nat_eq (meta_of x.meta) (meta_of y)) known
  known_told x = any_mapped meta_of (same_meta nat_eq (meta_of x.meta)) known

  doubled_told : (x : PlacedMeta) → doubled_there (meta_at x) ≡ list_any (λ y. same_meta nat_eq (meta_of x.meta) (meta_of y) && y.doubled) known
  doubled_told x = any_mapped meta_of (λ n. same_meta nat_eq (meta_of x.meta) n && n.doubled) known

  before_told : (before : List Meta) (m : MetaOf ℕ) → list_any (λ n. same_meta nat_eq n m) (reverse (map meta_of before)) ≡ list_any (λ y. same_meta nat_eq m (meta_of y)) before
  before_told before m =
      any_reversed (λ n. same_meta nat_eq n m) (map meta_of before)
      ∙ any_same (λ n. same_meta nat_eq n m) (same_meta nat_eq m) (λ n. meta_sym n m) (map meta_of before)
      ∙ any_mapped meta_of (same_meta nat_eq m) before

  module _ (xs : List PlacedMeta) (i : ℕ) where
    module _ (x : PlacedMeta) (h : i < length xs) (is : x ≡ get_or xs i x) where
      one_left : map meta_at (drop i xs) ≡ meta_at x ∷ map meta_at (drop (i + 1) xs)
      one_left = ap (λ ys. map meta_at ys) (drop_more xs i x h ∙ ap (λ (y : PlacedMeta). y ∷ drop (i + 1) xs) (sym is))

      abbrev others : List (MetaAt ℕ)
      others = map meta_at (drop (i + 1) xs)

      -- one that is known, and one that is not
      pub unknown_passed : true ≡ list_any (λ y. same_meta nat_eq (meta_of x.meta) (meta_of y)) known → first_unknown nat_eq (map meta_of known) (map meta_at (drop i xs)) ≡ first_unknown nat_eq (map meta_of known) others
      unknown_passed t = ap (first_unknown nat_eq (map meta_of known)) one_left ∙ rw (known_told x ∙ sym t) refl

      pub unknown_here : false ≡ list_any (λ y. same_meta nat_eq (meta_of x.meta) (meta_of y)) known → first_unknown nat_eq (map meta_of known) (map meta_at (drop i xs)) ≡ Some x.from
      unknown_here f = ap (first_unknown nat_eq (map meta_of known)) one_left ∙ rw (known_told x ∙ sym f) refl

      -- one that is not doubled, one that stands again, and one that does not
      pub again_passed : (before : List (MetaOf ℕ)) → false ≡ list_any (λ y. same_meta nat_eq (meta_of x.meta) (meta_of y) && y.doubled) known → again before (map meta_at (drop i xs)) ≡ again before others
      again_passed before f = ap (again before) one_left ∙ rw (doubled_told x ∙ sym f) refl

      module _ (before : List Meta) (d : true ≡ list_any (λ y. same_meta nat_eq (meta_of x.meta) (meta_of y) && y.doubled) known) where
        kept : filter doubled_there (map meta_at (drop i xs)) ≡ meta_at x ∷ filter doubled_there others
        kept = ap (filter doubled_there) one_left ∙ rw (doubled_told x ∙ sym d) refl

        pub again_here : true ≡ list_any (λ y. same_meta nat_eq (meta_of x.meta) (meta_of y)) before → again (reverse (map meta_of before)) (map meta_at (drop i xs)) ≡ Some x.from
        again_here t = ap (first_again nat_eq (reverse (map meta_of before))) kept ∙ rw (before_told before (meta_of x.meta) ∙ sym t) refl

        pub again_first : (more : List Meta) → more ≡ before ++ x.meta ∷ [] → false ≡ list_any (λ y. same_meta nat_eq (meta_of x.meta) (meta_of y)) before
            → again (reverse (map meta_of before)) (map meta_at (drop i xs)) ≡ again (reverse (map meta_of more)) others
        again_first more e f =
            ap (first_again nat_eq (reverse (map meta_of before))) kept ∙ rw (before_told before (meta_of x.meta) ∙ sym f) refl
            ∙ ap (λ bs. again bs others) (sym (ap (λ (ms : List Meta). reverse (map meta_of ms)) e ∙ turned before x.meta))

-- one more metavariable, with its place or where none is left
module _ (ms : List Meta) (i : ℕ) (m : Meta) (h : i < length ms) (is : m ≡ get_or ms i m) where
  next_meta : map meta_of (drop i ms) ≡ meta_of m ∷ map meta_of (drop (i + 1) ms)
  next_meta = ap (λ (xs : List Meta). map meta_of xs) (drop_more ms i m h ∙ ap (λ (x : Meta). x ∷ drop (i + 1) ms) (sym is))

  pub place_next : (fs rest : List ℕ) (f : ℕ) → fs ≡ f ∷ rest → at_places (map meta_of (drop i ms)) fs ≡ record { meta = meta_of m; from = f } ∷ at_places (map meta_of (drop (i + 1) ms)) rest
  place_next fs rest f e = λ j. at_places (next_meta j) (e j)

  pub place_none : (fs : List ℕ) → fs ≡ [] → at_places (map meta_of (drop i ms)) fs ≡ record { meta = meta_of m; from = 0 } ∷ at_places (map meta_of (drop (i + 1) ms)) fs
  place_none fs e = (λ j. at_places (next_meta j) (e j)) ∙ ap (λ gs. record { meta = meta_of m; from = 0 } ∷ at_places (map meta_of (drop (i + 1) ms)) gs) (sym e)

-- one more item with its place is put at the end
pub put_place : (xs ys : List PlacedMeta) (x : PlacedMeta) (rest : List (MetaAt ℕ)) → ys ≡ xs ++ x ∷ [] → map meta_at ys ++ rest ≡ map meta_at xs ++ (meta_at x ∷ rest)
put_place xs ys x rest e = ap (λ (zs : List PlacedMeta). map meta_at zs ++ rest) e ∙ ap (λ zs. zs ++ rest) (map-append meta_at xs (x ∷ [])) ∙ append_assoc (map meta_at xs) (meta_at x ∷ []) rest
