-- Chains in parts: where no variable stands twice below a class, one does if and only if one stands twice on its own chain, or a class below it defines one that stands there.
use Rattle.std.proofs.Common.{◌≡◌, ◌⊎◌, inl, inr, ℕ, zero, suc, ◌<◌, Bool, true, false, not, cond, List, [], ◌∷◌, ◌++◌, length, filter, Option, Some, None, slice_get, nat_eq, refl, sym, ap, ◌∙◌, true≢false, arith}
use Rattle.std.specs.Prelude.{◌||◌, ◌&&◌, if◌then◌else◌, drop, is_some, unwrap_or}
use Rattle.std.specs.List.{list_any, flat_map, AllByRecursion}
use Rattle.std.proofs.lemmas.Grind.{flat_map-append}
use Rattle.std.proofs.lemmas.List.Folds.{list_any-append}
use Rattle.image_model.specs.Image.{ClassOf}
use Rattle.image_model.specs.Chain.{class_named, superclass_of, chain_from}
use Rattle.image_model.specs.Means.{VariableKind, variables}
use Rattle.image_model.proofs.ChainLemmas.{superclass_before, chain_from-step}
use Rattle.image_model.proofs.Ends.{find-place}
use Rattle.image_model.proofs.UpwardsLemmas.{upwards-none}
use Rattle.file_model.specs.Hierarchy.{has_repeat, stands_in, chain_variables, tree_below, stands_twice}
use Rattle.file_laws.proofs.Redefined.{named_at}
use Rattle.image_draft.specs.Names.{AreOrdered}
use Rattle.image_draft.specs.NameSets.{has}
use Rattle.image_draft.specs.Parts.{part_below, PartsOnce, brings, marked}
use Rattle.image_draft.specs.Table.{place_in}
use Rattle.image_draft.proofs.Numbers.{nat_itself, nat_equal}
use Rattle.image_draft.proofs.Beside.{or_false, finds, all_place, all_places}
use Rattle.image_draft.proofs.Ordered.{once_of}
use Rattle.image_draft.proofs.Sound.{never_both}
use Rattle.image_draft.proofs.Places.{placed, stands-at}
use Rattle.image_draft.proofs.Marks.{twice_none, tree_told}

-- whether one of these names is one of those
abbrev pub among : List ℕ → List ℕ → Bool
among ys xs = list_any (λ x. list_any (nat_eq x) ys) xs

or_none : (b : Bool) → (b || false) ≡ b
or_none true = refl
or_none false = refl

-- a name stands twice in two lists behind one another
pub repeat_append : (xs ys : List ℕ) → has_repeat nat_eq (xs ++ ys) ≡ (has_repeat nat_eq xs || (has_repeat nat_eq ys || among ys xs))
repeat_append [] ys = sym (or_none (has_repeat nat_eq ys))
repeat_append (x ∷ xs) ys =
    (λ i. list_any-append (nat_eq x) xs ys i || repeat_append xs ys i)
    ∙ by (list_any (nat_eq x) xs) (list_any (nat_eq x) ys) (has_repeat nat_eq xs) (has_repeat nat_eq ys) (among ys xs)
  where
    by : (a b c d e : Bool) → ((a || b) || (c || (d || e))) ≡ ((a || c) || (d || (b || e)))
    by true b c d e = refl
    by false true true d e = refl
    by false true false true e = refl
    by false true false false e = refl
    by false false c d e = refl

-- so none does in the first where none does in both
pub repeat_front : (xs ys : List ℕ) → has_repeat nat_eq (xs ++ ys) ≡ false → has_repeat nat_eq xs ≡ false
repeat_front xs ys h = (or_false (has_repeat nat_eq xs) (has_repeat nat_eq ys || among ys xs) (sym (repeat_append xs ys) ∙ h)).0

-- the names that some items give
among_given : {X : Type 0} (v : X → List ℕ) (ys : List ℕ) (xs : List X) → among ys (flat_map v xs) ≡ list_any (λ x. among ys (v x)) xs
among_given v ys [] = refl
among_given v ys (x ∷ xs) = list_any-append (λ n. list_any (nat_eq n) ys) (v x) (flat_map v xs) ∙ ap (λ b. among ys (v x) || b) (among_given v ys xs)

-- two tests of which neither fails alone
alike : (a b : Bool) → (b ≡ false → a ≡ false) → (a ≡ false → b ≡ false) → a ≡ b
alike true true f g = refl
alike true false f g = f refl
alike false true f g = sym (g refl)
alike false false f g = refl

-- where none passes one test and another, none of those that pass the one passes the other
neither_both : {X : Type 0} (q p : X → Bool) (xs : List X) → AllByRecursion (λ x. p x ≡ true → q x ≡ false) xs → list_any q (filter p xs) ≡ false
neither_both q p [] all = refl
neither_both q p (x ∷ xs) all = by (p x) refl (neither_both q p xs all.1)
  where
    by : (b : Bool) → p x ≡ b → list_any q (filter p xs) ≡ false → list_any q (cond b (x ∷ filter p xs) (filter p xs)) ≡ false
    by true e rest = ap (λ b. b || list_any q (filter p xs)) (all.0 e) ∙ rest
    by false e rest = rest

-- what one stands above
abbrev chain : List (ClassOf ℕ) → ClassOf ℕ → List (ClassOf ℕ)
chain cs c = chain_from nat_eq cs (Some c)

-- whether a class is that of a name or stands below it
abbrev in_tree : List (ClassOf ℕ) → ℕ → ClassOf ℕ → Bool
in_tree cs n c = stands_in nat_eq n (chain cs c)

-- the superclass of a class below that of a name
record IsUnder (cs : List (ClassOf ℕ)) (n k : ℕ) (d : ClassOf ℕ) : Type 0 where
  place : ℕ
  above : ClassOf ℕ
  less : place < k
  at : slice_get cs place ≡ Some above
  below : in_tree cs n above ≡ true
  other : nat_eq n d.name ≡ false
  up : chain cs d ≡ d ∷ chain cs above

module _ (cs : List (ClassOf ℕ)) (o : AreOrdered cs) (n : ℕ) where
  -- the part of the chain of a class
  abbrev part : ClassOf ℕ → List (ClassOf ℕ)
  part d = part_below n (chain cs d)

  -- a class of the tree has the name, or its superclass is of the tree
  step : (k : ℕ) (d : ClassOf ℕ) → slice_get cs k ≡ Some d → in_tree cs n d ≡ true → (nat_eq n d.name ≡ true) ⊎ IsUnder cs n k d
  step k d at h = by (nat_eq n d.name) refl
    where
      whole : chain cs d ≡ d ∷ chain_from nat_eq cs (superclass_of nat_eq cs d)
      whole = chain_from-step nat_eq nat_itself cs o.before k d at

      rest : nat_eq n d.name ≡ false → stands_in nat_eq n (chain_from nat_eq cs (superclass_of nat_eq cs d)) ≡ true
      rest e = sym (ap (λ b. b || stands_in nat_eq n (chain_from nat_eq cs (superclass_of nat_eq cs d))) e) ∙ sym (ap (stands_in nat_eq n) whole) ∙ h

      higher : nat_eq n d.name ≡ false → (q : Option (ClassOf ℕ)) → superclass_of nat_eq cs d ≡ q → IsUnder cs n k d
      higher e None u =
          absurd (true≢false (sym (rest e) ∙ ap (λ (q : Option (ClassOf ℕ)). stands_in nat_eq n (chain_from nat_eq cs q)) u ∙ ap (stands_in nat_eq n) (upwards-none (superclass_of nat_eq cs) (length cs))))
      higher e (Some x) u =
          let there = superclass_before nat_eq nat_itself cs o.before k d x at u in
          record {
            place = there.0;
            above = x;
            less = there.1;
            at = there.2;
            below = sym (ap (λ (q : Option (ClassOf ℕ)). stands_in nat_eq n (chain_from nat_eq cs q)) u) ∙ rest e;
            other = e;
            up = whole ∙ ap (λ (q : Option (ClassOf ℕ)). d ∷ chain_from nat_eq cs q) u;
          }

      by : (b : Bool) → nat_eq n d.name ≡ b → (nat_eq n d.name ≡ true) ⊎ IsUnder cs n k d
      by true e = inl e
      by false e = inr (higher e (superclass_of nat_eq cs d) refl)

  -- the part of the class of the name is empty, and that of another one is the class and the part above it
  part_none : (k : ℕ) (d : ClassOf ℕ) → slice_get cs k ≡ Some d → nat_eq n d.name ≡ true → part d ≡ []
  part_none k d at e =
      ap (part_below n) (chain_from-step nat_eq nat_itself cs o.before k d at)
      ∙ ap (λ (b : Bool). if b then [] else d ∷ part_below n (chain_from nat_eq cs (superclass_of nat_eq cs d))) e

  part_more : (k : ℕ) (d : ClassOf ℕ) (u : IsUnder cs n k d) → part d ≡ d ∷ part u.above
  part_more k d u = ap (part_below n) u.up ∙ ap (λ (b : Bool). if b then [] else d ∷ part u.above) u.other

  module _ (kind : VariableKind) (first : ClassOf ℕ) (found : class_named nat_eq cs n ≡ Some first) where
    same_class : (k : ℕ) (d : ClassOf ℕ) → slice_get cs k ≡ Some d → nat_eq n d.name ≡ true → first ≡ d
    same_class k d at e = one (sym found ∙ ap (class_named nat_eq cs) (nat_equal n d.name e) ∙ named_at nat_eq nat_itself nat_equal cs k d (once_of cs o.differ) at)
      where
        one : Some first ≡ Some d → first ≡ d
        one q = cc

    -- a chain is its part and the chain of the class of the name
    in_parts : (bound k : ℕ) (d : ClassOf ℕ) → k < bound → slice_get cs k ≡ Some d → in_tree cs n d ≡ true → chain cs d ≡ part d ++ chain cs first
    in_parts zero k d less at h = absurd (omega (arith, less))
    in_parts (suc bound) k d less at h = by (step k d at h) (λ i x l a b. in_parts bound i x l a b)
      where
        by : (nat_eq n d.name ≡ true) ⊎ IsUnder cs n k d → ((i : ℕ) (x : ClassOf ℕ) → i < bound → slice_get cs i ≡ Some x → in_tree cs n x ≡ true → chain cs x ≡ part x ++ chain cs first) → chain cs d ≡ part d ++ chain cs first
        by (inl e) higher = sym (ap (chain cs) (same_class k d at e)) ∙ sym (ap (λ (xs : List (ClassOf ℕ)). xs ++ chain cs first) (part_none k d at e))
        by (inr u) higher =
            u.up
            ∙ ap (λ (xs : List (ClassOf ℕ)). d ∷ xs) (higher u.place u.above (let lower : u.place < k = u.less in omega (arith, less, lower)) u.at u.below)
            ∙ sym (ap (λ (xs : List (ClassOf ℕ)). xs ++ chain cs first) (part_more k d u))

    -- the variables on the chain of the class of the name
    abbrev own : List ℕ
    own = chain_variables nat_eq cs kind first

    -- whether a class defines one of them
    abbrev defines : ClassOf ℕ → Bool
    defines d = among own (variables kind d)

    module _ (parts : PartsOnce cs kind n) where
      repeats : (k : ℕ) (d : ClassOf ℕ) → slice_get cs k ≡ Some d → in_tree cs n d ≡ true → has_repeat nat_eq (chain_variables nat_eq cs kind d) ≡ (has_repeat nat_eq own || list_any defines (part d))
      repeats k d at h =
          ap (λ (xs : List (ClassOf ℕ)). has_repeat nat_eq (flat_map (variables kind) xs)) (in_parts (suc k) k d (omega arith) at h)
          ∙ ap (has_repeat nat_eq) (flat_map-append (variables kind) (part d) (chain cs first))
          ∙ repeat_append (flat_map (variables kind) (part d)) own
          ∙ ap (λ b. b || (has_repeat nat_eq own || among own (flat_map (variables kind) (part d))))
          (all_place (λ (c : ClassOf ℕ). has_repeat nat_eq (flat_map (variables kind) (part c)) ≡ false) cs k d parts at)
          ∙ ap (λ b. has_repeat nat_eq own || b) (among_given (variables kind) own (part d))

      -- whether a class of another name brings one of them
      abbrev brings_own : ClassOf ℕ → Bool
      brings_own d = brings n kind (λ s. list_any (nat_eq s) own) d

      -- where no class of the tree brings one, none of a part defines one
      none_defines : AllByRecursion (λ (c : ClassOf ℕ). in_tree cs n c ≡ true → brings_own c ≡ false) cs → (bound k : ℕ) (d : ClassOf ℕ) → k < bound → slice_get cs k ≡ Some d → in_tree cs n d ≡ true → list_any defines (part d) ≡ false
      none_defines none zero k d less at h = absurd (omega (arith, less))
      none_defines none (suc bound) k d less at h = by (step k d at h) (λ i x l a b. none_defines none bound i x l a b)
        where
          by : (nat_eq n d.name ≡ true) ⊎ IsUnder cs n k d → ((i : ℕ) (x : ClassOf ℕ) → i < bound → slice_get cs i ≡ Some x → in_tree cs n x ≡ true → list_any defines (part x) ≡ false) → list_any defines (part d) ≡ false
          by (inl e) higher = ap (list_any defines) (part_none k d at e)
          by (inr u) higher =
              ap (list_any defines) (part_more k d u)
              ∙ ap (λ b. b || list_any defines (part u.above)) (sym (ap (λ b. not b && defines d) u.other) ∙ all_place (λ (c : ClassOf ℕ). in_tree cs n c ≡ true → brings_own c ≡ false) cs k d none at h)
              ∙ higher u.place u.above (let lower : u.place < k = u.less in omega (arith, less, lower)) u.at u.below

      -- and a class of the tree that brings one is itself of its part
      brings_none : (k : ℕ) (d : ClassOf ℕ) → slice_get cs k ≡ Some d → in_tree cs n d ≡ true → list_any defines (part d) ≡ false → brings_own d ≡ false
      brings_none k d at h none = by (step k d at h)
        where
          by : (nat_eq n d.name ≡ true) ⊎ IsUnder cs n k d → brings_own d ≡ false
          by (inl e) = ap (λ b. not b && defines d) e
          by (inr u) =
              ap (λ b. not b && defines d) u.other
              ∙ (or_false (defines d) (list_any defines (part u.above)) (sym (ap (list_any defines) (part_more k d u)) ∙ none)).0

      -- a variable stands twice where a class of another name brings one
      twice_brings : has_repeat nat_eq own ≡ false → stands_twice nat_eq cs kind n ≡ list_any brings_own (tree_below nat_eq cs n)
      twice_brings once = alike (stands_twice nat_eq cs kind n) (list_any brings_own (tree_below nat_eq cs n)) none_twice none_brings
        where
          none_twice : list_any brings_own (tree_below nat_eq cs n) ≡ false → stands_twice nat_eq cs kind n ≡ false
          none_twice h =
              let none = never_both brings_own (in_tree cs n) cs h in
              neither_both (λ (c : ClassOf ℕ). has_repeat nat_eq (chain_variables nat_eq cs kind c)) (in_tree cs n) cs
              (all_places (λ (c : ClassOf ℕ). in_tree cs n c ≡ true → has_repeat nat_eq (chain_variables nat_eq cs kind c) ≡ false) cs
              (λ k d at. λ below. repeats k d at below ∙ ap (λ b. b || list_any defines (part d)) once ∙ none_defines none (suc k) k d (omega arith) at below))

          none_brings : stands_twice nat_eq cs kind n ≡ false → list_any brings_own (tree_below nat_eq cs n) ≡ false
          none_brings h =
              let none = never_both (λ (c : ClassOf ℕ). has_repeat nat_eq (chain_variables nat_eq cs kind c)) (in_tree cs n) cs h in
              neither_both brings_own (in_tree cs n) cs
              (all_places (λ (c : ClassOf ℕ). in_tree cs n c ≡ true → brings_own c ≡ false) cs
              (λ k d at. λ below.
              brings_none k d at below
              (or_false (has_repeat nat_eq own) (list_any defines (part d))
              (sym (repeats k d at below) ∙ all_place (λ (c : ClassOf ℕ). in_tree cs n c ≡ true → has_repeat nat_eq (chain_variables nat_eq cs kind c) ≡ false) cs k d none at below)).1))

    -- and where one stands twice on the chain of the class of the name
    twice_own : has_repeat nat_eq own ≡ true → stands_twice nat_eq cs kind n ≡ true
    twice_own twice = by (stands_twice nat_eq cs kind n) refl
      where
        place : (k : ℕ) × (slice_get cs k ≡ Some first)
        place = find-place (λ (c : ClassOf ℕ). nat_eq n c.name) cs first found

        below : in_tree cs n first ≡ true
        below =
            ap (stands_in nat_eq n) (chain_from-step nat_eq nat_itself cs o.before place.0 first place.1)
            ∙ ap (λ b. b || stands_in nat_eq n (chain_from nat_eq cs (superclass_of nat_eq cs first))) (finds (λ (c : ClassOf ℕ). nat_eq n c.name) cs first found)

        by : (b : Bool) → stands_twice nat_eq cs kind n ≡ b → b ≡ true
        by true e = refl
        by false e =
            absurd (true≢false (sym twice
            ∙ all_place (λ (c : ClassOf ℕ). in_tree cs n c ≡ true → has_repeat nat_eq (chain_variables nat_eq cs kind c) ≡ false) cs place.0 first
            (never_both (λ (c : ClassOf ℕ). has_repeat nat_eq (chain_variables nat_eq cs kind c)) (in_tree cs n) cs e) place.1 below))

pub repeats_twice : (cs : List (ClassOf ℕ)) (kind : VariableKind) (n : ℕ) (c : ClassOf ℕ) → AreOrdered cs → class_named nat_eq cs n ≡ Some c → has_repeat nat_eq (chain_variables nat_eq cs kind c) ≡ true → true ≡ stands_twice nat_eq cs kind n
repeats_twice cs kind n c o found twice = sym (twice_own cs o n kind c found twice)

-- no class has the name
pub none_twice : (cs : List (ClassOf ℕ)) (kind : VariableKind) (n : ℕ) → AreOrdered cs → class_named nat_eq cs n ≡ None → false ≡ stands_twice nat_eq cs kind n
none_twice cs kind n o none = twice_none cs kind n o (by (place_in cs n) refl)
  where
    by : (q : Option ℕ) → place_in cs n ≡ q → q ≡ None
    by None e = refl
    by (Some k) e =
        let at = placed (λ (c : ClassOf ℕ). nat_eq n c.name) cs k e in
        absurd (true≢false (sym (stands-at n cs k at.0 at.1 at.2) ∙ ap is_some none))

-- what one pass from the class of the name on finds, by a test of the variables on its chain
pub passed_twice : (cs rest : List (ClassOf ℕ)) (kind : VariableKind) (n : ℕ) (c : ClassOf ℕ) (f : ℕ → Bool) → AreOrdered cs → PartsOnce cs kind n → class_named nat_eq cs n ≡ Some c
    → has_repeat nat_eq (chain_variables nat_eq cs kind c) ≡ false → ((m : ℕ) → f m ≡ list_any (nat_eq m) (chain_variables nat_eq cs kind c))
    → rest ≡ drop (unwrap_or (place_in cs n) 0) cs → list_any (brings n kind f) (marked n (has []) rest) ≡ stands_twice nat_eq cs kind n
passed_twice cs rest kind n c f o parts found once told behind =
    (λ i. list_any (brings n kind (λ m. told m i)) (marked n (has []) (behind i)))
    ∙ ap (list_any (brings n kind (λ m. list_any (nat_eq m) (chain_variables nat_eq cs kind c)))) (tree_told cs n o)
    ∙ sym (twice_brings cs o n kind c found parts once)
