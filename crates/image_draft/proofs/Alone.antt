-- Where a class that keeps its superclass, or is new, has variables that no other class has, no variable stands twice on a chain.
use Rattle.std.proofs.Common.{◌≡◌, ◌⊎◌, inl, inr, ℕ, zero, suc, ◌<◌, Bool, true, false, List, [], ◌∷◌, ◌++◌, length, map, is_some, Option, Some, None, IfSome, slice_get, nat_eq, refl, sym, ap, subst, ◌∙◌, true≢false, arith}
use Rattle.std.specs.Prelude.{◌&&◌, ◌||◌, if◌then◌else◌}
use Rattle.std.specs.List.{list_any, flat_map, AllByRecursion}
use Rattle.std.proofs.lemmas.List.Folds.{list_any-append}
use Rattle.std.proofs.lemmas.Option.{slice_get_within}
use Rattle.image_model.specs.Image.{ClassOf}
use Rattle.image_model.specs.Chain.{class_named, superclass_of, chain_from}
use Rattle.image_model.specs.Means.{VariableKind, of_instance, of_class_side, variables}
use Rattle.image_model.specs.Replaced.{KeepsHierarchy}
use Rattle.image_model.proofs.ChainLemmas.{superclass_before, chain_from-step}
use Rattle.image_model.proofs.Ends.{slice_get-end, slice_get-front, all-end}
use Rattle.image_model.proofs.Kept.{chain_from-kept}
use Rattle.image_model.proofs.Lists.{all-both, all-implies, all-map}
use Rattle.image_model.proofs.UpwardsLemmas.{upwards-none}
use Rattle.file_model.specs.Changes.{DefinitionOf}
use Rattle.file_model.specs.Hierarchy.{has_repeat, settled, stands_twice}
use Rattle.file_model.specs.Applied.{changed_class, class_again, new_class, with_definition, defined}
use Rattle.file_laws.proofs.Redefined.{named_at}
use Rattle.file_laws.proofs.Repeats.{none_pass}
use Rattle.image_draft.specs.NameSets.{has}
use Rattle.image_draft.specs.Names.{AreOrdered}
use Rattle.image_draft.specs.Once.{NoneTwice, AreSound, StaysUnder}
use Rattle.image_draft.specs.Owners.{is_noted_for, AreNoted, AreAlone, KeepsNotes}
use Rattle.image_draft.specs.declared.owners.VariableOwners.{VariableOwners}
use Rattle.image_draft.proofs.Apart.{above, above_noted, none_named, none_given, own_once, one_owner}
use Rattle.image_draft.proofs.Beside.{or_false, all_place, all_places, chain_outside, new_beside}
use Rattle.image_draft.proofs.Numbers.{nat_itself, nat_equal}
use Rattle.image_draft.proofs.Ordered.{IsLet, once_of, defined_ordered}
use Rattle.image_draft.proofs.Owned.{IsNotedOf, noted_still}
use Rattle.image_draft.proofs.Parts.{repeat_append}
use Rattle.image_draft.proofs.Sound.{Once, each_once, none_of, none_stands, others_above, none_earlier, moved, kept_free}

-- both of two tests pass
pub and_true : (a b : Bool) → (a && b) ≡ true → (a ≡ true) × (b ≡ true)
and_true true b h = (refl, h)
and_true false b h = absurd (true≢false (sym h))

-- none of these names is one of those
abbrev pub NoneAmong : List ℕ → List ℕ → Type 0
NoneAmong ys xs = AllByRecursion (λ x. list_any (nat_eq x) ys ≡ false) xs

none_among_none : (xs : List ℕ) → NoneAmong [] xs
none_among_none [] = tt
none_among_none (x ∷ xs) = (refl, none_among_none xs)

-- of two lists behind one another
among_both : (ys zs xs : List ℕ) → NoneAmong ys xs → NoneAmong zs xs → NoneAmong (ys ++ zs) xs
among_both ys zs [] a b = tt
among_both ys zs (x ∷ xs) a b = (list_any-append (nat_eq x) ys zs ∙ (λ i. a.0 i || b.0 i), among_both ys zs xs a.1 b.1)

among_parts : (ys zs xs : List ℕ) → NoneAmong (ys ++ zs) xs → NoneAmong ys xs × NoneAmong zs xs
among_parts ys zs [] a = (tt, tt)
among_parts ys zs (x ∷ xs) a =
    let here = or_false (list_any (nat_eq x) ys) (list_any (nat_eq x) zs) (sym (list_any-append (nat_eq x) ys zs) ∙ a.0) in
    let rest = among_parts ys zs xs a.1 in
    ((here.0, rest.0), (here.1, rest.1))

module _ (t : VariableOwners) where
  -- variables of a class that no other class has are none of another class
  alone_among : (a b : ℕ) → nat_eq a b ≡ false → (xs ys : List ℕ) → AreAlone t a xs → AllByRecursion (λ y. is_noted_for t b y ≡ true) ys → NoneAmong ys xs
  alone_among a b differ [] ys alone noted = tt
  alone_among a b differ (x ∷ xs) ys alone noted = (none_named t a b x alone.0.0 differ alone.0.1 ys noted, alone_among a b differ xs ys alone.1 noted)

  -- and the other way round
  among_alone : (a b : ℕ) → nat_eq a b ≡ false → (xs ys : List ℕ) → AllByRecursion (λ x. is_noted_for t a x ≡ true) xs → AreAlone t b ys → NoneAmong ys xs
  among_alone a b differ [] ys noted alone = tt
  among_alone a b differ (x ∷ xs) ys noted alone = (none ys alone, among_alone a b differ xs ys noted.1 alone)
    where
      none : (zs : List ℕ) → AreAlone t b zs → list_any (nat_eq x) zs ≡ false
      none [] all = refl
      none (z ∷ zs) all = ap (λ (s : Bool). s || list_any (nat_eq x) zs) (by (nat_eq x z) refl) ∙ none zs all.1
        where
          by : (s : Bool) → nat_eq x z ≡ s → s ≡ false
          by false e = refl
          by true e = absurd (true≢false (sym (one_owner t a b z all.0.0 (ap (is_noted_for t a) (sym (nat_equal x z e)) ∙ noted.0) all.0.1) ∙ differ))

-- a class is changed and keeps its name and its superclass
module _ (t : VariableOwners) (kind : VariableKind) (cs : List (ClassOf ℕ)) (o : AreOrdered cs) (noted : AreNoted t kind cs) (none : NoneTwice cs kind)
    (n : ℕ) (g : ClassOf ℕ → ClassOf ℕ) (keeps : (c : ClassOf ℕ) → (g c).name ≡ c.name) (own : List ℕ) (has_own : (c : ClassOf ℕ) → variables kind (g c) ≡ own) (alone : AreAlone t n own) (once : has_repeat nat_eq own ≡ false)
    (first : ClassOf ℕ) (found : class_named nat_eq cs n ≡ Some first) (under : (g first).superclass ≡ first.superclass) where
  abbrev h : ClassOf ℕ → ClassOf ℕ
  h c = if nat_eq n c.name then g c else c

  the_first : (k : ℕ) (c : ClassOf ℕ) → slice_get cs k ≡ Some c → nat_eq n c.name ≡ true → first ≡ c
  the_first k c at e = one (sym found ∙ ap (class_named nat_eq cs) (nat_equal n c.name e) ∙ named_at nat_eq nat_itself nat_equal cs k c (once_of cs o.differ) at)
    where
      one : Some first ≡ Some c → first ≡ c
      one q = cc

  keeps_at : (k : ℕ) (c : ClassOf ℕ) → slice_get cs k ≡ Some c → KeepsHierarchy h c
  keeps_at k c at = record { name = named (nat_eq n c.name); superclass = higher (nat_eq n c.name) refl }
    where
      named : (b : Bool) → (if b then g c else c).name ≡ c.name
      named true = keeps c
      named false = refl

      higher : (b : Bool) → nat_eq n c.name ≡ b → (if b then g c else c).superclass ≡ c.superclass
      higher true e = subst (λ (d : ClassOf ℕ). (g d).superclass ≡ d.superclass) (the_first k c at e) under
      higher false e = refl

  -- what two classes have is still not the same
  still_apart : (c e : ClassOf ℕ) → nat_eq c.name e.name ≡ false → IsNotedOf t kind c → IsNotedOf t kind e → NoneAmong (variables kind e) (variables kind c) → NoneAmong (variables kind (h e)) (variables kind (h c))
  still_apart c e differ here there old = by (nat_eq n c.name) refl (nat_eq n e.name) refl
    where
      by : (a : Bool) → nat_eq n c.name ≡ a → (b : Bool) → nat_eq n e.name ≡ b → NoneAmong (variables kind (if b then g e else e)) (variables kind (if a then g c else c))
      by true p true q = absurd (true≢false (sym q ∙ ap (λ (m : ℕ). nat_eq m e.name) (nat_equal n c.name p) ∙ differ))
      by true p false q =
          subst (NoneAmong (variables kind e)) (sym (has_own c)) (alone_among t n e.name q own (variables kind e) alone there)
      by false p true q =
          subst (λ (ys : List ℕ). NoneAmong ys (variables kind c)) (sym (has_own e))
          (among_alone t c.name n (ap (nat_eq c.name) (nat_equal n e.name q) ∙ differ) (variables kind c) own here alone)
      by false p false q = old

  all_apart : (c : ClassOf ℕ) → IsNotedOf t kind c → (ds : List (ClassOf ℕ)) → AllByRecursion (λ (e : ClassOf ℕ). IsNotedOf t kind e × (nat_eq c.name e.name ≡ false)) ds → NoneAmong (flat_map (variables kind) ds) (variables kind c)
      → NoneAmong (flat_map (variables kind) (map h ds)) (variables kind (h c))
  all_apart c here [] all old = none_among_none (variables kind (h c))
  all_apart c here (e ∷ es) all old =
      let parts = among_parts (variables kind e) (flat_map (variables kind) es) (variables kind c) old in
      among_both (variables kind (h e)) (flat_map (variables kind) (map h es)) (variables kind (h c)) (still_apart c e all.0.1 here all.0.0 parts.0) (all_apart c here es all.1 parts.1)

  own_again : (k : ℕ) (c : ClassOf ℕ) → slice_get cs k ≡ Some c → has_repeat nat_eq (variables kind (h c)) ≡ false
  own_again k c at = by (nat_eq n c.name)
    where
      by : (b : Bool) → has_repeat nat_eq (variables kind (if b then g c else c)) ≡ false
      by true = ap (has_repeat nat_eq) (has_own c) ∙ once
      by false = all_place (λ (d : ClassOf ℕ). has_repeat nat_eq (variables kind d) ≡ false) cs k c (own_once cs kind o none) at

  -- what stood above a class was not its own
  above_apart : (k : ℕ) (c : ClassOf ℕ) → slice_get cs k ≡ Some c → NoneAmong (flat_map (variables kind) (above cs c)) (variables kind c)
  above_apart k c at =
      none_pass (λ x. list_any (nat_eq x) (flat_map (variables kind) (above cs c))) (variables kind c)
      (or_false (has_repeat nat_eq (flat_map (variables kind) (above cs c))) (list_any (λ x. list_any (nat_eq x) (flat_map (variables kind) (above cs c))) (variables kind c))
      (or_false (has_repeat nat_eq (variables kind c)) _
      (sym (repeat_append (variables kind c) (flat_map (variables kind) (above cs c)))
      ∙ sym (ap (λ (ds : List (ClassOf ℕ)). has_repeat nat_eq (flat_map (variables kind) ds)) (chain_from-step nat_eq nat_itself cs o.before k c at)) ∙ all_place (Once cs kind) cs k c (each_once cs kind none) at)).1).1

  chain_again : (bound k : ℕ) (c : ClassOf ℕ) → k < bound → slice_get cs k ≡ Some c → has_repeat nat_eq (flat_map (variables kind) (map h (chain_from nat_eq cs (Some c)))) ≡ false
  chain_again zero k c less at = absurd (omega (arith, less))
  chain_again (suc bound) k c less at =
      ap (λ (ds : List (ClassOf ℕ)). has_repeat nat_eq (flat_map (variables kind) (map h ds))) (chain_from-step nat_eq nat_itself cs o.before k c at)
      ∙ repeat_append (variables kind (h c)) (flat_map (variables kind) (map h (above cs c)))
      ∙ (λ i. own_again k c at i || (higher (superclass_of nat_eq cs c) refl (λ j x l a. chain_again bound j x l a) i || among i))
    where
      among : list_any (λ x. list_any (nat_eq x) (flat_map (variables kind) (map h (above cs c)))) (variables kind (h c)) ≡ false
      among =
          none_stands (λ x. list_any (nat_eq x) (flat_map (variables kind) (map h (above cs c)))) (variables kind (h c))
          (all_apart c (all_place (IsNotedOf t kind) cs k c noted at) (above cs c)
          (all-both (IsNotedOf t kind) (λ (e : ClassOf ℕ). nat_eq c.name e.name ≡ false) (above cs c) (above_noted cs kind t noted c) (others_above cs o k c at)) (above_apart k c at))

      higher : (q : Option (ClassOf ℕ)) → superclass_of nat_eq cs c ≡ q → ((j : ℕ) (x : ClassOf ℕ) → j < bound → slice_get cs j ≡ Some x → has_repeat nat_eq (flat_map (variables kind) (map h (chain_from nat_eq cs (Some x)))) ≡ false)
          → has_repeat nat_eq (flat_map (variables kind) (map h (chain_from nat_eq cs q))) ≡ false
      higher None e below = ap (λ (ds : List (ClassOf ℕ)). has_repeat nat_eq (flat_map (variables kind) (map h ds))) (upwards-none (superclass_of nat_eq cs) (length cs))
      higher (Some x) e below =
          let up = superclass_before nat_eq nat_itself cs o.before k c x at e in
          below up.0 x (let lower : up.0 < k = up.1 in omega (arith, less, lower)) up.2

  pub again_once : NoneTwice (changed_class nat_eq n g cs) kind
  again_once =
      none_of (map h cs) kind
      (all-map (Once (map h cs) kind) h cs
      (all_places (λ (c : ClassOf ℕ). Once (map h cs) kind (h c)) cs
      (λ k c at.
      ap (λ (ds : List (ClassOf ℕ)). has_repeat nat_eq (flat_map (variables kind) ds)) (chain_from-kept nat_eq h cs (all_places (KeepsHierarchy h) cs keeps_at) (Some c) (keeps_at k c at))
      ∙ chain_again (suc k) k c (omega arith) at)))

-- a class is new
module _ (t : VariableOwners) (kind : VariableKind) (cs : List (ClassOf ℕ)) (c : ClassOf ℕ) (before : AreOrdered cs) (o : AreOrdered (cs ++ c ∷ [])) (noted : AreNoted t kind cs) (none : NoneTwice cs kind)
    (alone : AreAlone t c.name (variables kind c)) (once : has_repeat nat_eq (variables kind c) ≡ false) where
  abbrev new : List (ClassOf ℕ)
  new = cs ++ c ∷ []

  last : (ds : List (ClassOf ℕ)) → slice_get (ds ++ c ∷ []) (length ds) ≡ Some c
  last [] = refl
  last (x ∷ xs) = last xs

  -- chains that were there are as they were
  former_once : (k : ℕ) (d : ClassOf ℕ) → slice_get cs k ≡ Some d → Once new kind d
  former_once k d at =
      ap (λ (ds : List (ClassOf ℕ)). has_repeat nat_eq (flat_map (variables kind) ds))
      (chain_outside c.name new cs (new_beside c cs before.before) k d at (none_earlier new o c.name (length cs) c (last cs) refl d k (slice_get-front cs (c ∷ []) k d at) (slice_get_within cs k d at)))
      ∙ all_place (Once cs kind) cs k d (each_once cs kind none) at

  noted_new : AreNoted t kind new
  noted_new = all-end (IsNotedOf t kind) cs c noted (all-implies (λ m. (has t.shared m ≡ false) × (is_noted_for t c.name m ≡ true)) (λ m. is_noted_for t c.name m ≡ true) (λ m both. both.1) (variables kind c) alone)

  latest_once : Once new kind c
  latest_once =
      ap (λ (ds : List (ClassOf ℕ)). has_repeat nat_eq (flat_map (variables kind) ds)) (chain_from-step nat_eq nat_itself new o.before (length cs) c (last cs))
      ∙ repeat_append (variables kind c) (flat_map (variables kind) (above new c))
      ∙ (λ i. once i || (higher (superclass_of nat_eq new c) refl i || among i))
    where
      among : list_any (λ x. list_any (nat_eq x) (flat_map (variables kind) (above new c))) (variables kind c) ≡ false
      among =
          none_stands (λ x. list_any (nat_eq x) (flat_map (variables kind) (above new c))) (variables kind c)
          (all-implies (λ m. (has t.shared m ≡ false) × (is_noted_for t c.name m ≡ true)) (λ x. list_any (nat_eq x) (flat_map (variables kind) (above new c)) ≡ false)
          (λ m both. none_given t kind c.name m both.0 both.1 (above new c)
          (all-both (IsNotedOf t kind) (λ (e : ClassOf ℕ). nat_eq c.name e.name ≡ false) (above new c) (above_noted new kind t noted_new c) (others_above new o (length cs) c (last cs)))) (variables kind c) alone)

      higher : (q : Option (ClassOf ℕ)) → superclass_of nat_eq new c ≡ q → has_repeat nat_eq (flat_map (variables kind) (chain_from nat_eq new q)) ≡ false
      higher None e = ap (λ (ds : List (ClassOf ℕ)). has_repeat nat_eq (flat_map (variables kind) ds)) (upwards-none (superclass_of nat_eq new) (length new))
      higher (Some x) e =
          let up = superclass_before nat_eq nat_itself new o.before (length cs) c x (last cs) e in
          former up.0 up.1 (slice_get-end cs c x up.0 up.2)
        where
          former : (j : ℕ) → j < length cs → (slice_get cs j ≡ Some x) ⊎ ((j ≡ length cs) × (c ≡ x)) → Once new kind x
          former j less (inl at) = former_once j x at
          former j less (inr at) = let same : j ≡ length cs = at.0 in absurd (omega (arith, less, same))

  pub new_once : NoneTwice new kind
  new_once = none_of new kind (all_places (Once new kind) new (λ k d at. by k d (slice_get-end cs c d k at)))
    where
      by : (k : ℕ) (d : ClassOf ℕ) → (slice_get cs k ≡ Some d) ⊎ ((k ≡ length cs) × (c ≡ d)) → Once new kind d
      by k d (inl at) = former_once k d at
      by k d (inr at) = subst (Once new kind) at.1 latest_once

-- what is noted for a class, and is not shared, is its own
pub alone_of : (t : VariableOwners) (n : ℕ) (names : List ℕ) → list_any (has t.shared) names ≡ false → AllByRecursion (λ m. is_noted_for t n m ≡ true) names → AreAlone t n names
alone_of t n names unshared noted = all-both (λ m. has t.shared m ≡ false) (λ m. is_noted_for t n m ≡ true) names (none_pass (has t.shared) names unshared) noted

-- a definition of a class that is new or keeps its superclass
module _ (cs new : List (ClassOf ℕ)) (d : DefinitionOf ℕ) (kernel : Bool) (n : ℕ) (o : AreOrdered cs) (let_in : IsLet cs d) (is : new ≡ defined nat_eq kernel d cs) (named : n ≡ d.name) (stays : StaysUnder cs d)
    (kind : VariableKind) (none : NoneTwice cs kind) (t : VariableOwners) (noted : AreNoted t kind cs) where
  here : stands_twice nat_eq (with_definition nat_eq kernel d cs) kind d.name ≡ false → stands_twice nat_eq new kind n ≡ false
  here check = (λ i. stands_twice nat_eq (is i) kind (named i)) ∙ sym (moved cs d kernel o let_in kind none d.name) ∙ check

  -- a class that is there
  there_free : (own : List ℕ) → ((c : ClassOf ℕ) → variables kind (class_again d c) ≡ own) → AreAlone t d.name own → has_repeat nat_eq own ≡ false → (c : ClassOf ℕ) → class_named nat_eq cs d.name ≡ Some c → stands_twice nat_eq new kind n ≡ false
  there_free own has_own alone once c found =
      here
      (ap (λ (b : Bool). stands_twice nat_eq (if b then changed_class nat_eq d.name (class_again d) cs else cs ++ new_class kernel d ∷ []) kind d.name) (ap is_some found)
      ∙ again_once t kind cs o noted none d.name (class_again d) (λ x. refl) own has_own alone once c found (sym (subst (λ (q : Option (ClassOf ℕ)). IfSome q (λ (x : ClassOf ℕ). x.superclass ≡ d.superclass)) found stays)) d.name)

  -- a class that is not
  fresh_free : AreAlone t d.name (variables kind (new_class kernel d)) → has_repeat nat_eq (variables kind (new_class kernel d)) ≡ false → class_named nat_eq cs d.name ≡ None → stands_twice nat_eq new kind n ≡ false
  fresh_free alone once absent =
      here
      (ap (λ (ds : List (ClassOf ℕ)). stands_twice nat_eq ds kind d.name) last_is
      ∙ new_once t kind cs (new_class kernel d) o (subst AreOrdered (ap (λ (b : Bool). if b then settled nat_eq (with_definition nat_eq kernel d cs) else with_definition nat_eq kernel d cs) (ap is_some absent) ∙ last_is) (defined_ordered cs d kernel o let_in)) noted none alone once d.name)
    where
      last_is : with_definition nat_eq kernel d cs ≡ cs ++ new_class kernel d ∷ []
      last_is = ap (λ (b : Bool). if b then changed_class nat_eq d.name (class_again d) cs else cs ++ new_class kernel d ∷ []) (ap is_some absent)

-- instance variables that no other class has
pub instance_alone : (cs new : List (ClassOf ℕ)) (d : DefinitionOf ℕ) (kernel : Bool) (n : ℕ) → AreSound cs → IsLet cs d → new ≡ defined nat_eq kernel d cs → n ≡ d.name → StaysUnder cs d → (before after : VariableOwners) → KeepsNotes before after → AreNoted before of_instance cs
    → AllByRecursion (λ m. is_noted_for after d.name m ≡ true) d.instance → list_any (has after.shared) d.instance ≡ false → has_repeat nat_eq d.instance ≡ false → stands_twice nat_eq new of_instance n ≡ false
instance_alone cs new d kernel n s let_in is named stays before after kept owned noted unshared once = by (class_named nat_eq cs d.name) refl
  where
    alone : AreAlone after d.name d.instance
    alone = alone_of after d.name d.instance unshared noted

    by : (q : Option (ClassOf ℕ)) → class_named nat_eq cs d.name ≡ q → stands_twice nat_eq new of_instance n ≡ false
    by (Some c) e = there_free cs new d kernel n s.order let_in is named stays of_instance s.instance after (noted_still before after kept of_instance cs owned) d.instance (λ x. refl) alone once c e
    by None e = fresh_free cs new d kernel n s.order let_in is named stays of_instance s.instance after (noted_still before after kept of_instance cs owned) alone once e

-- class-instance variables stay as they were
pub class_side_stays : (cs new : List (ClassOf ℕ)) (d : DefinitionOf ℕ) (kernel : Bool) (n : ℕ) → AreSound cs → IsLet cs d → new ≡ defined nat_eq kernel d cs → n ≡ d.name → StaysUnder cs d → (t : VariableOwners) → AreNoted t of_class_side cs → stands_twice nat_eq new of_class_side n ≡ false
class_side_stays cs new d kernel n s let_in is named stays t owned = by (class_named nat_eq cs d.name) refl
  where
    by : (q : Option (ClassOf ℕ)) → class_named nat_eq cs d.name ≡ q → stands_twice nat_eq new of_class_side n ≡ false
    by (Some c) e =
        kept_free cs new d kernel n of_class_side s.order s.class_side let_in is named
        (record { class = c; found = e; superclass = subst (λ (q : Option (ClassOf ℕ)). IfSome q (λ (x : ClassOf ℕ). x.superclass ≡ d.superclass)) e stays; variables = refl })
    by None e = fresh_free cs new d kernel n s.order let_in is named stays of_class_side s.class_side t owned tt refl e
