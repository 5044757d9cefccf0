-- The classes once some of them come under another one.
use Rattle.std.proofs.Common.{◌≡◌, ◌⊎◌, inl, inr, ℕ, zero, suc, ◌+◌, ◌<◌, ◌||◌, Bool, true, false, List, [], ◌∷◌, ◌++◌, length, take, get_or, append_assoc, Option, None, Some, option_map, slice_get, refl, sym, ap, subst, ◌∙◌}
use Rattle.std.specs.Prelude.{if◌then◌else◌, nat_eq}
use Rattle.std.specs.List.{list_any, filter_map, cons_option, AllByRecursion}
use Rattle.std.specs.Option.{option_and_then, option_map_or}
use Rattle.std.proofs.Math.ListN.{set}
use Rattle.std.proofs.Math.Dec.{eqb}
use Rattle.std.proofs.lemmas.Bool.Decides.{eqb_tells}
use Rattle.std.proofs.lemmas.List.{take_more}
use Rattle.std.proofs.lemmas.List.Elements.{filter_map-append}
use Rattle.std.proofs.lemmas.Option.{slice_get_within}
use Rattle.scope_model.specs.Scope.{is_among}
use Rattle.class_table.specs.declared.record.ClassRec.{ClassRec}
use Rattle.class_table.specs.Slots.{Slots}
use Rattle.class_table.specs.Valid.{IsLive}
use Rattle.class_table.specs.View.{class_name}
use Rattle.class_table.proofs.OrderLemmas.{get-set_same, get-set_other, length-set}
use Rattle.change_set.specs.declared.change.Change.{Change}
use Rattle.change_set.specs.declared.change.Change.TheVariants as change
use Rattle.change_set.specs.Changes.{all_applied, CanApplyAll}
use Rattle.class_plans.specs.Added.{record_under, moved_under}

-- the changes that were found so far
pub moves-more : (f : ℕ → Option Change) (order : List ℕ) (i k : ℕ) (before now after : List Change) → i < length order → k ≡ get_or order i k → now ≡ before ++ filter_map f (take i order) → after ≡ now ++ cons_option (f k) []
    → after ≡ before ++ filter_map f (take (i + 1) order)
moves-more f order i k before now after lt is so e =
    e ∙ ap (λ (cs : List Change). cs ++ cons_option (f k) []) so ∙ append_assoc before (filter_map f (take i order)) (cons_option (f k) [])
    ∙ ap (λ (cs : List Change). before ++ cs) (sym (ap (filter_map f) taken ∙ filter_map-append f (take i order) (k ∷ [])))
  where
    taken : take (i + 1) order ≡ take i order ++ k ∷ []
    taken = take_more order i k lt ∙ ap (λ (j : ℕ). take i order ++ j ∷ []) (sym is)

-- a record that is written and has the name that stood there
name-set : (cs : List ClassRec) (k : ℕ) (r : ClassRec) → class_name cs k ≡ Some r.name → (j : ℕ) → class_name (set cs k r) j ≡ class_name cs j
name-set [] k r h j = refl
name-set (c ∷ cs) zero r h zero = sym h
name-set (c ∷ cs) zero r h (suc j) = refl
name-set (c ∷ cs) (suc k) r h zero = refl
name-set (c ∷ cs) (suc k) r h (suc j) = name-set cs k r h j

-- the first of two that is given
abbrev pub either : Option ClassRec → Option ClassRec → Option ClassRec
either (Some r) o = Some r
either None o = o

-- what a slot holds that comes under another class
pub record IsUnder (t : Slots) (names : List ℕ) (id k : ℕ) (r : ClassRec) : Type 0 where
  pub former : ClassRec
  pub live : IsLive t.class_order k
  pub there : slice_get t.classes k ≡ Some former
  pub is : r ≡ record former { superclass = Some id }

module _ (t : Slots) (names : List ℕ) (id : ℕ) where
  abbrev under : ℕ → Option ClassRec
  under = record_under t names id

  pub is-under : (k : ℕ) (r : ClassRec) → under k ≡ Some r → IsUnder t names id k r
  is-under k r e = by (list_any (eqb k) t.class_order) refl e
    where
      test : (c : ClassRec) → slice_get t.classes k ≡ Some c → IsLive t.class_order k → (b : Bool) → (if b then Some (record c { superclass = Some id }) else None) ≡ Some r → IsUnder t names id k r
      test c f l true h = record { former = c; live = l; there = f; is = (cc) }
      test c f l false h = absurd (cc)

      some : (o : Option ClassRec) → slice_get t.classes k ≡ o → IsLive t.class_order k → option_and_then (λ (c : ClassRec). if is_among nat_eq names c.name then Some (record c { superclass = Some id }) else None) o ≡ Some r → IsUnder t names id k r
      some None f l h = absurd (cc)
      some (Some c) f l h = test c f l (is_among nat_eq names c.name) h

      by : (b : Bool) → list_any (eqb k) t.class_order ≡ b → option_and_then (λ (c : ClassRec). if is_among nat_eq names c.name then Some (record c { superclass = Some id }) else None) (if b then slice_get t.classes k else None) ≡ Some r → IsUnder t names id k r
      by true l h = some (slice_get t.classes k) refl l h
      by false l h = absurd (cc)

  -- the same name
  pub under-name : (k : ℕ) (r : ClassRec) → under k ≡ Some r → class_name t.classes k ≡ Some r.name
  under-name k r e = let u = is-under k r e in ap (option_map (λ (c : ClassRec). c.name)) u.there ∙ ap (λ (c : ClassRec). Some c.name) (sym u.is)

  -- one record that is written, if there is one, and all of them
  abbrev pub written : List ClassRec → ℕ → List ClassRec
  written cs k = option_map_or (λ r. set cs k r) (under k) cs

  abbrev pub all_written : List ClassRec → List ℕ → List ClassRec
  all_written cs [] = cs
  all_written cs (k ∷ ks) = all_written (written cs k) ks

  -- the changes write them
  pub moves-written : (z : Slots) (ks : List ℕ) → all_applied z (filter_map (moved_under t names id) ks) ≡ record z { classes = all_written z.classes ks }
  moves-written z [] = refl
  moves-written z (k ∷ ks) = by (under k) (λ w. moves-written w ks)
    where
      by : (o : Option ClassRec) → ((w : Slots) → all_applied w (filter_map (moved_under t names id) ks) ≡ record w { classes = all_written w.classes ks })
          → all_applied z (cons_option (option_map (change.Class k) o) (filter_map (moved_under t names id) ks)) ≡ record z { classes = all_written (option_map_or (λ r. set z.classes k r) o z.classes) ks }
      by None rest = rest z
      by (Some r) rest = rest (record z { classes = set z.classes k r })

  length-written : (cs : List ClassRec) (k : ℕ) → length (written cs k) ≡ length cs
  length-written cs k = by (under k)
    where
      by : (o : Option ClassRec) → length (option_map_or (λ r. set cs k r) o cs) ≡ length cs
      by None = refl
      by (Some r) = length-set cs k r

  pub length-all : (cs : List ClassRec) (ks : List ℕ) → length (all_written cs ks) ≡ length cs
  length-all cs [] = refl
  length-all cs (k ∷ ks) = length-all (written cs k) ks ∙ length-written cs k

  -- each change can be made at its turn
  pub moves-can : (z : Slots) (ks : List ℕ) → length z.classes ≡ length t.classes → CanApplyAll z (filter_map (moved_under t names id) ks)
  moves-can z [] e = tt
  moves-can z (k ∷ ks) e = by (under k) refl (λ w. moves-can w ks)
    where
      by : (o : Option ClassRec) → under k ≡ o → ((w : Slots) → length w.classes ≡ length t.classes → CanApplyAll w (filter_map (moved_under t names id) ks))
          → CanApplyAll z (cons_option (option_map (change.Class k) o) (filter_map (moved_under t names id) ks))
      by None f rest = rest z e
      by (Some r) f rest =
          let u = is-under k r f in
          (subst (λ (n : ℕ). k < n) (sym e) (slice_get_within t.classes k u.former u.there), rest (record z { classes = set z.classes k r }) (length-set z.classes k r ∙ e))

  -- a fact of each change
  pub moves-fact : (P : Change → Type 0) → ((k : ℕ) (r : ClassRec) → IsUnder t names id k r → P (change.Class k r)) → (ks : List ℕ) → AllByRecursion P (filter_map (moved_under t names id) ks)
  moves-fact P h [] = tt
  moves-fact P h (k ∷ ks) = by (under k) refl (moves-fact P h ks)
    where
      by : (o : Option ClassRec) → under k ≡ o → AllByRecursion P (filter_map (moved_under t names id) ks) → AllByRecursion P (cons_option (option_map (change.Class k) o) (filter_map (moved_under t names id) ks))
      by None f rest = rest
      by (Some r) f rest = (h k r (is-under k r f), rest)

  -- classes keep their names
  pub name-written : (cs : List ClassRec) (k : ℕ) → ((j : ℕ) → class_name cs j ≡ class_name t.classes j) → (j : ℕ) → class_name (written cs k) j ≡ class_name t.classes j
  name-written cs k same j = by (under k) refl
    where
      by : (o : Option ClassRec) → under k ≡ o → class_name (option_map_or (λ r. set cs k r) o cs) j ≡ class_name t.classes j
      by None f = same j
      by (Some r) f = name-set cs k r (same k ∙ under-name k r f) j ∙ same j

  pub name-all : (cs : List ClassRec) (ks : List ℕ) → ((j : ℕ) → class_name cs j ≡ class_name t.classes j) → (j : ℕ) → class_name (all_written cs ks) j ≡ class_name t.classes j
  name-all cs [] same = same
  name-all cs (k ∷ ks) same = name-all (written cs k) ks (name-written cs k same)

  -- what stands in a slot after one is written, and after all
  get-written : (cs : List ClassRec) (k j : ℕ) → length cs ≡ length t.classes → slice_get (written cs k) j ≡ (if eqb j k then either (under j) (slice_get cs j) else slice_get cs j)
  get-written cs k j e = by (under k) refl (eqb_tells j k)
    where
      by : (o : Option ClassRec) → under k ≡ o → ((eqb j k ≡ true) × (j ≡ k)) ⊎ ((eqb j k ≡ false) × (j ≡ k → ⊥)) → slice_get (option_map_or (λ r. set cs k r) o cs) j ≡ (if eqb j k then either (under j) (slice_get cs j) else slice_get cs j)
      by None f (inl a) = sym (ap (λ (b : Bool). if b then either (under j) (slice_get cs j) else slice_get cs j) a.0 ∙ ap (λ (o : Option ClassRec). either o (slice_get cs j)) (ap under a.1 ∙ f))
      by None f (inr a) = sym (ap (λ (b : Bool). if b then either (under j) (slice_get cs j) else slice_get cs j) a.0)
      by (Some r) f (inl a) =
          let u = is-under k r f in
          ap (slice_get (set cs k r)) a.1 ∙ get-set_same cs k r (subst (λ (n : ℕ). k < n) (sym e) (slice_get_within t.classes k u.former u.there))
          ∙ sym (ap (λ (b : Bool). if b then either (under j) (slice_get cs j) else slice_get cs j) a.0 ∙ ap (λ (o : Option ClassRec). either o (slice_get cs j)) (ap under a.1 ∙ f))
      by (Some r) f (inr a) = get-set_other cs k j r (λ h. a.1 (sym h)) ∙ sym (ap (λ (b : Bool). if b then either (under j) (slice_get cs j) else slice_get cs j) a.0)

  either-twice : (o p : Option ClassRec) → either o (either o p) ≡ either o p
  either-twice None p = refl
  either-twice (Some r) p = refl

  get-all : (ks : List ℕ) (cs : List ClassRec) (j : ℕ) → length cs ≡ length t.classes → slice_get (all_written cs ks) j ≡ (if list_any (eqb j) ks then either (under j) (slice_get cs j) else slice_get cs j)
  get-all [] cs j e = refl
  get-all (k ∷ ks) cs j e = get-all ks (written cs k) j (length-written cs k ∙ e) ∙ ap (λ (o : Option ClassRec). if list_any (eqb j) ks then either (under j) o else o) (get-written cs k j e) ∙ by (eqb j k) (list_any (eqb j) ks)
    where
      by : (a b : Bool)
          → (if b then either (under j) (if a then either (under j) (slice_get cs j) else slice_get cs j) else (if a then either (under j) (slice_get cs j) else slice_get cs j)) ≡ (if (a || b) then either (under j) (slice_get cs j) else slice_get cs j)
      by true true = either-twice (under j) (slice_get cs j)
      by true false = refl
      by false true = refl
      by false false = refl

  -- the record after, of a class that is live before
  abbrev pub record_after : ClassRec → ClassRec
  record_after c = if is_among nat_eq names c.name then record c { superclass = Some id } else c

  pub get-live : (k : ℕ) (c : ClassRec) → IsLive t.class_order k → slice_get t.classes k ≡ Some c → slice_get (all_written t.classes t.class_order) k ≡ Some (record_after c)
  get-live k c l e =
      get-all t.class_order t.classes k refl
      ∙ ap (λ (b : Bool). if b then either (under k) (slice_get t.classes k) else slice_get t.classes k) l
      ∙ (λ i. either (under-is i) (e i))
      ∙ by (is_among nat_eq names c.name)
    where
      under-is : under k ≡ (if is_among nat_eq names c.name then Some (record c { superclass = Some id }) else None)
      under-is =
          ap (option_and_then (λ (d : ClassRec). if is_among nat_eq names d.name then Some (record d { superclass = Some id }) else None))
          (ap (λ (b : Bool). if b then slice_get t.classes k else None) l ∙ e)

      by : (b : Bool) → either (if b then Some (record c { superclass = Some id }) else None) (Some c) ≡ Some (if b then record c { superclass = Some id } else c)
      by true = refl
      by false = refl

  -- what is not live stays
  pub get-dead : (k : ℕ) → list_any (eqb k) t.class_order ≡ false → slice_get (all_written t.classes t.class_order) k ≡ slice_get t.classes k
  get-dead k l = get-all t.class_order t.classes k refl ∙ ap (λ (b : Bool). if b then either (under k) (slice_get t.classes k) else slice_get t.classes k) l
