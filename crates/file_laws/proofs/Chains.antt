-- Chains in lists of classes that differ in one class or in their order.
use Rattle.std.proofs.Common.{◌≡◌, ℕ, zero, suc, ◌<◌, ◌≤◌, Bool, true, false, not, cond, List, [], ◌∷◌, ◌++◌, length, map, filter, find, Option, Some, None, slice_get, refl, sym, ap, subst, ◌∙◌, true≢false, arith}
use Rattle.std.specs.Prelude.{◌||◌, is_some}
use Rattle.std.specs.List.{list_any, flat_map, AllByRecursion}
use Rattle.std.specs.Option.{option_map_or}
use Rattle.std.specs.List.Sorted.{IsPermutation}
use Rattle.std.proofs.lemmas.List.Sorted.{IsPermutation-sym, length_permutation}
use Rattle.std.proofs.lemmas.Option.{slice_get_within}
use Rattle.rb_base.specs.Names.{text_eq}
use Rattle.rb_base.proofs.NamesLemmas.{text_eq-refl}
use Rattle.image_model.specs.Image.{ClassOf}
use Rattle.image_model.specs.Upwards.{upwards}
use Rattle.image_model.specs.Chain.{class_named, class_of_name, superclass_of, chain_from}
use Rattle.image_model.specs.Means.{VariableKind, variables}
use Rattle.image_model.specs.Replaced.{KeepsHierarchy}
use Rattle.image_model.specs.Valid.{HasNoRepeat, class_names, SuperclassesStandBefore, DefinesOnceOnChain}
use Rattle.image_model.proofs.ChainLemmas.{superclass_before}
use Rattle.image_model.proofs.Ends.{all-at, find-place}
use Rattle.image_model.proofs.Kept.{chain_from-kept}
use Rattle.image_model.proofs.UpwardsLemmas.{upwards-none, upwards-enough}
use Rattle.file_model.specs.Filing.{Text}
use Rattle.file_model.specs.Hierarchy.{has_class, stands_in, has_subclass, has_repeat, chain_variables, stands_twice}
use Rattle.file_laws.proofs.Methods.{Differ, no_repeat_of}
use Rattle.file_laws.proofs.Moves.{text_equal, All-weaker}
use Rattle.file_laws.proofs.Named.{all_moved}
use Rattle.file_laws.proofs.Redefined.{named_at}
use Rattle.file_laws.proofs.Repeats.{none_pass}
use Rattle.file_laws.proofs.Sound.{All-filter}

-- neither of two tests passes
pub or_false : (a b : Bool) → (a || b) ≡ false → (a ≡ false) × (b ≡ false)
or_false true b h = absurd (true≢false h)
or_false false b h = (refl, h)

-- what is found passes
pub finds : {X : Type 0} (p : X → Bool) (xs : List X) (x : X) → find p xs ≡ Some x → p x ≡ true
finds p [] x e = absurd (cc)
finds p (y ∷ ys) x e = by (p y) refl e (finds p ys x)
  where
    by : (b : Bool) → p y ≡ b → cond b (Some y) (find p ys) ≡ Some x → (find p ys ≡ Some x → p x ≡ true) → p x ≡ true
    by true q h rest = let same : y ≡ x = cc in ap p (sym same) ∙ q
    by false q h rest = rest h

-- what holds of each item holds of the one at a place
pub all_place : {X : Type 0} (P : X → Type 0) (xs : List X) (k : ℕ) (x : X) → AllByRecursion P xs → slice_get xs k ≡ Some x → P x
all_place P [] k x all e = absurd (cc)
all_place P (y ∷ ys) zero x all e = let same : y ≡ x = cc in subst P same all.0
all_place P (y ∷ ys) (suc k) x all e = all_place P ys k x all.1 e

-- what holds at each place holds of each item
pub all_places : {X : Type 0} (P : X → Type 0) (xs : List X) → ((k : ℕ) (x : X) → slice_get xs k ≡ Some x → P x) → AllByRecursion P xs
all_places P [] h = tt
all_places P (y ∷ ys) h = (h 0 y refl, all_places P ys (λ k x e. h (suc k) x e))

-- no item passes both tests
any_filter : {X : Type 0} (q p : X → Bool) (xs : List X) → list_any q (filter p xs) ≡ false → AllByRecursion (λ x. p x ≡ true → q x ≡ false) xs
any_filter q p [] h = tt
any_filter {X} q p (x ∷ xs) h = by (p x) refl h (any_filter q p xs)
  where
    by : (b : Bool) → p x ≡ b → list_any q (cond b (x ∷ filter p xs) (filter p xs)) ≡ false → (list_any q (filter p xs) ≡ false → AllByRecursion (λ y. p y ≡ true → q y ≡ false) xs)
        → (p x ≡ true → q x ≡ false) × AllByRecursion (λ y. p y ≡ true → q y ≡ false) xs
    by true e k rest = let parts = or_false (q x) (list_any q (filter p xs)) k in ((λ passes. parts.0), rest parts.1)
    by false e k rest = ((λ passes. absurd (true≢false (sym passes ∙ e))), rest k)

-- the items that pass do
pub filtered_pass : {X : Type 0} (p : X → Bool) (xs : List X) → AllByRecursion (λ x. p x ≡ true) (filter p xs)
filtered_pass p [] = tt
filtered_pass {X} p (x ∷ xs) = by (p x) refl (filtered_pass p xs)
  where
    by : (b : Bool) → p x ≡ b → AllByRecursion (λ y. p y ≡ true) (filter p xs) → AllByRecursion (λ y. p y ≡ true) (cond b (x ∷ filter p xs) (filter p xs))
    by true e rest = (e, rest)
    by false e rest = rest

-- nothing stands twice where the test finds nothing twice
unplaced : (t : Text) (xs : List Text) → list_any (text_eq t) xs ≡ false → (j : ℕ) → slice_get xs j ≡ Some t → ⊥
unplaced t [] h j e = cc
unplaced t (x ∷ xs) h zero e = let same : x ≡ t = cc in true≢false (sym (ap (text_eq t) same ∙ text_eq-refl t) ∙ (or_false (text_eq t x) (list_any (text_eq t) xs) h).0)
unplaced t (x ∷ xs) h (suc j) e = unplaced t xs (or_false (text_eq t x) (list_any (text_eq t) xs) h).1 j e

differ_tested : (xs : List Text) → has_repeat text_eq xs ≡ false → Differ xs
differ_tested [] h = tt
differ_tested (x ∷ xs) h =
    let parts = or_false (list_any (text_eq x) xs) (has_repeat text_eq xs) h in
    (unplaced x xs parts.0, differ_tested xs parts.1)

pub once_tested : (xs : List Text) → has_repeat text_eq xs ≡ false → HasNoRepeat xs
once_tested xs h = no_repeat_of xs (differ_tested xs h)

-- Two lists of classes that differ in the class of one name alone. Each superclass stands before its subclasses in the second one.
pub record IsBeside (n : Text) (mid old : List (ClassOf Text)) : Type 0 where
  pub there : has_class text_eq mid n ≡ true
  pub agree : (m : Text) → text_eq n m ≡ false → class_named text_eq mid m ≡ class_named text_eq old m
  pub from_old : (j : ℕ) (c : ClassOf Text) → slice_get mid j ≡ Some c → text_eq n c.name ≡ false → (k : ℕ) × (slice_get old k ≡ Some c)
  pub long : length old ≤ length mid
  pub before : SuperclassesStandBefore old

module _ (n : Text) (mid old : List (ClassOf Text)) (b : IsBeside n mid old) where
  -- the class of a name, which is not the one that differs
  named_agree : (k : ℕ) (o : Option Text) → stands_in text_eq n (upwards (superclass_of text_eq mid) (suc k) (class_of_name text_eq mid o)) ≡ false → class_of_name text_eq mid o ≡ class_of_name text_eq old o
  named_agree k None h = refl
  named_agree k (Some m) h = by (text_eq n m) refl
    where
      held : (o : Option (ClassOf Text)) → class_named text_eq mid m ≡ o → n ≡ m → stands_in text_eq n (upwards (superclass_of text_eq mid) (suc k) o) ≡ false → ⊥
      held None e same g = true≢false (sym b.there ∙ ap (has_class text_eq mid) same ∙ ap is_some e)
      held (Some c) e same g =
          true≢false (sym (ap (λ t. text_eq t c.name) same ∙ finds (λ (x : ClassOf Text). text_eq m x.name) mid c e) ∙ (or_false (text_eq n c.name) (stands_in text_eq n (upwards (superclass_of text_eq mid) k (superclass_of text_eq mid c))) g).0)

      by : (a : Bool) → text_eq n m ≡ a → class_named text_eq mid m ≡ class_named text_eq old m
      by false e = b.agree m e
      by true e = absurd (held (class_named text_eq mid m) refl (text_equal n m e) h)

  -- a chain on which the class that differs does not stand
  outside : (k : ℕ) (o : Option (ClassOf Text)) → stands_in text_eq n (upwards (superclass_of text_eq mid) k o) ≡ false → upwards (superclass_of text_eq mid) k o ≡ upwards (superclass_of text_eq old) k o
  outside zero o h = refl
  outside (suc k) None h = refl
  outside (suc k) (Some c) h =
      let above = (or_false (text_eq n c.name) (stands_in text_eq n (upwards (superclass_of text_eq mid) k (superclass_of text_eq mid c))) h).1 in
      ap (λ (ds : List (ClassOf Text)). c ∷ ds) (outside k (superclass_of text_eq mid c) above ∙ by k above)
    where
      by : (l : ℕ) → stands_in text_eq n (upwards (superclass_of text_eq mid) l (superclass_of text_eq mid c)) ≡ false → upwards (superclass_of text_eq old) l (superclass_of text_eq mid c) ≡ upwards (superclass_of text_eq old) l (superclass_of text_eq old c)
      by zero g = refl
      by (suc l) g = ap (upwards (superclass_of text_eq old) (suc l)) (named_agree l c.superclass g)

  pub chain_outside : (k : ℕ) (c : ClassOf Text) → slice_get old k ≡ Some c → stands_in text_eq n (chain_from text_eq mid (Some c)) ≡ false → chain_from text_eq mid (Some c) ≡ chain_from text_eq old (Some c)
  chain_outside k c at h =
      outside (length mid) (Some c) h
      ∙ upwards-enough (superclass_of text_eq old) (λ j d. slice_get old j ≡ Some d) (superclass_before text_eq text_eq-refl old b.before) (length old) k (length mid) (length old) c (slice_get_within old k c at) b.long (omega arith) at

  -- the first class of a chain is not the one that differs
  first_other : (k : ℕ) (c : ClassOf Text) → 0 < k → stands_in text_eq n (upwards (superclass_of text_eq mid) k (Some c)) ≡ false → text_eq n c.name ≡ false
  first_other zero c less h = absurd (omega (arith, less))
  first_other (suc k) c less h = (or_false (text_eq n c.name) (stands_in text_eq n (upwards (superclass_of text_eq mid) k (superclass_of text_eq mid c))) h).0

  -- no variable stands twice where none did, and none stands twice below the class that differs
  pub once_checked : (kind : VariableKind) → AllByRecursion (DefinesOnceOnChain text_eq old kind) old → stands_twice text_eq mid kind n ≡ false → AllByRecursion (DefinesOnceOnChain text_eq mid kind) mid
  once_checked kind once check =
      all-at _ (DefinesOnceOnChain text_eq mid kind) mid (λ j c at h. by j c at h (stands_in text_eq n (chain_from text_eq mid (Some c))) refl)
      (any_filter (λ (c : ClassOf Text). has_repeat text_eq (chain_variables text_eq mid kind c)) (λ (c : ClassOf Text). stands_in text_eq n (chain_from text_eq mid (Some c))) mid check)
    where
      by : (j : ℕ) (c : ClassOf Text) → slice_get mid j ≡ Some c → (stands_in text_eq n (chain_from text_eq mid (Some c)) ≡ true → has_repeat text_eq (chain_variables text_eq mid kind c) ≡ false) → (a : Bool) → stands_in text_eq n (chain_from text_eq mid (Some c)) ≡ a
          → DefinesOnceOnChain text_eq mid kind c
      by j c at h true e = once_tested (chain_variables text_eq mid kind c) (h e)
      by j c at h false e =
          let within : j < length mid = slice_get_within mid j c at in
          let place = b.from_old j c at (first_other (length mid) c (omega (arith, within)) e) in
          subst (λ (ds : List (ClassOf Text)). HasNoRepeat (flat_map (variables kind) ds)) (sym (chain_outside place.0 c place.1 e)) (all_place (DefinesOnceOnChain text_eq old kind) old place.0 c once place.1)

-- things above which the same stands
upwards_same : {X : Type 0} (up also : X → Option X) → ((x : X) → up x ≡ also x) → (k : ℕ) (o : Option X) → upwards up k o ≡ upwards also k o
upwards_same up also same zero o = refl
upwards_same up also same (suc k) None = refl
upwards_same {X} up also same (suc k) (Some x) = ap (λ (ys : List X). x ∷ ys) (upwards_same up also same k (up x) ∙ ap (upwards also k) (same x))

-- the classes in another order
module _ (mid new : List (ClassOf Text)) (moved : IsPermutation mid new) (distinct : HasNoRepeat (class_names mid)) (still : HasNoRepeat (class_names new)) where
  named_moved : (m : Text) → class_named text_eq new m ≡ class_named text_eq mid m
  named_moved m = by (class_named text_eq new m) refl
    where
      found : (cs : List (ClassOf Text)) → HasNoRepeat (class_names cs) → AllByRecursion (λ (c : ClassOf Text). class_named text_eq cs c.name ≡ Some c) cs
      found cs h = all_places _ cs (λ k c at. named_at text_eq text_eq-refl text_equal cs k c h at)

      among : (cs ds : List (ClassOf Text)) → AllByRecursion (λ (c : ClassOf Text). class_named text_eq ds c.name ≡ Some c) cs → (c : ClassOf Text) → class_named text_eq cs m ≡ Some c → class_named text_eq ds m ≡ Some c
      among cs ds all c e =
          let place = find-place (λ (x : ClassOf Text). text_eq m x.name) cs c e in
          let same : m ≡ c.name = text_equal m c.name (finds (λ (x : ClassOf Text). text_eq m x.name) cs c e) in
          ap (class_named text_eq ds) same ∙ all_place (λ (x : ClassOf Text). class_named text_eq ds x.name ≡ Some x) cs place.0 c all place.1

      none : (o : Option (ClassOf Text)) → class_named text_eq mid m ≡ o → class_named text_eq new m ≡ None → None ≡ o
      none None f e = refl
      none (Some c) f e = absurd (differ (sym e ∙ among mid new (all_moved (λ (x : ClassOf Text). class_named text_eq new x.name ≡ Some x) new mid (IsPermutation-sym mid new moved) (found new still)) c f))
        where
          differ : None ≡ Some c → ⊥
          differ q = cc

      by : (o : Option (ClassOf Text)) → class_named text_eq new m ≡ o → o ≡ class_named text_eq mid m
      by None e = none (class_named text_eq mid m) refl e
      by (Some c) e = sym (among new mid (all_moved (λ (x : ClassOf Text). class_named text_eq mid x.name ≡ Some x) mid new moved (found mid distinct)) c e)

  chain_moved : (c : ClassOf Text) → chain_from text_eq new (Some c) ≡ chain_from text_eq mid (Some c)
  chain_moved c =
      ap (λ (k : ℕ). upwards (superclass_of text_eq new) k (Some c)) (length_permutation mid new moved)
      ∙ upwards_same (superclass_of text_eq new) (superclass_of text_eq mid) (λ x. by x.superclass) (length mid) (Some c)
    where
      by : (o : Option Text) → class_of_name text_eq new o ≡ class_of_name text_eq mid o
      by None = refl
      by (Some m) = named_moved m

  pub once_moved : (kind : VariableKind) → AllByRecursion (DefinesOnceOnChain text_eq mid kind) mid → AllByRecursion (DefinesOnceOnChain text_eq new kind) new
  once_moved kind once =
      All-weaker (DefinesOnceOnChain text_eq mid kind) (DefinesOnceOnChain text_eq new kind) new (λ c h. subst (λ (ds : List (ClassOf Text)). HasNoRepeat (flat_map (variables kind) ds)) (sym (chain_moved c)) h)
      (all_moved (DefinesOnceOnChain text_eq mid kind) mid new moved once)

-- classes that are replaced and keep their names, their superclasses and their variables of a kind
pub once_kept : (g : ClassOf Text → ClassOf Text) (cs : List (ClassOf Text)) (kind : VariableKind) → AllByRecursion (KeepsHierarchy g) cs → ((c : ClassOf Text) → variables kind (g c) ≡ variables kind c)
    → AllByRecursion (DefinesOnceOnChain text_eq cs kind) cs → AllByRecursion (DefinesOnceOnChain text_eq (map g cs) kind) (map g cs)
once_kept g cs kind hierarchy vars once = by cs hierarchy once
  where
    each : (ds : List (ClassOf Text)) → flat_map (variables kind) (map g ds) ≡ flat_map (variables kind) ds
    each [] = refl
    each (d ∷ ds) = λ i. vars d i ++ each ds i

    by : (ds : List (ClassOf Text)) → AllByRecursion (KeepsHierarchy g) ds → AllByRecursion (DefinesOnceOnChain text_eq cs kind) ds → AllByRecursion (DefinesOnceOnChain text_eq (map g cs) kind) (map g ds)
    by [] k o = tt
    by (d ∷ ds) k o =
        (subst HasNoRepeat (sym (ap (flat_map (variables kind)) (chain_from-kept text_eq g cs hierarchy (Some d) k.0) ∙ each (chain_from text_eq cs (Some d)))) o.0, by ds k.1 o.1)

-- without a class that has no subclass
module _ (n : Text) (cs : List (ClassOf Text)) (none : has_subclass text_eq cs n ≡ false) where
  abbrev others : List (ClassOf Text)
  others = filter (λ (c : ClassOf Text). not (text_eq n c.name)) cs

  -- it stands on no other chain
  never_stands : (k : ℕ) (c : ClassOf Text) → text_eq n c.name ≡ false → option_map_or (text_eq n) c.superclass false ≡ false → stands_in text_eq n (upwards (superclass_of text_eq cs) k (Some c)) ≡ false
  never_stands zero c other above = refl
  never_stands (suc k) c other above =
      ap (λ (a : Bool). a || stands_in text_eq n (upwards (superclass_of text_eq cs) k (superclass_of text_eq cs c))) other ∙ by c.superclass above (λ d f g. never_stands k d f g)
    where
      nothing : stands_in text_eq n (upwards (superclass_of text_eq cs) k None) ≡ false
      nothing = ap (stands_in text_eq n) (upwards-none (superclass_of text_eq cs) k)

      at : (m : Text) → text_eq n m ≡ false → (o : Option (ClassOf Text)) → class_named text_eq cs m ≡ o
          → ((d : ClassOf Text) → text_eq n d.name ≡ false → option_map_or (text_eq n) d.superclass false ≡ false → stands_in text_eq n (upwards (superclass_of text_eq cs) k (Some d)) ≡ false)
          → stands_in text_eq n (upwards (superclass_of text_eq cs) k o) ≡ false
      at m differs None e rest = nothing
      at m differs (Some d) e rest =
          let place = find-place (λ (x : ClassOf Text). text_eq m x.name) cs d e in
          rest d (ap (text_eq n) (sym (text_equal m d.name (finds (λ (x : ClassOf Text). text_eq m x.name) cs d e))) ∙ differs)
          (all_place (λ (x : ClassOf Text). option_map_or (text_eq n) x.superclass false ≡ false) cs place.0 d (none_pass (λ (x : ClassOf Text). option_map_or (text_eq n) x.superclass false) cs none) place.1)

      by : (o : Option Text) → option_map_or (text_eq n) o false ≡ false
          → ((d : ClassOf Text) → text_eq n d.name ≡ false → option_map_or (text_eq n) d.superclass false ≡ false → stands_in text_eq n (upwards (superclass_of text_eq cs) k (Some d)) ≡ false)
          → stands_in text_eq n (upwards (superclass_of text_eq cs) k (class_of_name text_eq cs o)) ≡ false
      by None h rest = nothing
      by (Some m) h rest = at m h (class_named text_eq cs m) refl rest

  -- the class of another name
  named_without : (m : Text) → text_eq n m ≡ false → class_named text_eq cs m ≡ class_named text_eq others m
  named_without m differs = step cs
    where
      step : (ds : List (ClassOf Text)) → class_named text_eq ds m ≡ class_named text_eq (filter (λ (c : ClassOf Text). not (text_eq n c.name)) ds) m
      step [] = refl
      step (d ∷ ds) = by (text_eq n d.name) refl (step ds)
        where
          unlike : n ≡ d.name → (a : Bool) → text_eq m d.name ≡ a → a ≡ false
          unlike same false q = refl
          unlike same true q = absurd (true≢false (sym (ap (text_eq n) (text_equal m d.name q ∙ sym same) ∙ text_eq-refl n) ∙ differs))

          by : (a : Bool) → text_eq n d.name ≡ a → class_named text_eq ds m ≡ class_named text_eq (filter (λ (c : ClassOf Text). not (text_eq n c.name)) ds) m
              → class_named text_eq (d ∷ ds) m ≡ class_named text_eq (cond (not a) (d ∷ filter (λ (c : ClassOf Text). not (text_eq n c.name)) ds) (filter (λ (c : ClassOf Text). not (text_eq n c.name)) ds)) m
          by true e rest = ap (λ (a : Bool). cond a (Some d) (class_named text_eq ds m)) (unlike (text_equal n d.name e) (text_eq m d.name) refl) ∙ rest
          by false e rest = ap (cond (text_eq m d.name) (Some d)) rest

  shorter : (ds : List (ClassOf Text)) → length (filter (λ (c : ClassOf Text). not (text_eq n c.name)) ds) ≤ length ds
  shorter [] = omega arith
  shorter (d ∷ ds) = by (not (text_eq n d.name)) (shorter ds)
    where
      by : (a : Bool) → length (filter (λ (c : ClassOf Text). not (text_eq n c.name)) ds) ≤ length ds → length (cond a (d ∷ filter (λ (c : ClassOf Text). not (text_eq n c.name)) ds) (filter (λ (c : ClassOf Text). not (text_eq n c.name)) ds)) ≤ length (d ∷ ds)
      by true h = omega (arith, h)
      by false h = omega (arith, h)

  pub stays_at : (ds : List (ClassOf Text)) (j : ℕ) (c : ClassOf Text) → slice_get ds j ≡ Some c → text_eq n c.name ≡ false → (k : ℕ) × (slice_get (filter (λ (x : ClassOf Text). not (text_eq n x.name)) ds) k ≡ Some c)
  stays_at [] j c at e = absurd (cc)
  stays_at (d ∷ ds) zero c at e =
      let same : d ≡ c = cc in
      (0, ap (λ (a : Bool). slice_get (cond (not a) (d ∷ filter (λ (x : ClassOf Text). not (text_eq n x.name)) ds) (filter (λ (x : ClassOf Text). not (text_eq n x.name)) ds)) 0) (ap (λ (x : ClassOf Text). text_eq n x.name) same ∙ e) ∙ ap Some same)
  stays_at (d ∷ ds) (suc j) c at e = by (not (text_eq n d.name)) (stays_at ds j c at e)
    where
      by : (a : Bool) → (k : ℕ) × (slice_get (filter (λ (x : ClassOf Text). not (text_eq n x.name)) ds) k ≡ Some c) → (k : ℕ) × (slice_get (cond a (d ∷ filter (λ (x : ClassOf Text). not (text_eq n x.name)) ds) (filter (λ (x : ClassOf Text). not (text_eq n x.name)) ds)) k ≡ Some c)
      by true r = (suc r.0, r.1)
      by false r = r

  pub once_without : has_class text_eq cs n ≡ true → SuperclassesStandBefore others → (kind : VariableKind) → AllByRecursion (DefinesOnceOnChain text_eq cs kind) cs → AllByRecursion (DefinesOnceOnChain text_eq others kind) others
  once_without there before kind once =
      all-at (DefinesOnceOnChain text_eq cs kind) (DefinesOnceOnChain text_eq others kind) others
      (λ k c at h. subst (λ (ds : List (ClassOf Text)). HasNoRepeat (flat_map (variables kind) ds)) (chain_outside n cs others (record { there = there; agree = named_without; from_old = stays_at cs; long = shorter cs; before = before }) k c at (clear k c at)) h)
      (All-filter (DefinesOnceOnChain text_eq cs kind) (λ (c : ClassOf Text). not (text_eq n c.name)) cs once)
    where
      not_true : (a : Bool) → not a ≡ true → a ≡ false
      not_true true h = absurd (true≢false (sym h))
      not_true false h = refl

      clear : (k : ℕ) (c : ClassOf Text) → slice_get others k ≡ Some c → stands_in text_eq n (chain_from text_eq cs (Some c)) ≡ false
      clear k c at =
          never_stands (length cs) c (not_true (text_eq n c.name) (all_place (λ (x : ClassOf Text). not (text_eq n x.name) ≡ true) others k c (filtered_pass (λ (x : ClassOf Text). not (text_eq n x.name)) cs) at))
          (all_place (λ (x : ClassOf Text). option_map_or (text_eq n) x.superclass false ≡ false) others k c
          (All-filter (λ (x : ClassOf Text). option_map_or (text_eq n) x.superclass false ≡ false) (λ (x : ClassOf Text). not (text_eq n x.name)) cs (none_pass (λ (x : ClassOf Text). option_map_or (text_eq n) x.superclass false) cs none)) at)
