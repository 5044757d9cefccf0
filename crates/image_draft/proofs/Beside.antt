-- Lists of classes that differ in one class: chains on which it does not stand are the same.
use Rattle.std.proofs.Common.{◌≡◌, ◌⊎◌, inl, inr, ℕ, zero, suc, ◌<◌, ◌≤◌, Bool, true, false, not, cond, List, [], ◌∷◌, ◌++◌, length, filter, find, Option, Some, None, slice_get, nat_eq, refl, sym, ap, subst, ◌∙◌, true≢false, arith}
use Rattle.std.specs.Prelude.{◌||◌, is_some, if◌then◌else◌}
use Rattle.std.specs.List.{AllByRecursion}
use Rattle.std.specs.Option.{option_map_or}
use Rattle.std.proofs.lemmas.Option.{slice_get_within}
use Rattle.image_model.specs.Image.{ClassOf}
use Rattle.image_model.specs.Upwards.{upwards}
use Rattle.image_model.specs.Chain.{class_named, class_of_name, superclass_of, chain_from}
use Rattle.image_model.specs.Valid.{SuperclassesStandBefore}
use Rattle.image_model.proofs.ChainLemmas.{superclass_before, slice_get-map}
use Rattle.image_model.proofs.Ends.{find-end, find-place, slice_get-end, length-end}
use Rattle.image_model.proofs.Lists.{length-map}
use Rattle.image_model.proofs.UpwardsLemmas.{upwards-none, upwards-enough}
use Rattle.file_model.specs.Applied.{changed_class}
use Rattle.file_model.specs.Hierarchy.{has_class, stands_in, has_subclass}
use Rattle.file_laws.proofs.Defined.{has_changed}
use Rattle.file_laws.proofs.Repeats.{none_pass}
use Rattle.file_laws.proofs.Sound.{All-filter}
use Rattle.image_draft.proofs.Numbers.{nat_itself, nat_equal}

-- neither of two tests passes
pub or_false : (a b : Bool) → (a || b) ≡ false → (a ≡ false) × (b ≡ false)
or_false true b h = absurd (true≢false h)
or_false false b h = (refl, h)

-- what is found passes
pub finds : {X : Type 0} (p : X → Bool) (xs : List X) (x : X) → find p xs ≡ Some x → p x ≡ true
finds p [] x e = absurd (cc)
finds p (y ∷ ys) x e = by (p y) refl e (finds p ys x)
  where
    by : (b : Bool) → p y ≡ b → cond b (Some y) (find p ys) ≡ Some x → (find p ys ≡ Some x → p x ≡ true) → p x ≡ true
    by true q h rest = let same : y ≡ x = cc in ap p (sym same) ∙ q
    by false q h rest = rest h

-- what holds of each item holds of the one at a place
pub all_place : {X : Type 0} (P : X → Type 0) (xs : List X) (k : ℕ) (x : X) → AllByRecursion P xs → slice_get xs k ≡ Some x → P x
all_place P [] k x all e = absurd (cc)
all_place P (y ∷ ys) zero x all e = let same : y ≡ x = cc in subst P same all.0
all_place P (y ∷ ys) (suc k) x all e = all_place P ys k x all.1 e

-- what holds at each place holds of each item
pub all_places : {X : Type 0} (P : X → Type 0) (xs : List X) → ((k : ℕ) (x : X) → slice_get xs k ≡ Some x → P x) → AllByRecursion P xs
all_places P [] h = tt
all_places P (y ∷ ys) h = (h 0 y refl, all_places P ys (λ k x e. h (suc k) x e))

-- the items that pass do
pub filtered_pass : {X : Type 0} (p : X → Bool) (xs : List X) → AllByRecursion (λ x. p x ≡ true) (filter p xs)
filtered_pass p [] = tt
filtered_pass {X} p (x ∷ xs) = by (p x) refl (filtered_pass p xs)
  where
    by : (b : Bool) → p x ≡ b → AllByRecursion (λ y. p y ≡ true) (filter p xs) → AllByRecursion (λ y. p y ≡ true) (cond b (x ∷ filter p xs) (filter p xs))
    by true e rest = (e, rest)
    by false e rest = rest

-- Two lists of classes that differ in the class of one name alone. Each superclass stands before its subclasses in the second one.
pub record IsBeside (n : ℕ) (mid old : List (ClassOf ℕ)) : Type 0 where
  pub there : has_class nat_eq mid n ≡ true
  pub agree : (m : ℕ) → nat_eq n m ≡ false → class_named nat_eq mid m ≡ class_named nat_eq old m
  pub from_old : (j : ℕ) (c : ClassOf ℕ) → slice_get mid j ≡ Some c → nat_eq n c.name ≡ false → (k : ℕ) × (slice_get old k ≡ Some c)
  pub long : length old ≤ length mid
  pub before : SuperclassesStandBefore old

module _ (n : ℕ) (mid old : List (ClassOf ℕ)) (b : IsBeside n mid old) where
  -- the class of a name, which is not the one that differs
  named_agree : (k : ℕ) (o : Option ℕ) → stands_in nat_eq n (upwards (superclass_of nat_eq mid) (suc k) (class_of_name nat_eq mid o)) ≡ false → class_of_name nat_eq mid o ≡ class_of_name nat_eq old o
  named_agree k None h = refl
  named_agree k (Some m) h = by (nat_eq n m) refl
    where
      held : (o : Option (ClassOf ℕ)) → class_named nat_eq mid m ≡ o → n ≡ m → stands_in nat_eq n (upwards (superclass_of nat_eq mid) (suc k) o) ≡ false → ⊥
      held None e same g = true≢false (sym b.there ∙ ap (has_class nat_eq mid) same ∙ ap is_some e)
      held (Some c) e same g =
          true≢false (sym (ap (λ t. nat_eq t c.name) same ∙ finds (λ (x : ClassOf ℕ). nat_eq m x.name) mid c e) ∙ (or_false (nat_eq n c.name) (stands_in nat_eq n (upwards (superclass_of nat_eq mid) k (superclass_of nat_eq mid c))) g).0)

      by : (a : Bool) → nat_eq n m ≡ a → class_named nat_eq mid m ≡ class_named nat_eq old m
      by false e = b.agree m e
      by true e = absurd (held (class_named nat_eq mid m) refl (nat_equal n m e) h)

  -- a chain on which the class that differs does not stand
  outside : (k : ℕ) (o : Option (ClassOf ℕ)) → stands_in nat_eq n (upwards (superclass_of nat_eq mid) k o) ≡ false → upwards (superclass_of nat_eq mid) k o ≡ upwards (superclass_of nat_eq old) k o
  outside zero o h = refl
  outside (suc k) None h = refl
  outside (suc k) (Some c) h =
      let above = (or_false (nat_eq n c.name) (stands_in nat_eq n (upwards (superclass_of nat_eq mid) k (superclass_of nat_eq mid c))) h).1 in
      ap (λ (ds : List (ClassOf ℕ)). c ∷ ds) (outside k (superclass_of nat_eq mid c) above ∙ by k above)
    where
      by : (l : ℕ) → stands_in nat_eq n (upwards (superclass_of nat_eq mid) l (superclass_of nat_eq mid c)) ≡ false → upwards (superclass_of nat_eq old) l (superclass_of nat_eq mid c) ≡ upwards (superclass_of nat_eq old) l (superclass_of nat_eq old c)
      by zero g = refl
      by (suc l) g = ap (upwards (superclass_of nat_eq old) (suc l)) (named_agree l c.superclass g)

  pub chain_outside : (k : ℕ) (c : ClassOf ℕ) → slice_get old k ≡ Some c → stands_in nat_eq n (chain_from nat_eq mid (Some c)) ≡ false → chain_from nat_eq mid (Some c) ≡ chain_from nat_eq old (Some c)
  chain_outside k c at h =
      outside (length mid) (Some c) h
      ∙ upwards-enough (superclass_of nat_eq old) (λ j d. slice_get old j ≡ Some d) (superclass_before nat_eq nat_itself old b.before) (length old) k (length mid) (length old) c (slice_get_within old k c at) b.long (omega arith) at

  -- the first class of a chain is not the one that differs
  pub first_other : (k : ℕ) (c : ClassOf ℕ) → 0 < k → stands_in nat_eq n (upwards (superclass_of nat_eq mid) k (Some c)) ≡ false → nat_eq n c.name ≡ false
  first_other zero c less h = absurd (omega (arith, less))
  first_other (suc k) c less h = (or_false (nat_eq n c.name) (stands_in nat_eq n (upwards (superclass_of nat_eq mid) k (superclass_of nat_eq mid c))) h).0

-- the class of a name is changed
module _ (n : ℕ) (f : ClassOf ℕ → ClassOf ℕ) (keeps : (c : ClassOf ℕ) → (f c).name ≡ c.name) where
  -- a name of another text is not that of the class
  unlike : (m t : ℕ) → nat_eq n m ≡ false → n ≡ t → nat_eq m t ≡ false
  unlike m t differs same = by (nat_eq m t) refl
    where
      by : (b : Bool) → nat_eq m t ≡ b → nat_eq m t ≡ false
      by false e = e
      by true e = absurd (true≢false (sym (ap (nat_eq n) (nat_equal m t e ∙ sym same) ∙ nat_itself n) ∙ differs))

  found_changed : (cs : List (ClassOf ℕ)) (m : ℕ) → nat_eq n m ≡ false → class_named nat_eq (changed_class nat_eq n f cs) m ≡ class_named nat_eq cs m
  found_changed [] m differs = refl
  found_changed (c ∷ cs) m differs = by (nat_eq n c.name) refl (found_changed cs m differs)
    where
      by : (b : Bool) → nat_eq n c.name ≡ b → class_named nat_eq (changed_class nat_eq n f cs) m ≡ class_named nat_eq cs m
          → class_named nat_eq ((if b then f c else c) ∷ changed_class nat_eq n f cs) m ≡ class_named nat_eq (c ∷ cs) m
      by true e rest =
          let other : nat_eq m c.name ≡ false = unlike m c.name differs (nat_equal n c.name e) in
          ap (λ (b : Bool). cond b (Some (f c)) (class_named nat_eq (changed_class nat_eq n f cs) m)) (ap (nat_eq m) (keeps c) ∙ other)
          ∙ rest ∙ sym (ap (λ (b : Bool). cond b (Some c) (class_named nat_eq cs m)) other)
      by false e rest = ap (cond (nat_eq m c.name) (Some c)) rest

  -- a class of another name stands where it stood
  old_place : (cs : List (ClassOf ℕ)) (j : ℕ) (c : ClassOf ℕ) → slice_get (changed_class nat_eq n f cs) j ≡ Some c → nat_eq n c.name ≡ false → (k : ℕ) × (slice_get cs k ≡ Some c)
  old_place cs j c at differs =
      let was = slice_get-map (λ (x : ClassOf ℕ). if nat_eq n x.name then f x else x) cs j c at in
      (j, was.1 ∙ ap Some (by was.0 (nat_eq n was.0.name) refl was.2))
    where
      by : (d : ClassOf ℕ) (b : Bool) → nat_eq n d.name ≡ b → (if b then f d else d) ≡ c → d ≡ c
      by d false e same = same
      by d true e same = absurd (true≢false (sym e ∙ ap (nat_eq n) (sym (keeps d) ∙ ap (λ (x : ClassOf ℕ). x.name) same) ∙ differs))

  -- the classes with another class for that of a name
  pub changed_beside : (cs : List (ClassOf ℕ)) → SuperclassesStandBefore cs → has_class nat_eq cs n ≡ true → IsBeside n (changed_class nat_eq n f cs) cs
  changed_beside cs before there = record {
    there = has_changed nat_eq nat_itself nat_equal n n f keeps cs ∙ there;
    agree = found_changed cs;
    from_old = old_place cs;
    long = omega (arith, length-map (λ (x : ClassOf ℕ). if nat_eq n x.name then f x else x) cs);
    before = before;
  }

-- the classes with a new one
pub new_beside : (c : ClassOf ℕ) (cs : List (ClassOf ℕ)) → SuperclassesStandBefore cs → IsBeside c.name (cs ++ c ∷ []) cs
new_beside c cs before = record {
  there = there cs;
  agree = λ m differs. find-end (λ (x : ClassOf ℕ). nat_eq m x.name) cs c (turned m differs);
  from_old = λ j d at differs. (j, by j d differs (slice_get-end cs c d j at));
  long = omega (arith, length-end cs c);
  before = before;
}
  where
    there : (ds : List (ClassOf ℕ)) → has_class nat_eq (ds ++ c ∷ []) c.name ≡ true
    there [] = ap (λ (b : Bool). is_some (cond b (Some c) None)) (nat_itself c.name)
    there (d ∷ ds) = either (nat_eq c.name d.name) (there ds)
      where
        either : (b : Bool) → has_class nat_eq (ds ++ c ∷ []) c.name ≡ true → is_some (cond b (Some d) (class_named nat_eq (ds ++ c ∷ []) c.name)) ≡ true
        either true rest = refl
        either false rest = rest

    turned : (m : ℕ) → nat_eq c.name m ≡ false → nat_eq m c.name ≡ false
    turned m differs = at (nat_eq m c.name) refl
      where
        at : (b : Bool) → nat_eq m c.name ≡ b → nat_eq m c.name ≡ false
        at false e = e
        at true e = absurd (true≢false (sym (ap (nat_eq c.name) (nat_equal m c.name e) ∙ nat_itself c.name) ∙ differs))

    by : (j : ℕ) (d : ClassOf ℕ) → nat_eq c.name d.name ≡ false → (slice_get cs j ≡ Some d) ⊎ ((j ≡ length cs) × (c ≡ d)) → slice_get cs j ≡ Some d
    by j d differs (inl e) = e
    by j d differs (inr e) = absurd (true≢false (sym (ap (λ (x : ClassOf ℕ). nat_eq c.name x.name) (sym e.1) ∙ nat_itself c.name) ∙ differs))

-- without a class that has no subclass
module _ (n : ℕ) (cs : List (ClassOf ℕ)) (none : has_subclass nat_eq cs n ≡ false) where
  abbrev pub others : List (ClassOf ℕ)
  others = filter (λ (c : ClassOf ℕ). not (nat_eq n c.name)) cs

  -- it stands on no other chain
  never_stands : (k : ℕ) (c : ClassOf ℕ) → nat_eq n c.name ≡ false → option_map_or (nat_eq n) c.superclass false ≡ false → stands_in nat_eq n (upwards (superclass_of nat_eq cs) k (Some c)) ≡ false
  never_stands zero c other above = refl
  never_stands (suc k) c other above =
      ap (λ (a : Bool). a || stands_in nat_eq n (upwards (superclass_of nat_eq cs) k (superclass_of nat_eq cs c))) other ∙ by c.superclass above (λ d f g. never_stands k d f g)
    where
      nothing : stands_in nat_eq n (upwards (superclass_of nat_eq cs) k None) ≡ false
      nothing = ap (stands_in nat_eq n) (upwards-none (superclass_of nat_eq cs) k)

      at : (m : ℕ) → nat_eq n m ≡ false → (o : Option (ClassOf ℕ)) → class_named nat_eq cs m ≡ o
          → ((d : ClassOf ℕ) → nat_eq n d.name ≡ false → option_map_or (nat_eq n) d.superclass false ≡ false → stands_in nat_eq n (upwards (superclass_of nat_eq cs) k (Some d)) ≡ false)
          → stands_in nat_eq n (upwards (superclass_of nat_eq cs) k o) ≡ false
      at m differs None e rest = nothing
      at m differs (Some d) e rest =
          let place = find-place (λ (x : ClassOf ℕ). nat_eq m x.name) cs d e in
          rest d (ap (nat_eq n) (sym (nat_equal m d.name (finds (λ (x : ClassOf ℕ). nat_eq m x.name) cs d e))) ∙ differs)
          (all_place (λ (x : ClassOf ℕ). option_map_or (nat_eq n) x.superclass false ≡ false) cs place.0 d (none_pass (λ (x : ClassOf ℕ). option_map_or (nat_eq n) x.superclass false) cs none) place.1)

      by : (o : Option ℕ) → option_map_or (nat_eq n) o false ≡ false
          → ((d : ClassOf ℕ) → nat_eq n d.name ≡ false → option_map_or (nat_eq n) d.superclass false ≡ false → stands_in nat_eq n (upwards (superclass_of nat_eq cs) k (Some d)) ≡ false)
          → stands_in nat_eq n (upwards (superclass_of nat_eq cs) k (class_of_name nat_eq cs o)) ≡ false
      by None h rest = nothing
      by (Some m) h rest = at m h (class_named nat_eq cs m) refl rest

  -- the class of another name
  named_without : (m : ℕ) → nat_eq n m ≡ false → class_named nat_eq cs m ≡ class_named nat_eq others m
  named_without m differs = step cs
    where
      step : (ds : List (ClassOf ℕ)) → class_named nat_eq ds m ≡ class_named nat_eq (filter (λ (c : ClassOf ℕ). not (nat_eq n c.name)) ds) m
      step [] = refl
      step (d ∷ ds) = by (nat_eq n d.name) refl (step ds)
        where
          unlike : n ≡ d.name → (a : Bool) → nat_eq m d.name ≡ a → a ≡ false
          unlike same false q = refl
          unlike same true q = absurd (true≢false (sym (ap (nat_eq n) (nat_equal m d.name q ∙ sym same) ∙ nat_itself n) ∙ differs))

          by : (a : Bool) → nat_eq n d.name ≡ a → class_named nat_eq ds m ≡ class_named nat_eq (filter (λ (c : ClassOf ℕ). not (nat_eq n c.name)) ds) m
              → class_named nat_eq (d ∷ ds) m ≡ class_named nat_eq (cond (not a) (d ∷ filter (λ (c : ClassOf ℕ). not (nat_eq n c.name)) ds) (filter (λ (c : ClassOf ℕ). not (nat_eq n c.name)) ds)) m
          by true e rest = ap (λ (a : Bool). cond a (Some d) (class_named nat_eq ds m)) (unlike (nat_equal n d.name e) (nat_eq m d.name) refl) ∙ rest
          by false e rest = ap (cond (nat_eq m d.name) (Some d)) rest

  shorter : (ds : List (ClassOf ℕ)) → length (filter (λ (c : ClassOf ℕ). not (nat_eq n c.name)) ds) ≤ length ds
  shorter [] = omega arith
  shorter (d ∷ ds) = by (not (nat_eq n d.name)) (shorter ds)
    where
      by : (a : Bool) → length (filter (λ (c : ClassOf ℕ). not (nat_eq n c.name)) ds) ≤ length ds → length (cond a (d ∷ filter (λ (c : ClassOf ℕ). not (nat_eq n c.name)) ds) (filter (λ (c : ClassOf ℕ). not (nat_eq n c.name)) ds)) ≤ length (d ∷ ds)
      by true h = omega (arith, h)
      by false h = omega (arith, h)

  pub stays_at : (ds : List (ClassOf ℕ)) (j : ℕ) (c : ClassOf ℕ) → slice_get ds j ≡ Some c → nat_eq n c.name ≡ false → (k : ℕ) × (slice_get (filter (λ (x : ClassOf ℕ). not (nat_eq n x.name)) ds) k ≡ Some c)
  stays_at [] j c at e = absurd (cc)
  stays_at (d ∷ ds) zero c at e =
      let same : d ≡ c = cc in
      (0, ap (λ (a : Bool). slice_get (cond (not a) (d ∷ filter (λ (x : ClassOf ℕ). not (nat_eq n x.name)) ds) (filter (λ (x : ClassOf ℕ). not (nat_eq n x.name)) ds)) 0) (ap (λ (x : ClassOf ℕ). nat_eq n x.name) same ∙ e) ∙ ap Some same)
  stays_at (d ∷ ds) (suc j) c at e = by (not (nat_eq n d.name)) (stays_at ds j c at e)
    where
      by : (a : Bool) → (k : ℕ) × (slice_get (filter (λ (x : ClassOf ℕ). not (nat_eq n x.name)) ds) k ≡ Some c) → (k : ℕ) × (slice_get (cond a (d ∷ filter (λ (x : ClassOf ℕ). not (nat_eq n x.name)) ds) (filter (λ (x : ClassOf ℕ). not (nat_eq n x.name)) ds)) k ≡ Some c)
      by true r = (suc r.0, r.1)
      by false r = r

  not_true : (a : Bool) → not a ≡ true → a ≡ false
  not_true true h = absurd (true≢false (sym h))
  not_true false h = refl

  pub without_clear : (k : ℕ) (c : ClassOf ℕ) → slice_get others k ≡ Some c → stands_in nat_eq n (chain_from nat_eq cs (Some c)) ≡ false
  without_clear k c at =
      never_stands (length cs) c (not_true (nat_eq n c.name) (all_place (λ (x : ClassOf ℕ). not (nat_eq n x.name) ≡ true) others k c (filtered_pass (λ (x : ClassOf ℕ). not (nat_eq n x.name)) cs) at))
      (all_place (λ (x : ClassOf ℕ). option_map_or (nat_eq n) x.superclass false ≡ false) others k c
      (All-filter (λ (x : ClassOf ℕ). option_map_or (nat_eq n) x.superclass false ≡ false) (λ (x : ClassOf ℕ). not (nat_eq n x.name)) cs (none_pass (λ (x : ClassOf ℕ). option_map_or (nat_eq n) x.superclass false) cs none)) at)

  -- nor above one of another name
  pub clear_above : (m : ℕ) → nat_eq n m ≡ false → stands_in nat_eq n (chain_from nat_eq cs (class_named nat_eq cs m)) ≡ false
  clear_above m differs = by (class_named nat_eq cs m) refl
    where
      by : (q : Option (ClassOf ℕ)) → class_named nat_eq cs m ≡ q → stands_in nat_eq n (chain_from nat_eq cs q) ≡ false
      by None e = ap (stands_in nat_eq n) (upwards-none (superclass_of nat_eq cs) (length cs))
      by (Some d) e = let place = find-place (λ (x : ClassOf ℕ). nat_eq m x.name) others d (sym (named_without m differs) ∙ e) in without_clear place.0 d place.1

  pub without_beside : has_class nat_eq cs n ≡ true → SuperclassesStandBefore others → IsBeside n cs others
  without_beside there before = record { there = there; agree = named_without; from_old = stays_at cs; long = shorter cs; before = before }
