-- Classes of which one is defined again or put in: what else is found, and that no variable stands twice.
use Rattle.std.proofs.Common.{◌≡◌, ◌⊎◌, inl, inr, ℕ, Bool, true, false, cond, List, [], ◌∷◌, ◌++◌, length, Some, None, slice_get, refl, sym, ap, ◌∙◌, true≢false, arith}
use Rattle.std.specs.Prelude.{is_some, if◌then◌else◌}
use Rattle.std.specs.List.{AllByRecursion}
use Rattle.rb_base.specs.Names.{text_eq}
use Rattle.rb_base.proofs.NamesLemmas.{text_eq-refl}
use Rattle.image_model.specs.Image.{ClassOf}
use Rattle.image_model.specs.Chain.{class_named}
use Rattle.image_model.specs.Valid.{SuperclassesStandBefore}
use Rattle.image_model.proofs.ChainLemmas.{slice_get-map}
use Rattle.image_model.proofs.Ends.{find-end, slice_get-end, length-end}
use Rattle.image_model.proofs.Lists.{length-map}
use Rattle.file_model.specs.Applied.{changed_class}
use Rattle.file_model.specs.Filing.{Text}
use Rattle.file_model.specs.Hierarchy.{has_class}
use Rattle.file_laws.proofs.Chains.{IsBeside}
use Rattle.file_laws.proofs.Defined.{has_changed}
use Rattle.file_laws.proofs.Moves.{text_equal}

-- what holds of each class, where that of a name is changed
pub all_changed : (P : ClassOf Text → Type 0) (n : Text) (f : ClassOf Text → ClassOf Text) (cs : List (ClassOf Text)) → AllByRecursion (λ (c : ClassOf Text). P c × (text_eq n c.name ≡ true → P (f c))) cs → AllByRecursion P (changed_class text_eq n f cs)
all_changed P n f [] all = tt
all_changed P n f (c ∷ cs) all = (by (text_eq n c.name) refl, all_changed P n f cs all.1)
  where
    by : (b : Bool) → text_eq n c.name ≡ b → P (if b then f c else c)
    by true e = all.0.1 e
    by false e = all.0.0

module _ (n : Text) (f : ClassOf Text → ClassOf Text) (keeps : (c : ClassOf Text) → (f c).name ≡ c.name) where
  -- a name of another text is not that of the class
  unlike : (m t : Text) → text_eq n m ≡ false → n ≡ t → text_eq m t ≡ false
  unlike m t differs same = by (text_eq m t) refl
    where
      by : (b : Bool) → text_eq m t ≡ b → text_eq m t ≡ false
      by false e = e
      by true e = absurd (true≢false (sym (ap (text_eq n) (text_equal m t e ∙ sym same) ∙ text_eq-refl n) ∙ differs))

  found_changed : (cs : List (ClassOf Text)) (m : Text) → text_eq n m ≡ false → class_named text_eq (changed_class text_eq n f cs) m ≡ class_named text_eq cs m
  found_changed [] m differs = refl
  found_changed (c ∷ cs) m differs = by (text_eq n c.name) refl (found_changed cs m differs)
    where
      by : (b : Bool) → text_eq n c.name ≡ b → class_named text_eq (changed_class text_eq n f cs) m ≡ class_named text_eq cs m
          → class_named text_eq ((if b then f c else c) ∷ changed_class text_eq n f cs) m ≡ class_named text_eq (c ∷ cs) m
      by true e rest =
          let other : text_eq m c.name ≡ false = unlike m c.name differs (text_equal n c.name e) in
          ap (λ (b : Bool). cond b (Some (f c)) (class_named text_eq (changed_class text_eq n f cs) m)) (ap (text_eq m) (keeps c) ∙ other)
          ∙ rest ∙ sym (ap (λ (b : Bool). cond b (Some c) (class_named text_eq cs m)) other)
      by false e rest = ap (cond (text_eq m c.name) (Some c)) rest

  -- a class of another name stands where it stood
  old_place : (cs : List (ClassOf Text)) (j : ℕ) (c : ClassOf Text) → slice_get (changed_class text_eq n f cs) j ≡ Some c → text_eq n c.name ≡ false → (k : ℕ) × (slice_get cs k ≡ Some c)
  old_place cs j c at differs =
      let was = slice_get-map (λ (x : ClassOf Text). if text_eq n x.name then f x else x) cs j c at in
      (j, was.1 ∙ ap Some (by was.0 (text_eq n was.0.name) refl was.2))
    where
      by : (d : ClassOf Text) (b : Bool) → text_eq n d.name ≡ b → (if b then f d else d) ≡ c → d ≡ c
      by d false e same = same
      by d true e same = absurd (true≢false (sym e ∙ ap (text_eq n) (sym (keeps d) ∙ ap (λ (x : ClassOf Text). x.name) same) ∙ differs))

  -- the classes with another class for that of a name
  pub changed_beside : (cs : List (ClassOf Text)) → SuperclassesStandBefore cs → has_class text_eq cs n ≡ true → IsBeside n (changed_class text_eq n f cs) cs
  changed_beside cs before there = record {
    there = has_changed text_eq text_eq-refl text_equal n n f keeps cs ∙ there;
    agree = found_changed cs;
    from_old = old_place cs;
    long = omega (arith, length-map (λ (x : ClassOf Text). if text_eq n x.name then f x else x) cs);
    before = before;
  }

-- the classes with a new one
pub new_beside : (c : ClassOf Text) (cs : List (ClassOf Text)) → SuperclassesStandBefore cs → IsBeside c.name (cs ++ c ∷ []) cs
new_beside c cs before = record {
  there = there cs;
  agree = λ m differs. find-end (λ (x : ClassOf Text). text_eq m x.name) cs c (turned m differs);
  from_old = λ j d at differs. (j, by j d differs (slice_get-end cs c d j at));
  long = omega (arith, length-end cs c);
  before = before;
}
  where
    there : (ds : List (ClassOf Text)) → has_class text_eq (ds ++ c ∷ []) c.name ≡ true
    there [] = ap (λ (b : Bool). is_some (cond b (Some c) None)) (text_eq-refl c.name)
    there (d ∷ ds) = either (text_eq c.name d.name) (there ds)
      where
        either : (b : Bool) → has_class text_eq (ds ++ c ∷ []) c.name ≡ true → is_some (cond b (Some d) (class_named text_eq (ds ++ c ∷ []) c.name)) ≡ true
        either true rest = refl
        either false rest = rest

    turned : (m : Text) → text_eq c.name m ≡ false → text_eq m c.name ≡ false
    turned m differs = at (text_eq m c.name) refl
      where
        at : (b : Bool) → text_eq m c.name ≡ b → text_eq m c.name ≡ false
        at false e = e
        at true e = absurd (true≢false (sym (ap (text_eq c.name) (text_equal m c.name e) ∙ text_eq-refl c.name) ∙ differs))

    by : (j : ℕ) (d : ClassOf Text) → text_eq c.name d.name ≡ false → (slice_get cs j ≡ Some d) ⊎ ((j ≡ length cs) × (c ≡ d)) → slice_get cs j ≡ Some d
    by j d differs (inl e) = e
    by j d differs (inr e) = absurd (true≢false (sym (ap (λ (x : ClassOf Text). text_eq c.name x.name) (sym e.1) ∙ text_eq-refl c.name) ∙ differs))
