-- What keeps the names of classes different.
use Rattle.std.proofs.Common.{◌≡◌, ◌⊎◌, ◌≢◌, inl, inr, ℕ, Bool, true, false, cond, List, [], ◌∷◌, ◌++◌, filter, find, is_some, Some, nat_eq, refl, sym, ap, ◌∙◌, true≢false}
use Rattle.std.proofs.lemmas.Bool.Decides.{eqb_tells}
use Rattle.image_model.specs.Image.{ClassOf}
use Rattle.file_model.specs.Changes.{DefinitionOf}
use Rattle.file_model.specs.Hierarchy.{has_class}
use Rattle.file_model.specs.Applied.{changed_class, class_again, new_class, with_definition}
use Rattle.image_draft.specs.Names.{NamesDiffer}
use Rattle.image_draft.proofs.Numbers.{nat_itself}

-- classes that are changed and keep their names
module _ (n : ℕ) (g : ClassOf ℕ → ClassOf ℕ) (keeps : (c : ClassOf ℕ) → (g c).name ≡ c.name) where
  pub has_class-changed : (cs : List (ClassOf ℕ)) (m : ℕ) → has_class nat_eq (changed_class nat_eq n g cs) m ≡ has_class nat_eq cs m
  has_class-changed [] m = refl
  has_class-changed (x ∷ xs) m = by (nat_eq n x.name) (has_class-changed xs m)
    where
      tested : (y : ClassOf ℕ) → y.name ≡ x.name → has_class nat_eq (changed_class nat_eq n g xs) m ≡ has_class nat_eq xs m → is_some (cond (nat_eq m y.name) (Some y) (find (λ (c : ClassOf ℕ). nat_eq m c.name) (changed_class nat_eq n g xs))) ≡ has_class nat_eq (x ∷ xs) m
      tested y same rest = ap (λ (k : ℕ). is_some (cond (nat_eq m k) (Some y) (find (λ (c : ClassOf ℕ). nat_eq m c.name) (changed_class nat_eq n g xs)))) same ∙ either (nat_eq m x.name)
        where
          either : (b : Bool) → is_some (cond b (Some y) (find (λ (c : ClassOf ℕ). nat_eq m c.name) (changed_class nat_eq n g xs))) ≡ is_some (cond b (Some x) (find (λ (c : ClassOf ℕ). nat_eq m c.name) xs))
          either true = refl
          either false = rest

      by : (b : Bool) → has_class nat_eq (changed_class nat_eq n g xs) m ≡ has_class nat_eq xs m → has_class nat_eq (cond b (g x) x ∷ changed_class nat_eq n g xs) m ≡ has_class nat_eq (x ∷ xs) m
      by true rest = tested (g x) (keeps x) rest
      by false rest = tested x refl rest

  pub NamesDiffer-changed : (cs : List (ClassOf ℕ)) → NamesDiffer cs → NamesDiffer (changed_class nat_eq n g cs)
  NamesDiffer-changed [] h = tt
  NamesDiffer-changed (x ∷ xs) h = (ap (has_class nat_eq (changed_class nat_eq n g xs)) (by (nat_eq n x.name)) ∙ has_class-changed xs x.name ∙ h.0, NamesDiffer-changed xs h.1)
    where
      by : (b : Bool) → (cond b (g x) x).name ≡ x.name
      by true = keeps x
      by false = refl

-- a name is absent from a list, and from its first class and the rest
pub absent-both : (x : ClassOf ℕ) (xs : List (ClassOf ℕ)) (m : ℕ) → has_class nat_eq (x ∷ xs) m ≡ false → (nat_eq m x.name ≡ false) × (has_class nat_eq xs m ≡ false)
absent-both x xs m h = by (nat_eq m x.name) refl h
  where
    by : (b : Bool) → nat_eq m x.name ≡ b → is_some (cond b (Some x) (find (λ (c : ClassOf ℕ). nat_eq m c.name) xs)) ≡ false → (nat_eq m x.name ≡ false) × (has_class nat_eq xs m ≡ false)
    by true e k = absurd (true≢false k)
    by false e k = (e, k)

absent-of : (x : ClassOf ℕ) (xs : List (ClassOf ℕ)) (m : ℕ) → nat_eq m x.name ≡ false → has_class nat_eq xs m ≡ false → has_class nat_eq (x ∷ xs) m ≡ false
absent-of x xs m e h = ap (λ (b : Bool). is_some (cond b (Some x) (find (λ (c : ClassOf ℕ). nat_eq m c.name) xs))) e ∙ h

-- two numbers that differ do so the other way round
pub differ_back : (m n : ℕ) → nat_eq m n ≡ false → nat_eq n m ≡ false
differ_back m n h = by (eqb_tells n m)
  where
    by : ((nat_eq n m ≡ true) × (n ≡ m)) ⊎ ((nat_eq n m ≡ false) × (n ≢ m)) → nat_eq n m ≡ false
    by (inl t) = absurd (true≢false (sym (nat_itself n) ∙ ap (λ (k : ℕ). nat_eq k n) t.1 ∙ h))
    by (inr t) = t.0

-- one more class of another name
absent-last : (cs : List (ClassOf ℕ)) (c : ClassOf ℕ) (m : ℕ) → nat_eq m c.name ≡ false → has_class nat_eq cs m ≡ false → has_class nat_eq (cs ++ c ∷ []) m ≡ false
absent-last [] c m e h = absent-of c [] m e refl
absent-last (x ∷ xs) c m e h = let both = absent-both x xs m h in absent-of x (xs ++ c ∷ []) m both.0 (absent-last xs c m e both.1)

pub NamesDiffer-last : (cs : List (ClassOf ℕ)) (c : ClassOf ℕ) → has_class nat_eq cs c.name ≡ false → NamesDiffer cs → NamesDiffer (cs ++ c ∷ [])
NamesDiffer-last [] c e h = (refl, tt)
NamesDiffer-last (x ∷ xs) c e h = let both = absent-both x xs c.name e in (absent-last xs c x.name (differ_back c.name x.name both.0) h.0, NamesDiffer-last xs c both.1 h.1)

-- classes that pass
absent-filter : (p : ClassOf ℕ → Bool) (cs : List (ClassOf ℕ)) (m : ℕ) → has_class nat_eq cs m ≡ false → has_class nat_eq (filter p cs) m ≡ false
absent-filter p [] m h = refl
absent-filter p (x ∷ xs) m h = by (p x) (absent-both x xs m h) (absent-filter p xs m)
  where
    by : (b : Bool) → (nat_eq m x.name ≡ false) × (has_class nat_eq xs m ≡ false) → (has_class nat_eq xs m ≡ false → has_class nat_eq (filter p xs) m ≡ false) → has_class nat_eq (cond b (x ∷ filter p xs) (filter p xs)) m ≡ false
    by true both rest = absent-of x (filter p xs) m both.0 (rest both.1)
    by false both rest = rest both.1

pub NamesDiffer-filter : (p : ClassOf ℕ → Bool) (cs : List (ClassOf ℕ)) → NamesDiffer cs → NamesDiffer (filter p cs)
NamesDiffer-filter p [] h = tt
NamesDiffer-filter p (x ∷ xs) h = by (p x) (NamesDiffer-filter p xs h.1)
  where
    by : (b : Bool) → NamesDiffer (filter p xs) → NamesDiffer (cond b (x ∷ filter p xs) (filter p xs))
    by true rest = (absent-filter p xs x.name h.0, rest)
    by false rest = rest

-- classes with a definition
pub NamesDiffer-with_definition : (kernel : Bool) (d : DefinitionOf ℕ) (cs : List (ClassOf ℕ)) → NamesDiffer cs → NamesDiffer (with_definition nat_eq kernel d cs)
NamesDiffer-with_definition kernel d cs h = by (has_class nat_eq cs d.name) refl
  where
    by : (b : Bool) → has_class nat_eq cs d.name ≡ b → NamesDiffer (cond b (changed_class nat_eq d.name (class_again d) cs) (cs ++ new_class kernel d ∷ []))
    by true e = NamesDiffer-changed d.name (class_again d) (λ c. refl) cs h
    by false e = NamesDiffer-last cs (new_class kernel d) e h
