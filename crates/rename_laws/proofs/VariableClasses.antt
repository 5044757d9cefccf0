-- The classes after a variable of one of them has a new name.
use Rattle.std.proofs.Common.{◌≡◌, List, [], ◌∷◌, Option, Some, None, refl, sym, ap, ◌∙◌, subst}
use Rattle.std.specs.Prelude.{Bool, true, false, cond, if◌then◌else◌, ◌||◌, ◌&&◌, map, find, option_map}
use Rattle.std.specs.List.{AllByRecursion, list_any}
use Rattle.std.proofs.lemmas.Bool.{false≢true}
use Rattle.rb_base.specs.Names.{text_eq}
use Rattle.rb_base.proofs.NamesLemmas.{text_eq-refl}
use Rattle.image_model.specs.Image.{ClassOf}
use Rattle.image_model.specs.ImageNames.{OptionNames}
use Rattle.image_model.specs.Replaced.{KeepsHierarchy}
use Rattle.image_model.specs.Means.{VariableKind, of_instance, of_class_side, of_class, variables, definer}
use Rattle.image_model.specs.Uses.{same_kind}
use Rattle.image_model.proofs.Lists.{all-implies, find-map}
use Rattle.run_model.specs.Values.{Name}
use Rattle.run_model.proofs.Finite.{by_cases, any-map}
use Rattle.run_model.proofs.RenamingLemmas.{text-same}
use Rattle.resolved_model.proofs.LookupLemmas.{everywhere}
use Rattle.rename_model.specs.VariableRenamed.{with_variables}
use Rattle.rename_laws.proofs.TextsTold.{text-turned}
use Rattle.rename_laws.proofs.Unnamed.{neither_left, neither_right}
use Rattle.rename_laws.proofs.ClassesAfter.{find-nothing}

-- a class with other variables of a kind has its name
with-name : (k : VariableKind) (xs : List Name) (e : ClassOf Name) → (with_variables k xs e).name ≡ e.name
with-name of_instance xs e = refl
with-name of_class_side xs e = refl
with-name of_class xs e = refl

-- and its superclass
with-superclass : (k : VariableKind) (xs : List Name) (e : ClassOf Name) → (with_variables k xs e).superclass ≡ e.superclass
with-superclass of_instance xs e = refl
with-superclass of_class_side xs e = refl
with-superclass of_class xs e = refl

-- it has these variables of the kind
with-own : (k : VariableKind) (xs : List Name) (e : ClassOf Name) → variables k (with_variables k xs e) ≡ xs
with-own of_instance xs e = refl
with-own of_class_side xs e = refl
with-own of_class xs e = refl

-- and those of other kinds that it had
with-other : (j k : VariableKind) (xs : List Name) (e : ClassOf Name) → same_kind j k ≡ false → variables k (with_variables j xs e) ≡ variables k e
with-other of_instance of_instance xs e h = absurd (false≢true (sym h))
with-other of_instance of_class_side xs e h = refl
with-other of_instance of_class xs e h = refl
with-other of_class_side of_instance xs e h = refl
with-other of_class_side of_class_side xs e h = absurd (false≢true (sym h))
with-other of_class_side of_class xs e h = refl
with-other of_class of_instance xs e h = refl
with-other of_class of_class_side xs e h = refl
with-other of_class of_class xs e h = absurd (false≢true (sym h))

-- kinds that are told to be equal are
pub kind-same : (j k : VariableKind) → same_kind j k ≡ true → j ≡ k
kind-same of_instance of_instance h = refl
kind-same of_instance of_class_side h = absurd (false≢true h)
kind-same of_instance of_class h = absurd (false≢true h)
kind-same of_class_side of_instance h = absurd (false≢true h)
kind-same of_class_side of_class_side h = refl
kind-same of_class_side of_class h = absurd (false≢true h)
kind-same of_class of_instance h = absurd (false≢true h)
kind-same of_class of_class_side h = absurd (false≢true h)
kind-same of_class of_class h = refl

-- a kind is itself
pub kind-refl : (k : VariableKind) → same_kind k k ≡ true
kind-refl of_instance = refl
kind-refl of_class_side = refl
kind-refl of_class = refl

module _ (x y : Name) where
  -- what a variable of a class is called after
  abbrev pub called : Name → Name
  called n = if text_eq x n then y else n

  -- another name is told from each as before
  told : (n m : Name) → text_eq x n ≡ false → text_eq y n ≡ false → text_eq n (called m) ≡ text_eq n m
  told n m e f =
      by_cases (text_eq x m)
      (λ t. ap (λ b. text_eq n (if b then y else m)) t ∙ text-turned n y ∙ f ∙ sym (ap (text_eq n) (sym (text-same x m t)) ∙ text-turned n x ∙ e))
      (λ t. ap (λ b. text_eq n (if b then y else m)) t)

  all-told : (n : Name) → text_eq x n ≡ false → text_eq y n ≡ false → (ms : List Name) → list_any (text_eq n) (map called ms) ≡ list_any (text_eq n) ms
  all-told n e f [] = refl
  all-told n e f (m ∷ ms) = λ i. told n m e f i || all-told n e f ms i

  -- without the old name all are called as before
  called-same : (ms : List Name) → list_any (text_eq x) ms ≡ false → map called ms ≡ ms
  called-same [] e = refl
  called-same (m ∷ ms) e =
      λ i. ap (λ b. if b then y else m) (neither_left (text_eq x m) (list_any (text_eq x) ms) e) i ∷ called-same ms (neither_right (text_eq x m) (list_any (text_eq x) ms) e) i

  -- with it the new one is there
  called-new : (ms : List Name) → list_any (text_eq x) ms ≡ true → list_any (text_eq y) (map called ms) ≡ true
  called-new ms e = any-map (text_eq x) (text_eq y) called (λ m t. ap (λ b. text_eq y (if b then y else m)) t ∙ text_eq-refl y) ms e

module _ (kind : VariableKind) (c x y : Name) where
  -- a class after
  abbrev pub after : ClassOf Name → ClassOf Name
  after e = if text_eq c e.name then with_variables kind (map (called x y) (variables kind e)) e else e

  -- the same by whether it is the class
  abbrev after_by : Bool → ClassOf Name → ClassOf Name
  after_by b e = if b then with_variables kind (map (called x y) (variables kind e)) e else e

  -- its name and superclass stay
  name-by : (b : Bool) (e : ClassOf Name) → (after_by b e).name ≡ e.name
  name-by true e = with-name kind (map (called x y) (variables kind e)) e
  name-by false e = refl

  superclass-by : (b : Bool) (e : ClassOf Name) → (after_by b e).superclass ≡ e.superclass
  superclass-by true e = with-superclass kind (map (called x y) (variables kind e)) e
  superclass-by false e = refl

  pub keeps-hierarchy : (e : ClassOf Name) → KeepsHierarchy after e
  keeps-hierarchy e = record { name = name-by (text_eq c e.name) e; superclass = superclass-by (text_eq c e.name) e }

  -- another class stays
  after-apart : (e : ClassOf Name) → text_eq c e.name ≡ false → after e ≡ e
  after-apart e h = ap (λ b. after_by b e) h

  -- variables of another kind stay
  other-by : (b : Bool) (k : VariableKind) (e : ClassOf Name) → same_kind kind k ≡ false → variables k (after_by b e) ≡ variables k e
  other-by true k e h = with-other kind k (map (called x y) (variables kind e)) e h
  other-by false k e h = refl

  after-other : (k : VariableKind) (e : ClassOf Name) → same_kind kind k ≡ false → variables k (after e) ≡ variables k e
  after-other k e h = other-by (text_eq c e.name) k e h

  -- and those of the kind where the old name is none of them
  lacking-by : (b : Bool) (e : ClassOf Name) → list_any (text_eq x) (variables kind e) ≡ false → variables kind (after_by b e) ≡ variables kind e
  lacking-by true e h = with-own kind (map (called x y) (variables kind e)) e ∙ called-same x y (variables kind e) h
  lacking-by false e h = refl

  after-lacking : (e : ClassOf Name) → list_any (text_eq x) (variables kind e) ≡ false → variables kind (after e) ≡ variables kind e
  after-lacking e h = lacking-by (text_eq c e.name) e h

  -- of the class these are called otherwise
  after-own : (e : ClassOf Name) → text_eq c e.name ≡ true → variables kind (after e) ≡ map (called x y) (variables kind e)
  after-own e h = ap (λ b. variables kind (after_by b e)) h ∙ with-own kind (map (called x y) (variables kind e)) e

  -- a name other than the two is defined as before
  told-by : (b : Bool) (e : ClassOf Name) (n : Name) → text_eq x n ≡ false → text_eq y n ≡ false → list_any (text_eq n) (variables kind (after_by b e)) ≡ list_any (text_eq n) (variables kind e)
  told-by true e n p q = ap (list_any (text_eq n)) (with-own kind (map (called x y) (variables kind e)) e) ∙ all-told x y n p q (variables kind e)
  told-by false e n p q = refl

  after-told : (k : VariableKind) (e : ClassOf Name) (n : Name) → text_eq x n ≡ false → text_eq y n ≡ false → list_any (text_eq n) (variables k (after e)) ≡ list_any (text_eq n) (variables k e)
  after-told k e n p q =
      by_cases (same_kind kind k)
      (λ s. subst (λ l. list_any (text_eq n) (variables l (after e)) ≡ list_any (text_eq n) (variables l e)) (kind-same kind k s) (told-by (text_eq c e.name) e n p q))
      (λ s. ap (list_any (text_eq n)) (after-other k e s))

  -- whether a class defines a name, before and after
  abbrev defining : VariableKind → Name → ClassOf Name → Bool
  defining k n e = list_any (text_eq n) (variables k e)

  -- the definer of another name is the same class
  pub definer-told : (k : VariableKind) (cs : List (ClassOf Name)) (n : Name) → text_eq x n ≡ false → text_eq y n ≡ false → definer text_eq k (map after cs) n ≡ option_map after (definer text_eq k cs n)
  definer-told k cs n p q = find-map after (defining k n) (defining k n) cs (everywhere _ (λ e. after-told k e n p q) cs)

  -- so is that of any name among other classes
  pub definer-apart : (k : VariableKind) (cs : List (ClassOf Name)) (n : Name) → AllByRecursion (λ (e : ClassOf Name). text_eq c e.name ≡ false) cs → definer text_eq k (map after cs) n ≡ option_map after (definer text_eq k cs n)
  definer-apart k cs n a = find-map after (defining k n) (defining k n) cs (all-implies _ _ (λ e h. ap (defining k n) (after-apart e h)) cs a)

  -- and that of any variable of another kind
  pub definer-other : (k : VariableKind) (cs : List (ClassOf Name)) (n : Name) → same_kind kind k ≡ false → definer text_eq k (map after cs) n ≡ option_map after (definer text_eq k cs n)
  definer-other k cs n h = find-map after (defining k n) (defining k n) cs (everywhere _ (λ e. ap (list_any (text_eq n)) (after-other k e h)) cs)

  -- and that of the old name, if it is not the class
  old-own : (cs : List (ClassOf Name)) → OptionNames (λ (e : ClassOf Name). text_eq c e.name ≡ false) (definer text_eq kind cs x) → definer text_eq kind (map after cs) x ≡ option_map after (definer text_eq kind cs x)
  old-own [] h = refl
  old-own (e ∷ es) h = by (defining kind x e) refl h (old-own es)
    where
      by : (b : Bool) → defining kind x e ≡ b → OptionNames (λ (z : ClassOf Name). text_eq c z.name ≡ false) (cond b (Some e) (find (defining kind x) es)) →
          (OptionNames (λ (z : ClassOf Name). text_eq c z.name ≡ false) (find (defining kind x) es) → find (defining kind x) (map after es) ≡ option_map after (find (defining kind x) es)) →
          cond (defining kind x (after e)) (Some (after e)) (find (defining kind x) (map after es)) ≡ option_map after (cond b (Some e) (find (defining kind x) es))
      by true q k rest = ap (λ z. cond z (Some (after e)) (find (defining kind x) (map after es))) (ap (defining kind x) (after-apart e k) ∙ q)
      by false q k rest = ap (λ z. cond z (Some (after e)) (find (defining kind x) (map after es))) (ap (list_any (text_eq x)) (after-lacking e q) ∙ q) ∙ rest k

  pub definer-old : (k : VariableKind) (cs : List (ClassOf Name)) → OptionNames (λ (e : ClassOf Name). (same_kind kind k && text_eq c e.name) ≡ false) (definer text_eq k cs x) → definer text_eq k (map after cs) x ≡ option_map after (definer text_eq k cs x)
  definer-old k cs h =
      by_cases (same_kind kind k)
      (λ s. subst (λ l. definer text_eq l (map after cs) x ≡ option_map after (definer text_eq l cs x)) (kind-same kind k s) (old-own cs (subst (λ l. OptionNames (λ (e : ClassOf Name). text_eq c e.name ≡ false) (definer text_eq l cs x)) (sym (kind-same kind k s)) (less s (definer text_eq k cs x) h))))
      (λ s. definer-other k cs x s)
    where
      less : same_kind kind k ≡ true → (o : Option (ClassOf Name)) → OptionNames (λ (e : ClassOf Name). (same_kind kind k && text_eq c e.name) ≡ false) o → OptionNames (λ (e : ClassOf Name). text_eq c e.name ≡ false) o
      less s None g = tt
      less s (Some e) g = sym (ap (λ b. b && text_eq c e.name) s) ∙ g

  -- the definer of the new name, which no class defined, is the class, if that was the definer of the old one
  new-own : (cs : List (ClassOf Name)) (d : ClassOf Name) → AllByRecursion (λ (e : ClassOf Name). defining kind y e ≡ false) cs → definer text_eq kind cs x ≡ Some d → text_eq c d.name ≡ true → definer text_eq kind (map after cs) y ≡ Some (after d)
  new-own [] d a q own = absurd (nothing q)
    where
      nothing : None ≡ Some d → ⊥
      nothing r = cc
  new-own (e ∷ es) d a q own = by (defining kind x e) refl q (λ r. new-own es d a.1 r own)
    where
      by : (b : Bool) → defining kind x e ≡ b → cond b (Some e) (find (defining kind x) es) ≡ Some d → (find (defining kind x) es ≡ Some d → find (defining kind y) (map after es) ≡ Some (after d)) →
          cond (defining kind y (after e)) (Some (after e)) (find (defining kind y) (map after es)) ≡ Some (after d)
      by true p r rest =
          let same : e ≡ d = cc in
          ap (λ z. cond z (Some (after e)) (find (defining kind y) (map after es))) (ap (list_any (text_eq y)) (after-own e (ap (λ (z : ClassOf Name). text_eq c z.name) same ∙ own)) ∙ called-new x y (variables kind e) p)
          ∙ ap (λ z. Some (after z)) same
      by false p r rest = ap (λ z. cond z (Some (after e)) (find (defining kind y) (map after es))) (ap (list_any (text_eq y)) (after-lacking e p) ∙ a.0) ∙ rest r

  pub definer-new : (k : VariableKind) (cs : List (ClassOf Name)) (d : ClassOf Name) → same_kind kind k ≡ true → AllByRecursion (λ (e : ClassOf Name). list_any (text_eq y) (variables kind e) ≡ false) cs → definer text_eq k cs x ≡ Some d → text_eq c d.name ≡ true → definer text_eq k (map after cs) y ≡ Some (after d)
  definer-new k cs d s a q own =
      subst (λ l. definer text_eq l (map after cs) y ≡ Some (after d)) (kind-same kind k s) (new-own cs d a (ap (λ l. definer text_eq l cs x) (kind-same kind k s) ∙ q) own)

  -- no class has a variable of another kind by the new name
  pub definer-none : (k : VariableKind) (cs : List (ClassOf Name)) → same_kind kind k ≡ false → AllByRecursion (λ (e : ClassOf Name). list_any (text_eq y) (variables k e) ≡ false) cs → definer text_eq k (map after cs) y ≡ None
  definer-none k cs h a = definer-other k cs y h ∙ ap (option_map after) (find-nothing (defining k y) cs a)
