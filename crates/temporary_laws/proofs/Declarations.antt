-- Declarations in which one name has another: what a name stands for is the same under the other name.
use Rattle.std.proofs.Common.{◌≡◌, ◌+◌, List, [], ◌∷◌, ◌++◌, Some, refl, sym, ap, ◌∙◌, subst}
use Rattle.std.specs.Prelude.{Bool, true, false, cond, not, ◌&&◌, ◌||◌, if◌then◌else◌, map, find, option_map, is_some}
use Rattle.std.specs.List.{AllByRecursion, list_any}
use Rattle.std.proofs.lemmas.Bool.{false≢true}
use Rattle.std.proofs.lemmas.List.{map-append}
use Rattle.rb_base.specs.Names.{text_eq}
use Rattle.rb_base.proofs.NamesLemmas.{text_eq-refl}
use Rattle.scope_model.specs.SpecialNames.{is_pseudo_variable}
use Rattle.scope_model.proofs.ListsOfNames.{AllByRecursion-append}
use Rattle.image_model.specs.Means.{MeaningOf}
use Rattle.image_model.proofs.Lists.{all-implies, all-map}
use Rattle.run_model.specs.Values.{Name}
use Rattle.run_model.proofs.Finite.{by_cases, any-left, any-right}
use Rattle.run_model.proofs.RenamingLemmas.{text-same}
use Rattle.resolved_model.specs.ResolvedTrees.{of_word, to_fixed}
use Rattle.resolved_model.proofs.LookupLemmas.{everywhere}
use Rattle.rename_laws.proofs.TextsTold.{text-turned}
use Rattle.rename_laws.proofs.ChainFacts.{other-holds}
use Rattle.rename_laws.proofs.Unnamed.{each-fails}
use Rattle.resolved_model.specs.Environments.{Declared, as_argument, as_temporary, opened, kind_in, place_in, reference_by, target_by, reference_in, target_in}

module _ (x y : Name) where
  -- what a name is called after, where it is declared
  abbrev pub to : Name → Name
  to n = if text_eq x n then y else n

  -- and where it is used, inside a scope that declares the old name or outside
  abbrev pub called_inside : Bool → Name → Name
  called_inside inside n = if inside then to n else n

  -- a declaration with its new name
  abbrev pub anew : Declared → Declared
  anew d = record { name = to d.name; is_temporary = d.is_temporary }

  -- whether the old name is declared, and that the new one is not
  abbrev pub has : List Declared → Bool
  has env = list_any (λ (d : Declared). text_eq x d.name) env

  abbrev pub Lacks : List Declared → Type 0
  Lacks env = AllByRecursion (λ (d : Declared). text_eq y d.name ≡ false) env

  -- a name is told from declarations after as another was before
  abbrev Told : (n m : Name) → List Declared → Type 0
  Told n m env = AllByRecursion (λ (d : Declared). text_eq m (to d.name) ≡ text_eq n d.name) env

  -- so it has the kind of that, and its place
  kind-told : (n m : Name) (env : List Declared) → Told n m env → kind_in (map anew env) m ≡ kind_in env n
  kind-told n m [] a = refl
  kind-told n m (d ∷ ds) a =
      ap (λ b. option_map (λ (z : Declared). z.is_temporary) (cond b (Some (anew d)) (find (λ (z : Declared). text_eq m z.name) (map anew ds)))) a.0 ∙ by (text_eq n d.name) (kind-told n m ds a.1)
    where
      by : (b : Bool) → kind_in (map anew ds) m ≡ kind_in ds n →
          option_map (λ (z : Declared). z.is_temporary) (cond b (Some (anew d)) (find (λ (z : Declared). text_eq m z.name) (map anew ds))) ≡ option_map (λ (z : Declared). z.is_temporary) (cond b (Some d) (find (λ (z : Declared). text_eq n z.name) ds))
      by true e = refl
      by false e = e

  place-told : (n m : Name) (env : List Declared) → Told n m env → place_in (map anew env) m ≡ place_in env n
  place-told n m [] a = refl
  place-told n m (d ∷ ds) a =
      ap (λ b. cond (not b) (1 + place_in (map anew ds) m) 0) a.0 ∙ ap (λ k. cond (not (text_eq n d.name)) (1 + k) 0) (place-told n m ds a.1)

  -- the new name is told as the old one was
  new-told : (env : List Declared) → Lacks env → Told x y env
  new-told env lacks =
      all-implies _ _
      (λ d h. by_cases (text_eq x d.name) (λ t. ap (λ b. text_eq y (if b then y else d.name)) t ∙ text_eq-refl y ∙ sym t) (λ t. ap (λ b. text_eq y (if b then y else d.name)) t ∙ h ∙ sym t)) env lacks

  -- the old one, where it is not declared
  old-told : (env : List Declared) → has env ≡ false → Told x x env
  old-told env none = all-implies _ _ (λ d t. ap (λ b. text_eq x (if b then y else d.name)) t) env (each-fails (λ (d : Declared). text_eq x d.name) env none)

  -- and any other
  other-told : (n : Name) → text_eq x n ≡ false → text_eq y n ≡ false → (env : List Declared) → Told n n env
  other-told n e f env =
      everywhere _
      (λ (d : Declared). by_cases (text_eq x d.name)
      (λ t. ap (λ b. text_eq n (if b then y else d.name)) t ∙ text-turned n y ∙ f ∙ sym (ap (text_eq n) (sym (text-same x d.name t)) ∙ text-turned n x ∙ e))
      (λ t. ap (λ b. text_eq n (if b then y else d.name)) t))
      env

  -- a name that is declared has a kind
  has-kind : (env : List Declared) → has env ≡ true → (b : Bool) × (kind_in env x ≡ Some b)
  has-kind [] h = absurd (false≢true h)
  has-kind (d ∷ ds) h =
      by_cases (text_eq x d.name) (λ t. (d.is_temporary, ap (λ b. option_map (λ (z : Declared). z.is_temporary) (cond b (Some d) (find (λ (z : Declared). text_eq x z.name) ds))) t))
      (λ t. let rest = has-kind ds (other-holds (text_eq x d.name) (has ds) t h) in
      (rest.0, ap (λ b. option_map (λ (z : Declared). z.is_temporary) (cond b (Some d) (find (λ (z : Declared). text_eq x z.name) ds))) t ∙ rest.1))

  has-told : (env : List Declared) → has env ≡ is_some (kind_in env x)
  has-told [] = refl
  has-told (d ∷ ds) = by (text_eq x d.name) (has-told ds)
    where
      by : (b : Bool) → has ds ≡ is_some (kind_in ds x) → (b || has ds) ≡ is_some (option_map (λ (z : Declared). z.is_temporary) (cond b (Some d) (find (λ (z : Declared). text_eq x z.name) ds)))
      by true e = refl
      by false e = e

  -- whether the old name stands for one of the declarations
  abbrev pub knows : List Declared → Bool
  knows env = not (is_pseudo_variable x) && has env

  -- what a name is called among them
  abbrev pub called_among : List Declared → Name → Name
  called_among env n = called_inside (knows env) n

  pub knows-told : (env : List Declared) → knows env ≡ (not (is_pseudo_variable x) && is_some (kind_in env x))
  knows-told env = ap (λ b. not (is_pseudo_variable x) && b) (has-told env)

  -- another name is called as before
  pub other-called : (b : Bool) (n : Name) → text_eq x n ≡ false → called_inside b n ≡ n
  other-called true n e = ap (λ z. if z then y else n) e
  other-called false n e = refl

  -- the place is inside a scope that declares what the old name stands for, or is not
  abbrev Inside : Bool → List Declared → Type 0
  Inside b env = b ≡ knows env

  inside-proper : (p h : Bool) → true ≡ (not p && h) → (p ≡ false) × (h ≡ true)
  inside-proper true h e = absurd (false≢true (sym e))
  inside-proper false h e = (refl, sym e)

  outside-lacks : (p h : Bool) → false ≡ (not p && h) → p ≡ false → h ≡ false
  outside-lacks true h e q = absurd (false≢true (sym q))
  outside-lacks false h e q = sym e

  module _ (proper : is_pseudo_variable y ≡ false) (env : List Declared) (lacks : Lacks env) (g : Name → MeaningOf Name) where
    -- the same name, told as before
    reference-same : (n : Name) → Told n n env → reference_in (map anew env) (g n) n ≡ reference_in env (g n) n
    reference-same n a = λ k. if is_pseudo_variable n then of_word n else reference_by (kind-told n n env a k) (place-told n n env a k) (g n) n

    target-same : (n : Name) → Told n n env → target_in (map anew env) (g n) n ≡ target_in env (g n) n
    target-same n a = λ k. if is_pseudo_variable n then to_fixed n else target_by (kind-told n n env a k) (place-told n n env a k) (g n) n

    -- the old name
    reference-old : (b : Bool) → Inside b env → reference_in (map anew env) (g (called_inside b x)) (called_inside b x) ≡ reference_in env (g x) x
    reference-old true inside =
        let both = inside-proper (is_pseudo_variable x) (has env) inside in
        let kind = has-kind env both.1 in
        ap (λ b. reference_in (map anew env) (g (if b then y else x)) (if b then y else x)) (text_eq-refl x)
        ∙ (λ k. if proper k then of_word y else reference_by ((kind-told x y env (new-told env lacks) ∙ kind.1) k) (place-told x y env (new-told env lacks) k) (g y) y)
        ∙ sym (λ k. if both.0 k then of_word x else reference_by (kind.1 k) (place_in env x) (g x) x)
    reference-old false inside =
        by_cases (is_pseudo_variable x)
        (λ t. ap (λ b. if b then of_word x else reference_by (kind_in (map anew env) x) (place_in (map anew env) x) (g x) x) t ∙ sym (ap (λ b. if b then of_word x else reference_by (kind_in env x) (place_in env x) (g x) x) t))
        (λ t. reference-same x (old-told env (outside-lacks (is_pseudo_variable x) (has env) inside t)))

    -- assigned, where no argument has it
    target-old : (b : Bool) → Inside b env → (kind_in env x ≡ Some false → ⊥) → target_in (map anew env) (g (called_inside b x)) (called_inside b x) ≡ target_in env (g x) x
    target-old true inside loose =
        let both = inside-proper (is_pseudo_variable x) (has env) inside in
        let kind = has-kind env both.1 in
        let temporary : kind_in env x ≡ Some true = by kind.0 kind.1 in
        ap (λ b. target_in (map anew env) (g (if b then y else x)) (if b then y else x)) (text_eq-refl x)
        ∙ (λ k. if proper k then to_fixed y else target_by ((kind-told x y env (new-told env lacks) ∙ temporary) k) (place-told x y env (new-told env lacks) k) (g y) y)
        ∙ sym (λ k. if both.0 k then to_fixed x else target_by (temporary k) (place_in env x) (g x) x)
      where
        by : (b : Bool) → kind_in env x ≡ Some b → kind_in env x ≡ Some true
        by true e = e
        by false e = absurd (loose e)
    target-old false inside loose =
        by_cases (is_pseudo_variable x)
        (λ t. ap (λ b. if b then to_fixed x else target_by (kind_in (map anew env) x) (place_in (map anew env) x) (g x) x) t ∙ sym (ap (λ b. if b then to_fixed x else target_by (kind_in env x) (place_in env x) (g x) x) t))
        (λ t. target-same x (old-told env (outside-lacks (is_pseudo_variable x) (has env) inside t)))

    -- what is read under any name, and what is assigned, is as before
    pub reference-kept : (n : Name) → text_eq y n ≡ false → reference_in (map anew env) (g (called_among env n)) (called_among env n) ≡ reference_in env (g n) n
    reference-kept n f =
        by_cases (text_eq x n)
        (λ t. subst (λ z. reference_in (map anew env) (g (called_among env z)) (called_among env z) ≡ reference_in env (g z) z) (text-same x n t) (reference-old (knows env) refl))
        (λ t. ap (λ z. reference_in (map anew env) (g z) z) (other-called (knows env) n t) ∙ reference-same n (other-told n t f env))

    pub target-kept : (n : Name) → text_eq y n ≡ false → (kind_in env n ≡ Some false → ⊥) → target_in (map anew env) (g (called_among env n)) (called_among env n) ≡ target_in env (g n) n
    target-kept n f loose =
        by_cases (text_eq x n)
        (λ t. subst (λ z. (kind_in env z ≡ Some false → ⊥) → target_in (map anew env) (g (called_among env z)) (called_among env z) ≡ target_in env (g z) z) (text-same x n t) (target-old (knows env) refl) loose)
        (λ t. ap (λ z. target_in (map anew env) (g z) z) (other-called (knows env) n t) ∙ target-same n (other-told n t f env))

  -- declarations of one kind in front
  made-anew : (make : Name → Declared) → ((n : Name) → make (to n) ≡ anew (make n)) → (ns : List Name) → map make (map to ns) ≡ map anew (map make ns)
  made-anew make h [] = refl
  made-anew make h (n ∷ ns) = λ k. h n k ∷ made-anew make h ns k

  -- a scope that is entered
  pub opened-anew : (qs ts : List Name) (env : List Declared) → opened (map to qs) (map to ts) (map anew env) ≡ map anew (opened qs ts env)
  opened-anew qs ts env =
      (λ k. made-anew as_argument (λ n. refl) qs k ++ (made-anew as_temporary (λ n. refl) ts k ++ map anew env))
      ∙ ap (λ l. map anew (map as_argument qs) ++ l) (sym (map-append anew (map as_temporary ts) env))
      ∙ sym (map-append anew (map as_argument qs) (map as_temporary ts ++ env))

  pub lacks-opened : (qs ts : List Name) (env : List Declared) → list_any (text_eq y) (qs ++ ts) ≡ false → Lacks env → Lacks (opened qs ts env)
  lacks-opened qs ts env none lacks =
      AllByRecursion-append (λ (d : Declared). text_eq y d.name ≡ false) (map as_argument qs) (map as_temporary ts ++ env)
      (all-map (λ (d : Declared). text_eq y d.name ≡ false) as_argument qs (each-fails (text_eq y) qs (any-left (text_eq y) qs ts none)))
      (AllByRecursion-append (λ (d : Declared). text_eq y d.name ≡ false) (map as_temporary ts) env
      (all-map (λ (d : Declared). text_eq y d.name ≡ false) as_temporary ts (each-fails (text_eq y) ts (any-right (text_eq y) qs ts none))) lacks)
