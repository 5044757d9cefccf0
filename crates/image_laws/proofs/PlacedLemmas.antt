-- Valid images in which a class or a method is put in at a place or taken out of it.
use Rattle.std.proofs.Common.{◌≡◌, ◌⊎◌, inl, inr, ℕ, zero, suc, ◌+◌, ◌<◌, Bool, true, false, cond, List, [], ◌∷◌, ◌++◌, length, map, find, take, drop, Option, None, Some, option_map, unwrap_or, slice_get, Contains, refl, sym, ap, subst, ◌∙◌, arith}
use Rattle.std.specs.Prelude.{filter}
use Rattle.std.specs.List.{AllByRecursion, flat_map}
use Rattle.std.specs.Option.{option_or}
use Rattle.std.proofs.lemmas.List.{map-append, take-append-drop, length-take}
use Rattle.std.proofs.lemmas.Option.{slice_get_within}
use Rattle.scope_model.specs.Scope.{local_in}
use Rattle.image_model.specs.Image.{ClassOf, EntryOf, ImageOf}
use Rattle.image_model.specs.ImageNames.{OptionNames}
use Rattle.image_model.specs.Words.{WordsOf}
use Rattle.image_model.specs.Upwards.{upwards, first_given}
use Rattle.image_model.specs.Chain.{class_named, class_of_name, superclass_of, chain_from, chain}
use Rattle.image_model.specs.Lookup.{own_method, on_chain, as_object, lookup}
use Rattle.image_model.specs.Means.{VariableKind, of_instance, of_class_side, of_class, variables, pseudo, a_class, transcript, undeclared, as_variable, side_kind, means_along, means_outside, means_by, means}
use Rattle.image_model.specs.Valid.{ReadingOf, HasNoRepeat, class_names, SuperclassesStandBefore, DefinesOnceOnChain, signature, HasClass, IsValid}
use Rattle.image_model.specs.Grown.{variables_up, IsNewClass, IsNewMethod}
use Rattle.image_model.proofs.Lists.{all-implies, find-all, length-map}
use Rattle.image_model.proofs.Ends.{contains-place, place-contains, all-at, find-place}
use Rattle.image_model.proofs.UpwardsLemmas.{upwards-none, upwards-enough}
use Rattle.image_model.proofs.ChainLemmas.{superclass_before, chain_from-step}
use Rattle.image_model.proofs.Middles.{HasNoRepeat-less, all-less, all-more, filter-more}
use Rattle.image_model.proofs.MethodLemmas.{IsValid-less}
use Rattle.image_model.proofs.Kept.{lookup-without}
use Rattle.image_laws.specs.Placed.{without_class, with_class_at, without_method, with_method_at, TellsApart, IsUnused, FollowsSuperclass}
use Rattle.image_laws.proofs.Middles.{past, past-more, past-less, past-front, past-apart, get-past, get-middle, get-cases, contains-more, contains-less, HasNoRepeat-more, find-more, all-get, all-of-each}

length-more : {X : Type 0} (front : List X) (x : X) (back : List X) → length (front ++ x ∷ back) ≡ length (front ++ back) + 1
length-more [] x back = omega arith
length-more (z ∷ zs) x back = omega (arith, length-more zs x back)

module _ {N : Type 0} (same : N → N → Bool) (apart : TellsApart same) (front : List (ClassOf N)) (c : ClassOf N) (back : List (ClassOf N)) where
  abbrev less : List (ClassOf N)
  less = front ++ back

  abbrev more : List (ClassOf N)
  more = front ++ c ∷ back

  reflexive : (n : N) → same n n ≡ true
  reflexive n = (apart n n).1 refl

  -- another name fails the test
  other : (n : N) → (n ≡ c.name → ⊥) → same n c.name ≡ false
  other n ne = by (same n c.name) refl
    where
      by : (b : Bool) → same n c.name ≡ b → same n c.name ≡ false
      by true e = absurd (ne ((apart n c.name).0 e))
      by false e = e

  names-more : class_names more ≡ class_names front ++ c.name ∷ class_names back
  names-more = map-append (λ (d : ClassOf N). d.name) front (c ∷ back)

  names-less : class_names less ≡ class_names front ++ class_names back
  names-less = map-append (λ (d : ClassOf N). d.name) front back

  names-length : length (class_names front) ≡ length front
  names-length = length-map (λ (d : ClassOf N). d.name) front

  -- a name stands at its place past the new one
  name-past : (j : ℕ) → slice_get (class_names more) (past (length front) j) ≡ slice_get (class_names less) j
  name-past j =
      (λ i. slice_get (names-more i) (past (sym names-length i) j)) ∙ get-past (class_names front) c.name (class_names back) j ∙ ap (λ (ns : List N). slice_get ns j) (sym names-less)

  -- the name of the class stands at its place
  named-middle : slice_get (class_names more) (length front) ≡ Some c.name
  named-middle = (λ i. slice_get (names-more i) (sym names-length i)) ∙ get-middle (class_names front) c.name (class_names back)

  -- a name of one of the other classes has its place
  name-cases : (j : ℕ) (n : N) → (n ≡ c.name → ⊥) → slice_get (class_names more) j ≡ Some n → (i : ℕ) × (j ≡ past (length front) i) × (slice_get (class_names less) i ≡ Some n)
  name-cases j n ne e = by (get-cases (class_names front) c.name (class_names back) j n (ap (λ (ns : List N). slice_get ns j) (sym names-more) ∙ e))
    where
      by : ((j ≡ length (class_names front)) × (c.name ≡ n)) ⊎ ((i : ℕ) × (j ≡ past (length (class_names front)) i) × (slice_get (class_names front ++ class_names back) i ≡ Some n))
          → (i : ℕ) × (j ≡ past (length front) i) × (slice_get (class_names less) i ≡ Some n)
      by (inl t) = absurd (ne (sym t.1))
      by (inr t) = (t.0, t.1 ∙ ap (λ (m : ℕ). past m t.0) names-length, ap (λ (ns : List N). slice_get ns t.0) names-less ∙ t.2)

  -- a class whose superclass is another one
  abbrev Passes : ClassOf N → Type 0
  Passes d = d.superclass ≡ Some c.name → ⊥

  named-more : (n : N) → (n ≡ c.name → ⊥) → class_named same more n ≡ class_named same less n
  named-more n ne = find-more (λ d. same n d.name) front c back (other n ne)

  superclass-more : (d : ClassOf N) → Passes d → superclass_of same more d ≡ superclass_of same less d
  superclass-more d h = by d.superclass refl
    where
      by : (o : Option N) → d.superclass ≡ o → class_of_name same more o ≡ class_of_name same less o
      by None e = refl
      by (Some n) e = named-more n (λ q. h (e ∙ ap Some q))

  module _ (passes : AllByRecursion Passes less) where
    upwards-more : (k : ℕ) (o : Option (ClassOf N)) → OptionNames Passes o → upwards (superclass_of same more) k o ≡ upwards (superclass_of same less) k o
    upwards-more zero o h = refl
    upwards-more (suc k) None h = refl
    upwards-more (suc k) (Some d) h =
        ap (λ (ds : List (ClassOf N)). d ∷ ds) (ap (upwards (superclass_of same more) k) (superclass-more d h) ∙ upwards-more k (superclass_of same less d) (above d.superclass))
      where
        above : (o : Option N) → OptionNames Passes (class_of_name same less o)
        above None = tt
        above (Some n) = find-all Passes (λ x. same n x.name) less passes

    module _ (before : SuperclassesStandBefore less) where
      -- the chain of another class
      chain_from-more : (j : ℕ) (d : ClassOf N) → slice_get less j ≡ Some d → chain_from same more (Some d) ≡ chain_from same less (Some d)
      chain_from-more j d at =
          upwards-more (length more) (Some d) (all-get Passes less j d passes at)
          ∙ upwards-enough (superclass_of same less) (λ k e. slice_get less k ≡ Some e) (superclass_before same reflexive less before) (length less) j (length more) (length less) d
          (slice_get_within less j d at) (omega (arith, length-more front c back)) (omega arith) at

      -- the chain of what is found among the other classes
      chain-found : (o : Option (ClassOf N)) → ((d : ClassOf N) → o ≡ Some d → (j : ℕ) × (slice_get less j ≡ Some d)) → chain_from same more o ≡ chain_from same less o
      chain-found None h = upwards-none (superclass_of same more) (length more) ∙ sym (upwards-none (superclass_of same less) (length less))
      chain-found (Some d) h = let place = h d refl in chain_from-more place.0 d place.1

      -- the chain of another name
      pub chain-more : (n : N) → (n ≡ c.name → ⊥) → chain same more (Some n) ≡ chain same less (Some n)
      chain-more n ne = ap (chain_from same more) (named-more n ne) ∙ chain-found (class_named same less n) (λ d e. find-place (λ x. same n x.name) less d e)

      -- the variables of another class and of those above it
      defines : (kind : VariableKind) (j : ℕ) (d : ClassOf N) → slice_get less j ≡ Some d → flat_map (variables kind) (chain_from same more (Some d)) ≡ flat_map (variables kind) (chain_from same less (Some d))
      defines kind j d at = ap (flat_map (variables kind)) (chain_from-more j d at)

  -- each superclass stands before its subclasses, without an unused class
  before-less : SuperclassesStandBefore more → AllByRecursion Passes less → SuperclassesStandBefore less
  before-less before passes k d n at super =
      let named = before (past (length front) k) d n (get-past front c back k ∙ at) super in
      let place = name-cases named.0 n (λ q. all-get Passes less k d passes at (super ∙ ap Some q)) named.2 in
      (place.0, past-less (length front) place.0 k (subst (λ (m : ℕ). m < past (length front) k) place.1 named.1), place.2)

  -- the classes below a new class are none of those that are there
  passes-new : SuperclassesStandBefore less → (Contains (class_names less) c.name → ⊥) → AllByRecursion Passes less
  passes-new before new = all-of-each Passes less (λ k d at super. (let named = before k d c.name at super in new (place-contains (class_names less) named.0 c.name named.2)))

  module _ (before : SuperclassesStandBefore less) (follows : (n : N) → c.superclass ≡ Some n → (j : ℕ) × (j < length front) × (slice_get (class_names less) j ≡ Some n)) where
    -- each superclass stands before its subclasses, with a new class behind its superclass
    before-more : SuperclassesStandBefore more
    before-more k d n at super = by (get-cases front c back k d at)
      where
        by : ((k ≡ length front) × (c ≡ d)) ⊎ ((i : ℕ) × (k ≡ past (length front) i) × (slice_get less i ≡ Some d)) → (j : ℕ) × (j < k) × (slice_get (class_names more) j ≡ Some n)
        by (inl t) =
            let named = follows n (ap (λ (x : ClassOf N). x.superclass) t.1 ∙ super) in
            (past (length front) named.0, subst (λ (m : ℕ). past (length front) named.0 < m) (sym t.0) (past-front (length front) named.0 named.1), name-past named.0 ∙ named.2)
        by (inr t) =
            let named = before t.0 d n t.2 super in
            (past (length front) named.0, subst (λ (m : ℕ). past (length front) named.0 < m) (sym t.1) (past-more (length front) named.0 t.0 named.1), name-past named.0 ∙ named.2)

    module _ (new : Contains (class_names less) c.name → ⊥) where
      -- the chain of the new class
      chain-new : chain_from same more (Some c) ≡ c ∷ chain same less c.superclass
      chain-new = chain_from-step same reflexive more before-more (length front) c (get-middle front c back) ∙ ap (λ (ds : List (ClassOf N)). c ∷ ds) (by c.superclass refl)
        where
          by : (o : Option N) → c.superclass ≡ o → chain same more o ≡ chain same less o
          by None e = upwards-none (superclass_of same more) (length more) ∙ sym (upwards-none (superclass_of same less) (length less))
          by (Some n) e =
              let named = follows n e in
              chain-more (passes-new before new) before n (λ q. new (place-contains (class_names less) named.0 c.name (named.2 ∙ ap Some q)))

      once-more : (kind : VariableKind) → AllByRecursion (DefinesOnceOnChain same less kind) less → HasNoRepeat (variables_up same kind less c) → AllByRecursion (DefinesOnceOnChain same more kind) more
      once-more kind all once =
          all-more (DefinesOnceOnChain same more kind) front c back
          (all-at (DefinesOnceOnChain same less kind) (DefinesOnceOnChain same more kind) less (λ j d at p. subst (λ (ns : List N). HasNoRepeat ns) (sym (defines (passes-new before new) before kind j d at)) p) all)
          (subst (λ (ds : List (ClassOf N)). HasNoRepeat (flat_map (variables kind) ds)) (sym chain-new) once)

  once-less : (kind : VariableKind) → AllByRecursion Passes less → SuperclassesStandBefore less → AllByRecursion (DefinesOnceOnChain same more kind) more → AllByRecursion (DefinesOnceOnChain same less kind) less
  once-less kind passes before all =
      all-at (DefinesOnceOnChain same more kind) (DefinesOnceOnChain same less kind) less (λ j d at p. subst (λ (ns : List N). HasNoRepeat ns) (defines passes before kind j d at) p)
      (all-less (DefinesOnceOnChain same more kind) front c back all)

  HasClass-more : (m : EntryOf N) → HasClass less m → HasClass more m
  HasClass-more m has =
      (has.0, has.1, subst (λ (ns : List N). Contains ns has.0) (sym names-more) (contains-more (class_names front) c.name (class_names back) has.0 (subst (λ (ns : List N). Contains ns has.0) names-less has.2)))

  HasClass-less : (m : EntryOf N) → (m.class ≡ Some c.name → ⊥) → HasClass more m → HasClass less m
  HasClass-less m ne has =
      (has.0, has.1, subst (λ (ns : List N). Contains ns has.0) (sym names-less) (contains-less (class_names front) c.name (class_names back) has.0 (λ q. ne (has.1 ∙ ap Some q)) (subst (λ (ns : List N). Contains ns has.0) names-more has.2)))

module _ {N : Type 0} (w : WordsOf N) (apart : TellsApart w.tests.same) (i : ImageOf N) (front : List (ClassOf N)) (c : ClassOf N) (back : List (ClassOf N)) (passes : AllByRecursion (λ (d : ClassOf N). d.superclass ≡ Some c.name → ⊥) (front ++ back))
    (before : SuperclassesStandBefore (front ++ back)) where
  on_chain-more : (p : ClassOf N → Bool) (meta : Bool) (s : N) → on_chain w.tests.same (record i { classes = front ++ c ∷ back }) (find p (front ++ back)) meta s ≡ on_chain w.tests.same (record i { classes = front ++ back }) (find p (front ++ back)) meta s
  on_chain-more p meta s =
      ap (first_given (λ d. own_method w.tests.same i.methods d.name meta s)) (chain-found w.tests.same apart front c back passes before (find p (front ++ back)) (λ d e. find-place p (front ++ back) d e))

  -- a look-up from another class
  lookup-more : (n : N) (meta : Bool) (s : N) → w.is_class c.name ≡ false → (n ≡ c.name → ⊥) → lookup w (record i { classes = front ++ c ∷ back }) (Some n) meta s ≡ lookup w (record i { classes = front ++ back }) (Some n) meta s
  lookup-more n meta s user ne = λ j. option_or (first j) (second meta j)
    where
      first : on_chain w.tests.same (record i { classes = front ++ c ∷ back }) (class_named w.tests.same (front ++ c ∷ back) n) meta s ≡ on_chain w.tests.same (record i { classes = front ++ back }) (class_named w.tests.same (front ++ back) n) meta s
      first = ap (λ o. on_chain w.tests.same (record i { classes = front ++ c ∷ back }) o meta s) (named-more w.tests.same apart front c back n ne) ∙ on_chain-more (λ d. w.tests.same n d.name) meta s

      object : as_object w (record i { classes = front ++ c ∷ back }) s ≡ as_object w (record i { classes = front ++ back }) s
      object = ap (λ o. on_chain w.tests.same (record i { classes = front ++ c ∷ back }) o false s) (find-more (λ (d : ClassOf N). w.is_class d.name) front c back user) ∙ on_chain-more (λ d. w.is_class d.name) false s

      second : (b : Bool) → cond b (as_object w (record i { classes = front ++ c ∷ back }) s) None ≡ cond b (as_object w (record i { classes = front ++ back }) s) None
      second true = object
      second false = refl

  -- what another name stands for in a method of another class
  means-more : (m : EntryOf N) (path : List ℕ) (n : N) → (k : N) → m.class ≡ Some k → (k ≡ c.name → ⊥) → (n ≡ c.name → ⊥) → means w (record i { classes = front ++ c ∷ back }) m path n ≡ means w (record i { classes = front ++ back }) m path n
  means-more m path n k of other ne = ap (λ o. cond (w.tests.is_pseudo n) pseudo (means_by (local_in w.tests.same w.tests.is_pseudo m.tree path n) o)) outside
    where
      chains : chain w.tests.same (front ++ c ∷ back) m.class ≡ chain w.tests.same (front ++ back) m.class
      chains = ap (chain w.tests.same (front ++ c ∷ back)) of ∙ chain-more w.tests.same apart front c back passes before k other ∙ ap (chain w.tests.same (front ++ back)) (sym of)

      along : (above : List (ClassOf N)) → means_along w (front ++ c ∷ back) above m.meta n ≡ means_along w (front ++ back) above m.meta n
      along above =
          ap (λ (o : Option (ClassOf N)). unwrap_or (option_or (as_variable w.tests.same (side_kind m.meta) above n) (option_or (as_variable w.tests.same of_class above n) (option_or (option_map (λ (d : ClassOf N). a_class d.name) o) (cond (w.is_transcript n) (Some transcript) None)))) undeclared)
          (named-more w.tests.same apart front c back n ne)

      outside : means_outside w (record i { classes = front ++ c ∷ back }) m.class m.meta n ≡ means_outside w (record i { classes = front ++ back }) m.class m.meta n
      outside = ap (λ (above : List (ClassOf N)). means_along w (front ++ c ∷ back) above m.meta n) chains ∙ along (chain w.tests.same (front ++ back) m.class)

-- two facts of each item give a third
all-from : {X : Type 0} (P Q R : X → Type 0) (xs : List X) → ((x : X) → P x → Q x → R x) → AllByRecursion P xs → AllByRecursion Q xs → AllByRecursion R xs
all-from P Q R [] h a b = tt
all-from P Q R (x ∷ xs) h a b = (h x a.0 b.0, all-from P Q R xs h a.1 b.1)

module _ {N : Type 0} (w : WordsOf N) (r : ReadingOf N) (apart : TellsApart w.tests.same) (i : ImageOf N) (front : List (ClassOf N)) (c : ClassOf N) (back : List (ClassOf N)) where
  -- a valid image without an unused class
  pub IsValid-unused : IsValid w r (record i { classes = front ++ c ∷ back }) → c.kernel ≡ false → IsUnused (record i { classes = front ++ c ∷ back }) c.name → IsValid w r (record i { classes = front ++ back })
  IsValid-unused valid user unused = record {
    class_names_distinct = subst (λ (ns : List N). HasNoRepeat ns) (sym (names-less w.tests.same apart front c back)) (HasNoRepeat-less (class_names front) c.name (class_names back) (subst (λ (ns : List N). HasNoRepeat ns) (names-more w.tests.same apart front c back) valid.class_names_distinct));
    superclasses_before = before;
    only_object_is_root = all-less _ front c back valid.only_object_is_root;
    names_may_be_given = all-less _ front c back valid.names_may_be_given;
    instance_variables_once = once-less w.tests.same apart front c back of_instance passes before valid.instance_variables_once;
    class_side_variables_once = once-less w.tests.same apart front c back of_class_side passes before valid.class_side_variables_once;
    class_variables_once = all-less _ front c back valid.class_variables_once;
    methods_once = valid.methods_once;
    method_classes_there = all-from (λ (m : EntryOf N). m.class ≡ Some c.name → ⊥) (HasClass (front ++ c ∷ back)) (HasClass (front ++ back)) i.methods (HasClass-less w.tests.same apart front c back) unused.methods valid.method_classes_there;
    user_methods = valid.user_methods;
    doits = valid.doits;
    kernel_classes = sym (filter-more (λ (d : ClassOf N). d.kernel) front c back user) ∙ valid.kernel_classes;
    kernel_methods = valid.kernel_methods;
  }
    where
      passes : AllByRecursion (λ (d : ClassOf N). d.superclass ≡ Some c.name → ⊥) (front ++ back)
      passes = all-less _ front c back unused.classes

      before : SuperclassesStandBefore (front ++ back)
      before = before-less w.tests.same apart front c back valid.superclasses_before passes

  module _ (valid : IsValid w r (record i { classes = front ++ c ∷ back })) (unused : IsUnused (record i { classes = front ++ c ∷ back }) c.name) where
    passes-unused : AllByRecursion (λ (d : ClassOf N). d.superclass ≡ Some c.name → ⊥) (front ++ back)
    passes-unused = all-less (λ (d : ClassOf N). d.superclass ≡ Some c.name → ⊥) front c back unused.classes

    before-unused : SuperclassesStandBefore (front ++ back)
    before-unused = before-less w.tests.same apart front c back valid.superclasses_before passes-unused

    -- chains, look-ups and meanings where an unused class is taken out
    pub chain-unused : (n : N) → (n ≡ c.name → ⊥) → chain w.tests.same (front ++ back) (Some n) ≡ chain w.tests.same (front ++ c ∷ back) (Some n)
    chain-unused n ne = sym (chain-more w.tests.same apart front c back passes-unused before-unused n ne)

    pub lookup-unused : (n : N) (meta : Bool) (s : N) → w.is_class c.name ≡ false → (n ≡ c.name → ⊥) → lookup w (record i { classes = front ++ back }) (Some n) meta s ≡ lookup w (record i { classes = front ++ c ∷ back }) (Some n) meta s
    lookup-unused n meta s user ne = sym (lookup-more w apart i front c back passes-unused before-unused n meta s user ne)

    pub means-unused : (m : EntryOf N) (path : List ℕ) (n : N) → HasClass (front ++ back) m → (n ≡ c.name → ⊥) → means w (record i { classes = front ++ back }) m path n ≡ means w (record i { classes = front ++ c ∷ back }) m path n
    means-unused m path n has ne = sym (means-more w apart i front c back passes-unused before-unused m path n has.0 has.1 (λ q. gone (subst (λ (k : N). Contains (class_names (front ++ back)) k) q has.2)) ne)
      where
        gone : Contains (class_names (front ++ back)) c.name → ⊥
        gone h =
            let place = contains-place (class_names (front ++ back)) c.name h in
            let twice = valid.class_names_distinct (length front) (past (length front) place.0) c.name (named-middle w.tests.same apart front c back) (name-past w.tests.same apart front c back place.0 ∙ place.1) in
            past-apart (length front) place.0 twice

  module _ (valid : IsValid w r (record i { classes = front ++ back })) where
    -- a valid image with a new class behind its superclass
    pub IsValid-placed : IsNewClass w r (record i { classes = front ++ back }) c → ((n : N) → c.superclass ≡ Some n → (j : ℕ) × (j < length front) × (slice_get (class_names (front ++ back)) j ≡ Some n)) → IsValid w r (record i { classes = front ++ c ∷ back })
    IsValid-placed new follows = record {
      class_names_distinct =
          subst (λ (ns : List N). HasNoRepeat ns) (sym (names-more w.tests.same apart front c back))
          (HasNoRepeat-more (class_names front) c.name (class_names back) (subst (λ (ns : List N). HasNoRepeat ns) (names-less w.tests.same apart front c back) valid.class_names_distinct)
          (λ h. new.name_is_new (subst (λ (ns : List N). Contains ns c.name) (sym (names-less w.tests.same apart front c back)) h)));
      superclasses_before = before-more w.tests.same apart front c back valid.superclasses_before follows;
      only_object_is_root = all-more _ front c back valid.only_object_is_root new.only_object_is_root;
      names_may_be_given = all-more _ front c back valid.names_may_be_given new.names_may_be_given;
      instance_variables_once = once-more w.tests.same apart front c back valid.superclasses_before follows new.name_is_new of_instance valid.instance_variables_once new.instance_variables_once;
      class_side_variables_once = once-more w.tests.same apart front c back valid.superclasses_before follows new.name_is_new of_class_side valid.class_side_variables_once new.class_side_variables_once;
      class_variables_once = all-more _ front c back valid.class_variables_once new.class_variables_once;
      methods_once = valid.methods_once;
      method_classes_there = all-implies (HasClass (front ++ back)) (HasClass (front ++ c ∷ back)) (HasClass-more w.tests.same apart front c back) i.methods valid.method_classes_there;
      user_methods = valid.user_methods;
      doits = valid.doits;
      kernel_classes = filter-more (λ (d : ClassOf N). d.kernel) front c back new.user ∙ valid.kernel_classes;
      kernel_methods = valid.kernel_methods;
    }

    -- chains, look-ups and meanings where a new class is put in
    module _ (new : Contains (class_names (front ++ back)) c.name → ⊥) where
      pub chain-placed : (n : N) → (n ≡ c.name → ⊥) → chain w.tests.same (front ++ c ∷ back) (Some n) ≡ chain w.tests.same (front ++ back) (Some n)
      chain-placed n ne = chain-more w.tests.same apart front c back (passes-new w.tests.same apart front c back valid.superclasses_before new) valid.superclasses_before n ne

      pub lookup-placed : (n : N) (meta : Bool) (s : N) → w.is_class c.name ≡ false → (n ≡ c.name → ⊥) → lookup w (record i { classes = front ++ c ∷ back }) (Some n) meta s ≡ lookup w (record i { classes = front ++ back }) (Some n) meta s
      lookup-placed n meta s user ne = lookup-more w apart i front c back (passes-new w.tests.same apart front c back valid.superclasses_before new) valid.superclasses_before n meta s user ne

      pub means-placed : (m : EntryOf N) (path : List ℕ) (n : N) → HasClass (front ++ back) m → (n ≡ c.name → ⊥) → means w (record i { classes = front ++ c ∷ back }) m path n ≡ means w (record i { classes = front ++ back }) m path n
      means-placed m path n has ne =
          means-more w apart i front c back (passes-new w.tests.same apart front c back valid.superclasses_before new) valid.superclasses_before m path n has.0 has.1 (λ q. new (subst (λ (k : N). Contains (class_names (front ++ back)) k) q has.2)) ne

-- the list is an item of it with what stands before and behind
split-at : {X : Type 0} (xs : List X) (p : ℕ) (x : X) → slice_get xs p ≡ Some x → take p xs ++ x ∷ drop (suc p) xs ≡ xs
split-at [] p x e = absurd (cc)
split-at (y ∷ ys) zero x e = let same : x ≡ y = cc in ap (λ (z : _). z ∷ ys) same
split-at (y ∷ ys) (suc p) x e = ap (λ (zs : List _). y ∷ zs) (split-at ys p x e)

module _ {N : Type 0} (w : WordsOf N) (r : ReadingOf N) (i : ImageOf N) (valid : IsValid w r i) where
  module _ (apart : TellsApart w.tests.same) (p : ℕ) (c : ClassOf N) where
    module _ (at : slice_get i.classes p ≡ Some c) (unused : IsUnused i c.name) where
      split : take p i.classes ++ c ∷ drop (suc p) i.classes ≡ i.classes
      split = split-at i.classes p c at

      full : IsValid w r (record i { classes = take p i.classes ++ c ∷ drop (suc p) i.classes })
      full = subst (λ (cs : List (ClassOf N)). IsValid w r (record i { classes = cs })) (sym split) valid

      unused-full : IsUnused (record i { classes = take p i.classes ++ c ∷ drop (suc p) i.classes }) c.name
      unused-full = subst (λ (cs : List (ClassOf N)). IsUnused (record i { classes = cs }) c.name) (sym split) unused

      -- a valid image without an unused class at a place
      pub IsValid-without_class : c.kernel ≡ false → IsValid w r (without_class i p)
      IsValid-without_class user =
          IsValid-unused w r apart i (take p i.classes) c (drop (suc p) i.classes) full user unused-full

      pub chain-without_class : (n : N) → (n ≡ c.name → ⊥) → chain w.tests.same (without_class i p).classes (Some n) ≡ chain w.tests.same i.classes (Some n)
      chain-without_class n ne =
          chain-unused w r apart i (take p i.classes) c (drop (suc p) i.classes) full unused-full n ne ∙ ap (λ (cs : List (ClassOf N)). chain w.tests.same cs (Some n)) split

      pub lookup-without_class : (n : N) (meta : Bool) (s : N) → w.is_class c.name ≡ false → (n ≡ c.name → ⊥) → lookup w (without_class i p) (Some n) meta s ≡ lookup w i (Some n) meta s
      lookup-without_class n meta s user ne =
          lookup-unused w r apart i (take p i.classes) c (drop (suc p) i.classes) full unused-full n meta s user ne ∙ ap (λ (cs : List (ClassOf N)). lookup w (record i { classes = cs }) (Some n) meta s) split

      pub means-without_class : (m : EntryOf N) (path : List ℕ) (n : N) → HasClass (without_class i p).classes m → (n ≡ c.name → ⊥) → means w (without_class i p) m path n ≡ means w i m path n
      means-without_class m path n has ne =
          means-unused w r apart i (take p i.classes) c (drop (suc p) i.classes) full unused-full m path n has ne ∙ ap (λ (cs : List (ClassOf N)). means w (record i { classes = cs }) m path n) split

    parts : take p i.classes ++ drop p i.classes ≡ i.classes
    parts = take-append-drop p i.classes

    whole : IsValid w r (record i { classes = take p i.classes ++ drop p i.classes })
    whole = subst (λ (cs : List (ClassOf N)). IsValid w r (record i { classes = cs })) (sym parts) valid

    -- a valid image with a new class at a place behind its superclass
    pub IsValid-with_class_at : IsNewClass w r i c → FollowsSuperclass i p c → IsValid w r (with_class_at i p c)
    IsValid-with_class_at new follows =
        IsValid-placed w r apart i (take p i.classes) c (drop p i.classes) whole (subst (λ (cs : List (ClassOf N)). IsNewClass w r (record i { classes = cs }) c) (sym parts) new)
        (λ n e. before n (follows n e))
      where
        before : (n : N) → (j : ℕ) × (j < p) × (slice_get (class_names i.classes) j ≡ Some n) → (j : ℕ) × (j < length (take p i.classes)) × (slice_get (class_names (take p i.classes ++ drop p i.classes)) j ≡ Some n)
        before n named =
            let first : named.0 < p = named.1 in
            let within : named.0 < length (class_names i.classes) = slice_get_within (class_names i.classes) named.0 n named.2 in
            let long : length (class_names i.classes) ≡ length i.classes = length-map (λ (d : ClassOf N). d.name) i.classes in
            (named.0, omega (arith, length-take p i.classes), ap (λ (cs : List (ClassOf N)). slice_get (class_names cs) named.0) parts ∙ named.2)

    module _ (new : Contains (class_names i.classes) c.name → ⊥) where
      new-parts : Contains (class_names (take p i.classes ++ drop p i.classes)) c.name → ⊥
      new-parts h = new (subst (λ (cs : List (ClassOf N)). Contains (class_names cs) c.name) parts h)

      pub chain-with_class_at : (n : N) → (n ≡ c.name → ⊥) → chain w.tests.same (with_class_at i p c).classes (Some n) ≡ chain w.tests.same i.classes (Some n)
      chain-with_class_at n ne =
          chain-placed w r apart i (take p i.classes) c (drop p i.classes) whole new-parts n ne ∙ ap (λ (cs : List (ClassOf N)). chain w.tests.same cs (Some n)) parts

      pub lookup-with_class_at : (n : N) (meta : Bool) (s : N) → w.is_class c.name ≡ false → (n ≡ c.name → ⊥) → lookup w (with_class_at i p c) (Some n) meta s ≡ lookup w i (Some n) meta s
      lookup-with_class_at n meta s user ne =
          lookup-placed w r apart i (take p i.classes) c (drop p i.classes) whole new-parts n meta s user ne ∙ ap (λ (cs : List (ClassOf N)). lookup w (record i { classes = cs }) (Some n) meta s) parts

      pub means-with_class_at : (m : EntryOf N) (path : List ℕ) (n : N) → HasClass i.classes m → (n ≡ c.name → ⊥) → means w (with_class_at i p c) m path n ≡ means w i m path n
      means-with_class_at m path n has ne =
          means-placed w r apart i (take p i.classes) c (drop p i.classes) whole new-parts m path n (subst (λ (cs : List (ClassOf N)). HasClass cs m) (sym parts) has) ne
          ∙ ap (λ (cs : List (ClassOf N)). means w (record i { classes = cs }) m path n) parts

  module _ (p : ℕ) (m : EntryOf N) where
    -- a valid image without a method at a place
    pub IsValid-without_method : slice_get i.methods p ≡ Some m → m.kernel ≡ false → IsValid w r (without_method i p)
    IsValid-without_method at user =
        IsValid-less w r i (take p i.methods) m (drop (suc p) i.methods) (subst (λ (ms : List (EntryOf N)). IsValid w r (record i { methods = ms })) (sym (split-at i.methods p m at)) valid) user

    -- a valid image with a new method at a place
    pub IsValid-with_method_at : IsNewMethod r i m → IsValid w r (with_method_at i p m)
    IsValid-with_method_at new = record {
      class_names_distinct = valid.class_names_distinct;
      superclasses_before = valid.superclasses_before;
      only_object_is_root = valid.only_object_is_root;
      names_may_be_given = valid.names_may_be_given;
      instance_variables_once = valid.instance_variables_once;
      class_side_variables_once = valid.class_side_variables_once;
      class_variables_once = valid.class_variables_once;
      methods_once =
          subst (λ (ss : List (Option N × Bool × N)). HasNoRepeat ss) (sym (map-append signature (take p i.methods) (m ∷ drop p i.methods)))
          (HasNoRepeat-more (map signature (take p i.methods)) (signature m) (map signature (drop p i.methods)) (subst (λ (ss : List (Option N × Bool × N)). HasNoRepeat ss) signatures valid.methods_once) (λ h. new.signature_is_new (subst (λ (ss : List (Option N × Bool × N)). Contains ss (signature m)) (sym signatures) h)));
      method_classes_there = all-more _ (take p i.methods) m (drop p i.methods) (all-parts _ valid.method_classes_there) new.class_there;
      user_methods = all-more _ (take p i.methods) m (drop p i.methods) (all-parts _ valid.user_methods) (λ e. new.spells);
      doits = valid.doits;
      kernel_classes = valid.kernel_classes;
      kernel_methods = filter-more (λ (n : EntryOf N). n.kernel) (take p i.methods) m (drop p i.methods) new.user ∙ ap (filter (λ (n : EntryOf N). n.kernel)) together ∙ valid.kernel_methods;
    }
      where
        together : take p i.methods ++ drop p i.methods ≡ i.methods
        together = take-append-drop p i.methods

        signatures : map signature i.methods ≡ map signature (take p i.methods) ++ map signature (drop p i.methods)
        signatures = ap (map signature) (sym together) ∙ map-append signature (take p i.methods) (drop p i.methods)

        all-parts : (P : EntryOf N → Type 0) → AllByRecursion P i.methods → AllByRecursion P (take p i.methods ++ drop p i.methods)
        all-parts P a = subst (λ (ms : List (EntryOf N)). AllByRecursion P ms) (sym together) a

-- a method put in changes no look-up of another selector
pub lookup-with_method_at : {N : Type 0} (w : WordsOf N) (i : ImageOf N) (p : ℕ) (m : EntryOf N) (c : Option N) (meta : Bool) (s : N) → w.tests.same s m.tree.selector ≡ false → lookup w (with_method_at i p m) c meta s ≡ lookup w i c meta s
lookup-with_method_at w i p m c meta s other =
    lookup-without w i (take p i.methods) m (drop p i.methods) c meta s other ∙ ap (λ (ms : List (EntryOf _)). lookup w (record i { methods = ms }) c meta s) (take-append-drop p i.methods)
