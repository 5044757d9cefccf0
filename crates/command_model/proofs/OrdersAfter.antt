-- Classes stay in order, with names of their own, where one is taken out or put in.
use Rattle.std.proofs.Common.{◌≡◌, ◌≢◌, ℕ, zero, suc, List, [], ◌∷◌, Option, Some, None, ◌⊎◌, inl, inr, refl, sym, ap, ◌∙◌, subst, arith}
use Rattle.std.specs.Prelude.{Bool, true, false, not, cond, filter, map, slice_get, if◌then◌else◌}
use Rattle.std.specs.List.{AllByRecursion}
use Rattle.std.proofs.lemmas.Bool.{false≢true}
use Rattle.rb_base.specs.Names.{text_eq}
use Rattle.scope_model.specs.Scope.{is_among}
use Rattle.image_model.specs.Image.{ClassOf}
use Rattle.image_model.specs.ImageNames.{OptionNames}
use Rattle.image_model.specs.Valid.{HasNoRepeat, class_names, IsNamedBefore, SuperclassesStandBefore}
use Rattle.run_model.specs.Values.{Name}
use Rattle.command_model.specs.ClassEffects.{new_class, put_before, put_under}

-- a name stands somewhere in a list
abbrev pub StandsIn : List Name → Name → Type 0
StandsIn ns n = (k : ℕ) × (slice_get ns k ≡ Some n)

-- one step further
there : (m n : Name) (ns : List Name) → StandsIn ns n → StandsIn (m ∷ ns) n
there m n ns h = (suc h.0, h.1)

here : (m n : Name) (ns : List Name) → m ≡ n → StandsIn (m ∷ ns) n
here m n ns e = (0, ap Some e)

-- the first, or one behind it
cases : (m n : Name) (ns : List Name) → StandsIn (m ∷ ns) n → (m ≡ n) ⊎ StandsIn ns n
cases m n ns (zero, e) = inl (same e)
  where
    same : Some m ≡ Some n → m ≡ n
    same q = cc
cases m n ns (suc k, e) = inr (k, e)

-- a list without repeats and a further item that it does not have
no-repeat-cons : (n : Name) (ns : List Name) → (StandsIn ns n → ⊥) → HasNoRepeat ns → HasNoRepeat (n ∷ ns)
no-repeat-cons n ns new once zero zero x p q = refl
no-repeat-cons n ns new once zero (suc k) x p q = absurd (new (k, q ∙ sym p))
no-repeat-cons n ns new once (suc j) zero x p q = absurd (new (j, p ∙ sym q))
no-repeat-cons n ns new once (suc j) (suc k) x p q = ap suc (once j k x p q)

-- and back
no-repeat-head : (n : Name) (ns : List Name) → HasNoRepeat (n ∷ ns) → StandsIn ns n → ⊥
no-repeat-head n ns once (k, e) = apart (once 0 (suc k) n refl e)
  where
    apart : 0 ≡ suc k → ⊥
    apart q = absurd (omega (arith, q))

no-repeat-tail : (n : Name) (ns : List Name) → HasNoRepeat (n ∷ ns) → HasNoRepeat ns
no-repeat-tail n ns once j k x p q = less (once (suc j) (suc k) x p q)
  where
    less : suc j ≡ suc k → j ≡ k
    less e = omega (arith, e)

-- each superclass stands among names that were seen, or before
abbrev pub Ordered : List Name → List (ClassOf Name) → Type 0
Ordered seen [] = Unit {0}
Ordered seen (c ∷ cs) = OptionNames (StandsIn seen) c.superclass × Ordered (c.name ∷ seen) cs

-- from places
to-ordered : (seen : List Name) (cs : List (ClassOf Name)) → ((k : ℕ) (c : ClassOf Name) (n : Name) → slice_get cs k ≡ Some c → c.superclass ≡ Some n → StandsIn seen n ⊎ IsNamedBefore cs k n) → Ordered seen cs
to-ordered seen [] h = tt
to-ordered seen (c ∷ cs) h = (first c.superclass refl, to-ordered (c.name ∷ seen) cs (λ k d n at e. later k n (h (suc k) d n at e)))
  where
    first : (o : Option Name) → c.superclass ≡ o → OptionNames (StandsIn seen) o
    first None e = tt
    first (Some n) e = by (h 0 c n refl e)
      where
        by : StandsIn seen n ⊎ IsNamedBefore (c ∷ cs) 0 n → StandsIn seen n
        by (inl s) = s
        by (inr (j, less, at)) = absurd (omega (arith, less))

    later : (k : ℕ) (n : Name) → StandsIn seen n ⊎ IsNamedBefore (c ∷ cs) (suc k) n → StandsIn (c.name ∷ seen) n ⊎ IsNamedBefore cs k n
    later k n (inl s) = inl (there c.name n seen s)
    later k n (inr (zero, less, at)) = inl (0, at)
    later k n (inr (suc j, less, at)) = inr (j, omega (arith, less), at)

-- and back
from-ordered : (seen : List Name) (cs : List (ClassOf Name)) → Ordered seen cs → (k : ℕ) (c : ClassOf Name) (n : Name) → slice_get cs k ≡ Some c → c.superclass ≡ Some n → StandsIn seen n ⊎ IsNamedBefore cs k n
from-ordered seen [] o k c n at e = absurd (cc)
from-ordered seen (d ∷ cs) o zero c n at e = inl (subst (OptionNames (StandsIn seen)) (ap (λ (x : ClassOf Name). x.superclass) same ∙ e) o.0)
  where
    same : d ≡ c
    same = cc
from-ordered seen (d ∷ cs) o (suc k) c n at e = by (from-ordered (d.name ∷ seen) cs o.1 k c n at e)
  where
    at-first : (StandsIn seen n) ⊎ (d.name ≡ n) → StandsIn seen n ⊎ IsNamedBefore (d ∷ cs) (suc k) n
    at-first (inl s) = inl s
    at-first (inr q) = inr (0, omega arith, ap Some q)

    turned : (d.name ≡ n) ⊎ StandsIn seen n → (StandsIn seen n) ⊎ (d.name ≡ n)
    turned (inl q) = inr q
    turned (inr s) = inl s

    by : StandsIn (d.name ∷ seen) n ⊎ IsNamedBefore cs k n → StandsIn seen n ⊎ IsNamedBefore (d ∷ cs) (suc k) n
    by (inl s) = at-first (turned (cases d.name n seen s))
    by (inr (j, less, there')) = inr (suc j, omega (arith, less), there')

pub superclasses-ordered : (cs : List (ClassOf Name)) → SuperclassesStandBefore cs → Ordered [] cs
superclasses-ordered cs h = to-ordered [] cs (λ k c n at e. inr (h k c n at e))

pub ordered-superclasses : (cs : List (ClassOf Name)) → Ordered [] cs → SuperclassesStandBefore cs
ordered-superclasses cs o k c n at e = by (from-ordered [] cs o k c n at e)
  where
    by : StandsIn [] n ⊎ IsNamedBefore cs k n → IsNamedBefore cs k n
    by (inl (l, q)) = absurd (cc)
    by (inr b) = b

-- a superclass that there may be stands in a longer list
wider : (P Q : Name → Type 0) → ((n : Name) → P n → Q n) → (o : Option Name) → OptionNames P o → OptionNames Q o
wider P Q h None p = tt
wider P Q h (Some n) p = h n p

module _ (c : Name) where
  -- a class of another name
  abbrev is_other : ClassOf Name → Bool
  is_other e = not (text_eq c e.name)

  -- names that are left stood there
  left-there : (cs : List (ClassOf Name)) (n : Name) → StandsIn (class_names (filter is_other cs)) n → StandsIn (class_names cs) n
  left-there [] n h = h
  left-there (e ∷ cs) n h = by (is_other e) h (left-there cs n)
    where
      by : (b : Bool) → StandsIn (class_names (cond b (e ∷ filter is_other cs) (filter is_other cs))) n → (StandsIn (class_names (filter is_other cs)) n → StandsIn (class_names cs) n) → StandsIn (e.name ∷ class_names cs) n
      by true k rest = first (cases e.name n (class_names (filter is_other cs)) k)
        where
          first : (e.name ≡ n) ⊎ StandsIn (class_names (filter is_other cs)) n → StandsIn (e.name ∷ class_names cs) n
          first (inl q) = here e.name n (class_names cs) q
          first (inr s) = there e.name n (class_names cs) (rest s)
      by false k rest = there e.name n (class_names cs) (rest k)

  -- they are distinct
  pub left-once : (cs : List (ClassOf Name)) → HasNoRepeat (class_names cs) → HasNoRepeat (class_names (filter is_other cs))
  left-once [] once = once
  left-once (e ∷ cs) once = by (is_other e) (left-once cs (no-repeat-tail e.name (class_names cs) once))
    where
      by : (b : Bool) → HasNoRepeat (class_names (filter is_other cs)) → HasNoRepeat (class_names (cond b (e ∷ filter is_other cs) (filter is_other cs)))
      by true rest = no-repeat-cons e.name (class_names (filter is_other cs)) (λ s. no-repeat-head e.name (class_names cs) once (left-there cs e.name s)) rest
      by false rest = rest

  -- what holds of each class holds of each that is left
  pub left-all : (P : ClassOf Name → Type 0) (cs : List (ClassOf Name)) → AllByRecursion P cs → AllByRecursion P (filter is_other cs)
  left-all P [] a = tt
  left-all P (e ∷ cs) a = by (is_other e) (left-all P cs a.1)
    where
      by : (b : Bool) → AllByRecursion P (filter is_other cs) → AllByRecursion P (cond b (e ∷ filter is_other cs) (filter is_other cs))
      by true rest = (a.0, rest)
      by false rest = rest

  -- they are in order, if none stands under the class that goes
  left-ordered : (seen left : List Name) (cs : List (ClassOf Name)) → ((n : Name) → text_eq c n ≡ false → StandsIn seen n → StandsIn left n) → AllByRecursion (λ (e : ClassOf Name). OptionNames (λ n. text_eq c n ≡ false) e.superclass) cs → Ordered seen cs → Ordered left (filter is_other cs)
  left-ordered seen left [] h a o = tt
  left-ordered seen left (e ∷ cs) h a o =
      by (text_eq c e.name) refl (λ t. left-ordered (e.name ∷ seen) left cs (gone t) a.1 o.1) (left-ordered (e.name ∷ seen) (e.name ∷ left) cs more a.1 o.1)
    where
      both : (p : Option Name) → OptionNames (λ n. text_eq c n ≡ false) p → OptionNames (StandsIn seen) p → OptionNames (StandsIn left) p
      both None x y = tt
      both (Some n) x y = h n x y

      more : (n : Name) → text_eq c n ≡ false → StandsIn (e.name ∷ seen) n → StandsIn (e.name ∷ left) n
      more n k s = first (cases e.name n seen s)
        where
          first : (e.name ≡ n) ⊎ StandsIn seen n → StandsIn (e.name ∷ left) n
          first (inl q) = here e.name n left q
          first (inr t) = there e.name n left (h n k t)

      gone : text_eq c e.name ≡ true → (n : Name) → text_eq c n ≡ false → StandsIn (e.name ∷ seen) n → StandsIn left n
      gone t n k s = first (cases e.name n seen s)
        where
          first : (e.name ≡ n) ⊎ StandsIn seen n → StandsIn left n
          first (inl q) = absurd (false≢true (sym k ∙ ap (text_eq c) (sym q) ∙ t))
          first (inr r) = h n k r

      by : (b : Bool) → text_eq c e.name ≡ b → (text_eq c e.name ≡ true → Ordered left (filter is_other cs)) → Ordered (e.name ∷ left) (filter is_other cs) → Ordered left (cond (not b) (e ∷ filter is_other cs) (filter is_other cs))
      by true t without rest = without t
      by false t without rest = (both e.superclass a.0 o.0, rest)

  -- each superclass still stands before
  pub removed-before : (cs : List (ClassOf Name)) → AllByRecursion (λ (e : ClassOf Name). OptionNames (λ n. text_eq c n ≡ false) e.superclass) cs → SuperclassesStandBefore cs → SuperclassesStandBefore (filter is_other cs)
  removed-before cs a before = ordered-superclasses (filter is_other cs) (left-ordered [] [] cs (λ n k s. s) a (superclasses-ordered cs before))

module _ (d p : Name) (under : List Name) where
  -- a class, put under the new one where it is one of these
  abbrev put : ClassOf Name → ClassOf Name
  put e = put_under text_eq d under e

  abbrev passes : ClassOf Name → Bool
  passes e = is_among text_eq under e.name

  put-named : (e : ClassOf Name) → (put e).name ≡ e.name
  put-named e = by (is_among text_eq under e.name)
    where
      by : (b : Bool) → (if b then record e { superclass = Some d } else e).name ≡ e.name
      by true = refl
      by false = refl

  pub names-put : (cs : List (ClassOf Name)) → class_names (map put cs) ≡ class_names cs
  names-put [] = refl
  names-put (e ∷ cs) = λ k. put-named e k ∷ names-put cs k

  -- the names once the class is put in
  in-there : (x : ClassOf Name) (ys : List (ClassOf Name)) (n : Name) → StandsIn (class_names (put_before passes x ys)) n → (x.name ≡ n) ⊎ StandsIn (class_names ys) n
  in-there x [] n h = cases x.name n [] h
  in-there x (y ∷ ys) n h = by (passes y) h (in-there x ys n)
    where
      by : (b : Bool) → StandsIn (class_names (if b then x ∷ y ∷ ys else y ∷ put_before passes x ys)) n → (StandsIn (class_names (put_before passes x ys)) n → (x.name ≡ n) ⊎ StandsIn (class_names ys) n) → (x.name ≡ n) ⊎ StandsIn (y.name ∷ class_names ys) n
      by true k rest = cases x.name n (y.name ∷ class_names ys) k
      by false k rest = first (cases y.name n (class_names (put_before passes x ys)) k)
        where
          further : (x.name ≡ n) ⊎ StandsIn (class_names ys) n → (x.name ≡ n) ⊎ StandsIn (y.name ∷ class_names ys) n
          further (inl q) = inl q
          further (inr s) = inr (there y.name n (class_names ys) s)

          first : (y.name ≡ n) ⊎ StandsIn (class_names (put_before passes x ys)) n → (x.name ≡ n) ⊎ StandsIn (y.name ∷ class_names ys) n
          first (inl q) = inr (here y.name n (class_names ys) q)
          first (inr s) = further (rest s)

  -- they are distinct
  pub in-once : (x : ClassOf Name) (ys : List (ClassOf Name)) → (StandsIn (class_names ys) x.name → ⊥) → HasNoRepeat (class_names ys) → HasNoRepeat (class_names (put_before passes x ys))
  in-once x [] new once = no-repeat-cons x.name [] new once
  in-once x (y ∷ ys) new once = by (passes y) (in-once x ys (λ s. new (there y.name x.name (class_names ys) s)) (no-repeat-tail y.name (class_names ys) once))
    where
      apart : (x.name ≡ y.name) ⊎ StandsIn (class_names ys) y.name → ⊥
      apart (inl q) = new (here y.name x.name (class_names ys) (sym q))
      apart (inr s) = no-repeat-head y.name (class_names ys) once s

      by : (b : Bool) → HasNoRepeat (class_names (put_before passes x ys)) → HasNoRepeat (class_names (if b then x ∷ y ∷ ys else y ∷ put_before passes x ys))
      by true rest = no-repeat-cons x.name (y.name ∷ class_names ys) new once
      by false rest = no-repeat-cons y.name (class_names (put_before passes x ys)) (λ s. apart (in-there x ys y.name s)) rest

  -- what holds of each class and of the new one
  pub in-all : (P : ClassOf Name → Type 0) (x : ClassOf Name) (ys : List (ClassOf Name)) → P x → AllByRecursion P ys → AllByRecursion P (put_before passes x ys)
  in-all P x [] h a = (h, tt)
  in-all P x (y ∷ ys) h a = by (passes y) (in-all P x ys h a.1)
    where
      by : (b : Bool) → AllByRecursion P (put_before passes x ys) → AllByRecursion P (if b then x ∷ y ∷ ys else y ∷ put_before passes x ys)
      by true rest = (h, a)
      by false rest = (a.0, rest)

  pub put-all : (cs : List (ClassOf Name)) → AllByRecursion (λ (e : ClassOf Name). e.name ≢ []) cs → AllByRecursion (λ (e : ClassOf Name). e.name ≢ []) (map put cs)
  put-all [] a = tt
  put-all (e ∷ cs) a = (λ q. a.0 (sym (put-named e) ∙ q), put-all cs a.1)

  -- the same names further on
  more : (m n : Name) (seen now : List Name) → ((x : Name) → StandsIn seen x → StandsIn now x) → m ≡ n → (x : Name) → StandsIn (n ∷ seen) x → StandsIn (m ∷ now) x
  more m n seen now h e x s = first (cases n x seen s)
    where
      first : (n ≡ x) ⊎ StandsIn seen x → StandsIn (m ∷ now) x
      first (inl q) = here m x now (e ∙ q)
      first (inr t) = there m x now (h x t)

  -- behind the new class
  behind-ordered : (seen now : List Name) (cs : List (ClassOf Name)) → ((n : Name) → StandsIn seen n → StandsIn now n) → StandsIn now d → Ordered seen cs → Ordered now (map put cs)
  behind-ordered seen now [] h own o = tt
  behind-ordered seen now (e ∷ cs) h own o =
      (by (is_among text_eq under e.name), behind-ordered (e.name ∷ seen) ((put e).name ∷ now) cs (more (put e).name e.name seen now h (put-named e)) (there (put e).name d now own) o.1)
    where
      by : (b : Bool) → OptionNames (StandsIn now) (if b then record e { superclass = Some d } else e).superclass
      by true = own
      by false = wider (StandsIn seen) (StandsIn now) h e.superclass o.0

  -- the new class stands before those that come under it, and behind its superclass
  in-ordered : (seen now : List Name) (cs : List (ClassOf Name)) → ((n : Name) → StandsIn seen n → StandsIn now n) → AllByRecursion (λ (e : ClassOf Name). is_among text_eq under e.name ≡ true → e.superclass ≡ Some p) cs → StandsIn seen p ⊎ StandsIn (class_names cs) p →
      Ordered seen cs → Ordered now (put_before passes (new_class d p) (map put cs))
  in-ordered seen now [] h a (inl s) o = (h p s, tt)
  in-ordered seen now [] h a (inr (k, e)) o = absurd (cc)
  in-ordered seen now (e ∷ cs) h a s o =
      by (is_among text_eq under e.name) refl (ap (is_among text_eq under) (put-named e)) (in-ordered (e.name ∷ seen) ((put e).name ∷ now) cs (more (put e).name e.name seen now h (put-named e)) a.1 (next s) o.1)
    where
      next : StandsIn seen p ⊎ StandsIn (e.name ∷ class_names cs) p → StandsIn (e.name ∷ seen) p ⊎ StandsIn (class_names cs) p
      next (inl t) = inl (there e.name p seen t)
      next (inr t) = split (cases e.name p (class_names cs) t)
        where
          split : (e.name ≡ p) ⊎ StandsIn (class_names cs) p → StandsIn (e.name ∷ seen) p ⊎ StandsIn (class_names cs) p
          split (inl q) = inl (here e.name p seen q)
          split (inr u) = inr u

      by : (b : Bool) → is_among text_eq under e.name ≡ b → passes (put e) ≡ is_among text_eq under e.name → Ordered ((put e).name ∷ now) (put_before passes (new_class d p) (map put cs)) → Ordered now (if passes (put e) then new_class d p ∷ put e ∷ map put cs else put e ∷ put_before passes (new_class d p) (map put cs))
      by true t same rest =
          subst (λ x. Ordered now (if x then new_class d p ∷ put e ∷ map put cs else put e ∷ put_before passes (new_class d p) (map put cs))) (sym (same ∙ t))
          (h p (subst (OptionNames (StandsIn seen)) (a.0 t) o.0), behind-ordered seen (d ∷ now) (e ∷ cs) (λ n u. there d n now (h n u)) (here d d now refl) o)
      by false t same rest =
          subst (λ x. Ordered now (if x then new_class d p ∷ put e ∷ map put cs else put e ∷ put_before passes (new_class d p) (map put cs))) (sym (same ∙ t))
          (subst (λ x. OptionNames (StandsIn now) (if x then record e { superclass = Some d } else e).superclass) (sym t) (wider (StandsIn seen) (StandsIn now) h e.superclass o.0), rest)

  -- each superclass still stands before
  pub added-before : (cs : List (ClassOf Name)) → StandsIn (class_names cs) p → AllByRecursion (λ (e : ClassOf Name). is_among text_eq under e.name ≡ true → e.superclass ≡ Some p) cs → SuperclassesStandBefore cs →
      SuperclassesStandBefore (put_before passes (new_class d p) (map put cs))
  added-before cs above a before = ordered-superclasses (put_before passes (new_class d p) (map put cs)) (in-ordered [] [] cs (λ n s. s) a (inr above) (superclasses-ordered cs before))
