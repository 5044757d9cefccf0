-- Methods that are found suit where they are sought: where variables are called the same in all classes, and where each class calls them as its superclass does.
use Rattle.std.proofs.Common.{◌≡◌, List, [], ◌∷◌, length, Option, Some, None, refl, sym, ap, ◌∙◌, subst}
use Rattle.std.specs.Prelude.{Bool, true, false, ◌&&◌, cond, if◌then◌else◌, find}
use Rattle.std.proofs.Math.Bool.{beq}
use Rattle.std.proofs.lemmas.Bool.{false≢true}
use Rattle.std.specs.List.{AllByRecursion}
use Rattle.std.specs.Option.{option_map_or, option_and_then, option_or}
use Rattle.rb_base.specs.Names.{text_eq}
use Rattle.image_model.specs.Image.{ClassOf}
use Rattle.image_model.specs.ImageNames.{OptionNames}
use Rattle.image_model.specs.Words.{text_words}
use Rattle.image_model.specs.Upwards.{first_given}
use Rattle.image_model.specs.Chain.{class_of_name, superclass_of, chain_from}
use Rattle.image_model.proofs.Lists.{all-implies, find-all, option-implies}
use Rattle.image_model.proofs.UpwardsLemmas.{upwards-all}
use Rattle.run_model.specs.Values.{Name}
use Rattle.run_model.proofs.Finite.{by_cases, and-true_left, and-true_right}
use Rattle.run_model.proofs.RenamingLemmas.{text-same}
use Rattle.resolved_model.specs.ResolvedTrees.{ResolvedCode}
use Rattle.resolved_model.specs.ResolvedImages.{ResolvedMethod, ResolvedImage, is_resolved_method, found_on_chain, finds, class_of_doits}
use Rattle.resolved_model.proofs.LookupLemmas.{everywhere}
use Rattle.mapped_model.specs.NameMaps.{NameMaps, IsSameInAllClasses}
use Rattle.mapped_model.specs.MappedImages.{class_or_none}
use Rattle.mapped_model.specs.NamesInUse.{NamesInUse, HasInstance, HasClassSide, UsesMethod, UsesDoIt, UsesOnly, Inherits, IsInherited}
use Rattle.mapped_model.proofs.Everywhere.{Any, own-statements, own-doing}
use Rattle.mapped_model.proofs.Homes.{Suits, IsSuited}

-- what is found passes the test
find-passes : {X : Type 0} (p : X → Bool) (xs : List X) → OptionNames (λ x. p x ≡ true) (find p xs)
find-passes p [] = tt
find-passes p (x ∷ xs) =
    by_cases (p x)
    (λ t. subst (λ b. OptionNames (λ y. p y ≡ true) (cond b (Some x) (find p xs))) (sym t) t)
    (λ t. subst (λ b. OptionNames (λ y. p y ≡ true) (cond b (Some x) (find p xs))) (sym t) (find-passes p xs))

-- two facts of what there is
there-both : {X : Type 0} (P Q R : X → Type 0) → ((x : X) → P x → Q x → R x) → (o : Option X) → OptionNames P o → OptionNames Q o → OptionNames R o
there-both P Q R h (Some x) p q = h x p q
there-both P Q R h None p q = tt

-- one or another
there-or : {X : Type 0} (P : X → Type 0) (o p : Option X) → OptionNames P o → OptionNames P p → OptionNames P (option_or o p)
there-or P (Some x) p h k = h
there-or P None p h k = k

-- the first that is given
first-given : {X Y : Type 0} (P : X → Type 0) (Q : Y → Type 0) (give : X → Option Y) → ((x : X) → P x → OptionNames Q (give x)) → (xs : List X) → AllByRecursion P xs → OptionNames Q (first_given give xs)
first-given P Q give h [] a = tt
first-given P Q give h (x ∷ xs) a = there-or Q (give x) (first_given give xs) (h x a.0) (first-given P Q give h xs a.1)

-- sides that are the same
same-side : (a b : Bool) → beq a b ≡ true → b ≡ a
same-side true true e = refl
same-side false false e = refl
same-side true false e = absurd (false≢true e)
same-side false true e = absurd (false≢true e)

-- the class of a method that has one
class-there : (c : Name) (o : Option Name) → option_map_or (text_eq c) o false ≡ true → c ≡ class_or_none o
class-there c (Some d) e = text-same c d e
class-there c None e = absurd (false≢true e)

-- a method that was found: on the side and in a class of which something is known, or one of objects, for a class
data Found (Known : Name → Type 0) (meta : Bool) (m : ResolvedMethod) : Type 0 where
  on_side : m.meta ≡ meta → Known (class_or_none m.class) → Found Known meta m
  as_object : meta ≡ true → m.meta ≡ false → Found Known meta m

module _ (i : ResolvedImage) (Fine : ResolvedMethod → Type 0) (fine : AllByRecursion Fine i.methods) where
  -- a method of a class
  own-found : (Known : Name → Type 0) (c : Name) (meta : Bool) (s : Name) → Known c → OptionNames (λ m. Fine m × (m.meta ≡ meta) × Known (class_or_none m.class)) (find (is_resolved_method c meta s) i.methods)
  own-found Known c meta s k =
      there-both (λ m. is_resolved_method c meta s m ≡ true) Fine (λ m. Fine m × (m.meta ≡ meta) × Known (class_or_none m.class))
      (λ m t h.
      let both : (option_map_or (text_eq c) m.class false && beq meta m.meta) ≡ true = and-true_left (option_map_or (text_eq c) m.class false && beq meta m.meta) (text_eq s m.selector) t in
      (h, same-side meta m.meta (and-true_right (option_map_or (text_eq c) m.class false) (beq meta m.meta) both), subst Known (class-there c m.class (and-true_left (option_map_or (text_eq c) m.class false) (beq meta m.meta) both)) k))
      (find (is_resolved_method c meta s) i.methods) (find-passes (is_resolved_method c meta s) i.methods) (find-all Fine (is_resolved_method c meta s) i.methods fine)

  -- a method of a chain
  chain-found : (Known : Name → Type 0) (P : ClassOf Name → Type 0) → ((c : ClassOf Name) → P c → Known c.name) → ((c : ClassOf Name) → P c → OptionNames P (superclass_of text_eq i.classes c)) → (o : Option (ClassOf Name)) (meta : Bool) (s : Name) → OptionNames P o →
      OptionNames (λ m. Fine m × (m.meta ≡ meta) × Known (class_or_none m.class)) (found_on_chain i o meta s)
  chain-found Known P known up o meta s p =
      first-given P (λ m. Fine m × (m.meta ≡ meta) × Known (class_or_none m.class)) (λ (c : ClassOf Name). find (is_resolved_method c.name meta s) i.methods) (λ c q. own-found Known c.name meta s (known c q))
      (chain_from text_eq i.classes o) (upwards-all P (superclass_of text_eq i.classes) up (length i.classes) o p)

  -- nothing is asked of a class
  any-class : (o : Option (ClassOf Name)) → OptionNames (λ (c : ClassOf Name). Unit {0}) o
  any-class (Some c) = tt
  any-class None = tt

  -- a method of objects
  object-found : (Known : Name → Type 0) (b : Bool) (s : Name) → OptionNames (λ m. Fine m × Found Known b m) (if b then found_on_chain i (find (λ d. text_words.is_class d.name) i.classes) false s else None)
  object-found Known true s =
      option-implies (λ m. Fine m × (m.meta ≡ false) × Unit {0}) (λ m. Fine m × Found Known true m) (λ m h. (h.0, as_object refl h.1)) (found_on_chain i (find (λ d. text_words.is_class d.name) i.classes) false s)
      (chain-found (λ n. Unit {0}) (λ c. Unit {0}) (λ c u. tt) (λ c u. any-class (superclass_of text_eq i.classes c)) (find (λ d. text_words.is_class d.name) i.classes) false s (any-class (find (λ d. text_words.is_class d.name) i.classes)))
  object-found Known false s = tt

  -- a method that is found from a class
  finds-found : (Known : Name → Type 0) (P : ClassOf Name → Type 0) → ((c : ClassOf Name) → P c → Known c.name) → ((c : ClassOf Name) → P c → OptionNames P (superclass_of text_eq i.classes c)) → (n : Option Name) (meta : Bool) (s : Name) → OptionNames P (class_of_name text_eq i.classes n) →
      OptionNames (λ m. Fine m × Found Known meta m) (finds i n meta s)
  finds-found Known P known up n meta s p =
      there-or (λ m. Fine m × Found Known meta m) (found_on_chain i (class_of_name text_eq i.classes n) meta s) (if meta then found_on_chain i (find (λ d. text_words.is_class d.name) i.classes) false s else None)
      (option-implies (λ m. Fine m × (m.meta ≡ meta) × Known (class_or_none m.class)) (λ m. Fine m × Found Known meta m) (λ m h. (h.0, on_side h.1 h.2)) (found_on_chain i (class_of_name text_eq i.classes n) meta s) (chain-found Known P known up (class_of_name text_eq i.classes n) meta s p))
      (object-found Known meta s)

-- any variable is one of any class
abbrev pub AnyOf : Name → Name → Type 0
AnyOf c = Any

abbrev pub AnyOn : Name → Bool → Name → Type 0
AnyOn c meta = Any

-- variables that are called the same in all classes
module _ (f : NameMaps) (alike : IsSameInAllClasses f) (i : ResolvedImage) where
  -- what is found suits
  alike-suits : (d : Name) (meta : Bool) (m : ResolvedMethod) → Found (λ n. Unit {0}) meta m → Suits f AnyOf AnyOn d meta m
  alike-suits d meta m found = record {
    side = by found;
    own = own-doing m.doing;
    instances = λ e n t. (tt, alike.instance (class_or_none m.class) d n);
    class_sides = λ n t. (tt, alike.class_side (class_or_none m.class) d n);
  }
    where
      by : Found (λ n. Unit {0}) meta m → meta ≡ false → m.meta ≡ false
      by (on_side e k) q = e ∙ q
      by (as_object t e) q = e

  alike-finds : (d : Name) (n : Option Name) (meta : Bool) (s : Name) → OptionNames (Suits f AnyOf AnyOn d meta) (finds i n meta s)
  alike-finds d n meta s =
      option-implies (λ m. Unit {0} × Found (λ n. Unit {0}) meta m) (Suits f AnyOf AnyOn d meta) (λ m h. alike-suits d meta m h.1) (finds i n meta s)
      (finds-found i (λ m. Unit {0}) (everywhere (λ m. Unit {0}) (λ m. tt) i.methods) (λ n. Unit {0}) (λ c. Unit {0}) (λ c u. tt) (λ c u. any-class i (λ m. Unit {0}) (everywhere (λ m. Unit {0}) (λ m. tt) i.methods) (superclass_of text_eq i.classes c)) n meta s
      (any-class i (λ m. Unit {0}) (everywhere (λ m. Unit {0}) (λ m. tt) i.methods) (class_of_name text_eq i.classes n)))

  pub alike-suited : IsSuited f AnyOf AnyOn i
  alike-suited = record {
    found = λ d meta s. alike-finds d (Some d) meta s;
    above = λ c meta s. alike-finds (class_or_none c) (option_and_then (λ (d : ClassOf Name). d.superclass) (class_of_name text_eq i.classes c)) meta s;
    nowhere = λ s. option-implies (Suits f AnyOf AnyOn [] false) (λ m. (d n : Name) → Unit {0} → Unit {0} × (f.instance (class_or_none m.class, n) ≡ f.instance (d, n))) (λ m h d n t. (tt, alike.instance (class_or_none m.class) d n)) (finds i (Some []) false s) (alike-finds [] (Some []) false s);
    doits = everywhere _ (λ (c : ResolvedCode). own-statements c.statements) i.doits;
  }

-- variables that each class has of its superclass, and calls the same
module _ (u : NamesInUse) (f : NameMaps) (i : ResolvedImage) (uses : UsesOnly u i) (inherited : AllByRecursion (IsInherited u f) i.classes) where
  -- a class has its own
  inherits-itself : (c : Name) → Inherits u f c c
  inherits-itself c = record { instance = λ n t. (t, refl); class_side = λ n t. (t, refl) }

  -- one after the other
  inherits-on : (a b c : Name) → Inherits u f a b → Inherits u f b c → Inherits u f a c
  inherits-on a b c p q = record {
    instance = λ n t. ((p.instance n (q.instance n t).0).0, (q.instance n t).1 ∙ (p.instance n (q.instance n t).0).1);
    class_side = λ n t. ((p.class_side n (q.class_side n t).0).0, (q.class_side n t).1 ∙ (p.class_side n (q.class_side n t).0).1);
  }

  -- the class of a name that there may be
  class-named : (n : Option Name) → OptionNames (λ (c : ClassOf Name). (n ≡ Some c.name) × IsInherited u f c) (class_of_name text_eq i.classes n)
  class-named None = tt
  class-named (Some d) =
      there-both (λ (c : ClassOf Name). text_eq d c.name ≡ true) (IsInherited u f) (λ (c : ClassOf Name). (Some d ≡ Some c.name) × IsInherited u f c) (λ c t h. (ap Some (text-same d c.name t), h))
      (find (λ (c : ClassOf Name). text_eq d c.name) i.classes) (find-passes (λ (c : ClassOf Name). text_eq d c.name) i.classes) (find-all (IsInherited u f) (λ (c : ClassOf Name). text_eq d c.name) i.classes inherited)

  -- what is above a class whose variables another has
  inherits-above : (d : Name) (c : ClassOf Name) → Inherits u f d c.name × IsInherited u f c → OptionNames (λ (b : ClassOf Name). Inherits u f d b.name × IsInherited u f b) (superclass_of text_eq i.classes c)
  inherits-above d c h =
      option-implies (λ (b : ClassOf Name). (c.superclass ≡ Some b.name) × IsInherited u f b) (λ (b : ClassOf Name). Inherits u f d b.name × IsInherited u f b) (λ b k. (inherits-on d c.name b.name h.0 (h.1.superclass b.name k.0), k.1))
      (superclass_of text_eq i.classes c) (class-named c.superclass)

  -- what is found suits
  found-suits : (d : Name) (meta : Bool) (m : ResolvedMethod) → UsesMethod u m → Found (Inherits u f d) meta m → Suits f (HasInstance u) (HasClassSide u) d meta m
  found-suits d meta m used (on_side e k) = record {
    side = λ q. e ∙ q;
    own = used.own;
    instances = λ q. k.instance;
    class_sides = λ n t. ((sym e ∙ t.0, (k.class_side n t.1).0), (k.class_side n t.1).1);
  }
  found-suits d meta m used (as_object t e) = record {
    side = λ q. e;
    own = used.own;
    instances = λ q. absurd (false≢true (sym q ∙ t));
    class_sides = λ n own. absurd (false≢true (sym e ∙ own.0));
  }

  -- from a class whose variables another has
  finds-from : (d : Name) (n : Option Name) → ((c : Name) → n ≡ Some c → Inherits u f d c) → (meta : Bool) (s : Name) → OptionNames (Suits f (HasInstance u) (HasClassSide u) d meta) (finds i n meta s)
  finds-from d n h meta s =
      option-implies (λ m. UsesMethod u m × Found (Inherits u f d) meta m) (Suits f (HasInstance u) (HasClassSide u) d meta) (λ m k. found-suits d meta m k.0 k.1) (finds i n meta s)
      (finds-found i (UsesMethod u) uses.methods (Inherits u f d) (λ (c : ClassOf Name). Inherits u f d c.name × IsInherited u f c) (λ c k. k.0) (inherits-above d) n meta s
      (option-implies (λ (c : ClassOf Name). (n ≡ Some c.name) × IsInherited u f c) (λ (c : ClassOf Name). Inherits u f d c.name × IsInherited u f c) (λ c k. (h c.name k.0, k.1)) (class_of_name text_eq i.classes n) (class-named n)))

  -- some name, and another
  abbrev name_there : Option Name → Name → Name
  name_there (Some c) d = c
  name_there None d = d

  -- above a class that there may be
  finds-above : (c : Option Name) (o : Option (ClassOf Name)) → OptionNames (λ (b : ClassOf Name). (c ≡ Some b.name) × IsInherited u f b) o → (e : Name) → option_and_then (λ (b : ClassOf Name). b.superclass) o ≡ Some e → Inherits u f (class_or_none c) e
  finds-above c (Some b) h e q = subst (λ n. Inherits u f (class_or_none n) e) (sym h.0) (h.1.superclass e q)
  finds-above c None h e q = absurd (none q)
    where
      none : None ≡ Some e → ⊥
      none q = cc

  -- no class has the empty name
  finds-nowhere : (s : Name) → OptionNames (λ m. UsesMethod u m × Found (λ n. ⊥) false m) (finds i (Some []) false s)
  finds-nowhere s =
      finds-found i (UsesMethod u) uses.methods (λ n. ⊥) (λ c. ⊥) (λ c k. k) (λ c k. absurd k) (Some []) false s
      (option-implies (λ (c : ClassOf Name). (Some [] ≡ Some c.name) × IsInherited u f c) (λ c. ⊥) (λ c k. k.1.named (sym (ap (λ o. name_there o []) k.0))) (class_of_name text_eq i.classes (Some [])) (class-named (Some [])))

  -- so nothing is found there
  nothing-found : (Q : Type 0) (m : ResolvedMethod) → Found (λ n. ⊥) false m → Q
  nothing-found Q m (on_side e k) = absurd k
  nothing-found Q m (as_object t e) = absurd (false≢true t)

  pub inherited-suited : IsSuited f (HasInstance u) (HasClassSide u) i
  inherited-suited = record {
    found = λ d meta s. finds-from d (Some d) (λ c e. subst (λ n. Inherits u f d n) (ap (λ o. name_there o d) e) (inherits-itself d)) meta s;
    above = λ c meta s. finds-from (class_or_none c) (option_and_then (λ (b : ClassOf Name). b.superclass) (class_of_name text_eq i.classes c)) (finds-above c (class_of_name text_eq i.classes c) (class-named c)) meta s;
    nowhere = λ s. option-implies (λ m. UsesMethod u m × Found (λ n. ⊥) false m) (λ m. (d n : Name) → HasInstance u (class_or_none m.class) n → HasInstance u d n × (f.instance (class_or_none m.class, n) ≡ f.instance (d, n))) (λ m k. nothing-found _ m k.1) (finds i (Some []) false s) (finds-nowhere s);
    doits = all-implies (UsesDoIt u (class_or_none (class_of_doits i))) _ (λ d k. k.own) i.doits uses.doits;
  }
