-- Classes some of which are as they will be and some not yet: no variable stands twice, and no class above itself.
use Rattle.std.proofs.Common.{◌≡◌, ◌≢◌, ◌⊎◌, inl, inr, ℕ, zero, suc, ◌<◌, ◌≤◌, List, [], ◌++◌, Bool, true, false, length, Option, Some, None, slice_get, refl, ap, sym, subst, ◌∙◌, arith}
use Rattle.std.specs.Prelude.{codes, unwrap_or, flat_map, ◌↔◌, IsTrue}
use Rattle.std.specs.List.{AllByRecursion}
use Rattle.rb_base.specs.Names.{text_eq}
use Rattle.rb_base.proofs.NamesLemmas.{text_eq-refl}
use Rattle.image_model.specs.Image.{ClassOf}
use Rattle.image_model.specs.ImageNames.{OptionNames}
use Rattle.image_model.specs.Upwards.{upwards}
use Rattle.image_model.specs.Chain.{class_named, class_of_name, superclass_of, chain_from, chain}
use Rattle.image_model.specs.Means.{VariableKind, variables}
use Rattle.image_model.specs.Valid.{DefinesOnceOnChain}
use Rattle.image_model.proofs.ChainLemmas.{slice_get-map, chain_from-step}
use Rattle.image_model.proofs.UpwardsLemmas.{upwards-none, upwards-all}
use Rattle.file_model.specs.Filing.{Text}
use Rattle.file_model.specs.Hierarchy.{stands_in, stands_twice}
use Rattle.file_laws.proofs.Moves.{text_equal}
use Rattle.file_laws.proofs.Redefined.{named_at, name_at_place}
use Rattle.file_rereading.proofs.Fresh.{any_none}
use Rattle.file_rereading.proofs.Prefixes.{stands_once}
use Rattle.change_laws.specs.Mixed.{AreClasses, IsPartOf}
use Rattle.change_laws.proofs.Placing.{all_has, all_from}
use Rattle.change_laws.proofs.Orders.{at_has}
use Rattle.change_laws.proofs.Parts.{Sub, Done, skip_all, sub_all, no_repeat_sub, finds, first_at}

module _ (kind : VariableKind) (whole mixed : List (ClassOf Text)) (w : AreClasses whole) (parts : AllByRecursion (IsPartOf kind whole) mixed) where
  abbrev up : ClassOf Text → Option (ClassOf Text)
  up = superclass_of text_eq mixed

  abbrev all_of : List (ClassOf Text) → List Text
  all_of cs = flat_map (variables kind) cs

  root_of : (k : ℕ) (r : ClassOf Text) → slice_get whole k ≡ Some r → IsTrue (text_eq (codes "Object") r.name) ↔ (r.superclass ≡ None)
  root_of k r at = all_has (λ (c : ClassOf Text). IsTrue (text_eq (codes "Object") c.name) ↔ (c.superclass ≡ None)) whole r w.root (at_has whole k r at)

  -- one class of a name
  one_place : (j k : ℕ) (r s : ClassOf Text) → slice_get whole j ≡ Some r → slice_get whole k ≡ Some s → r.name ≡ s.name → j ≡ k
  one_place j k r s e f same = w.distinct j k r.name (name_at_place whole j r e) (name_at_place whole k s f ∙ ap Some (sym same))

  one_class : (j k : ℕ) (r s : ClassOf Text) → slice_get whole j ≡ Some r → slice_get whole k ≡ Some s → r.name ≡ s.name → r ≡ s
  one_class j k r s e f same = by (one_place j k r s e f same)
    where
      by : j ≡ k → r ≡ s
      by p = let one : Some r ≡ Some s = sym e ∙ ap (λ (n : ℕ). slice_get whole n) p ∙ f in cc

  -- the superclass
  record Above (j : ℕ) (r : ClassOf Text) (n : Text) : Type 0 where
    place : ℕ
    earlier : place < j
    class : ClassOf Text
    at : slice_get whole place ≡ Some class
    named : class.name ≡ n
    is : superclass_of text_eq whole r ≡ Some class

  above : (j : ℕ) (r : ClassOf Text) (n : Text) → slice_get whole j ≡ Some r → r.superclass ≡ Some n → Above j r n
  above j r n at e =
      let b = w.before j r n at e in
      let s = slice_get-map (λ (c : ClassOf Text). c.name) whole b.0 n b.2 in
      record {
        place = b.0;
        earlier = b.1;
        class = s.0;
        at = s.1;
        named = s.2;
        is = ap (class_of_name text_eq whole) e ∙ ap (class_named text_eq whole) (sym s.2) ∙ named_at text_eq text_eq-refl text_equal whole b.0 s.0 w.distinct s.1;
      }

  -- the first class is the root
  first_root : (r : ClassOf Text) → slice_get whole 0 ≡ Some r → r.superclass ≡ None
  first_root r at = by r.superclass refl
    where
      by : (o : Option Text) → r.superclass ≡ o → o ≡ None
      by None e = refl
      by (Some n) e = let a = above 0 r n at e in absurd (let l : a.place < 0 = a.earlier in omega (arith, l))

  is_object : (n : Text) → n ≡ codes "Object" → IsTrue (text_eq (codes "Object") n)
  is_object n e = ap (text_eq (codes "Object")) e ∙ text_eq-refl (codes "Object")

  object_first : (k : ℕ) (r : ClassOf Text) → slice_get whole k ≡ Some r → r.name ≡ codes "Object" → k ≡ 0
  object_first k r at e =
      let f = first_at whole k r at in
      let named : codes "Object" ≡ (f.0).name = text_equal (codes "Object") (f.0).name ((root_of 0 f.0 f.1).1 (first_root f.0 f.1)) in
      one_place k 0 r f.0 at f.1 (e ∙ named)

  -- a class of a name in the mixed list
  record Named (n : Text) (c : ClassOf Text) : Type 0 where
    part : IsPartOf kind whole c
    is : part.class.name ≡ n

  named_part : (n : Text) (c : ClassOf Text) → class_named text_eq mixed n ≡ Some c → Named n c
  named_part n c e =
      let f = finds (λ (x : ClassOf Text). text_eq n x.name) mixed c e in
      let p = all_has (IsPartOf kind whole) mixed c parts f.there in
      record { part = p; is = sym p.named ∙ sym (text_equal n c.name f.passes) }

  -- nothing is above `Object`
  none_above : (c : ClassOf Text) (p : IsPartOf kind whole c) → p.class.name ≡ codes "Object" → up c ≡ None
  none_above c p e = ap (class_of_name text_eq mixed) (by p.under)
    where
      root : p.class.superclass ≡ None
      root = (root_of p.place p.class p.at).0 (is_object p.class.name e)

      by : (c.superclass ≡ p.class.superclass) ⊎ ((c.superclass ≡ Some (codes "Object")) × (p.class.superclass ≢ None)) → c.superclass ≡ None
      by (inl s) = s ∙ root
      by (inr s) = absurd (s.1 root)

  own : (c : ClassOf Text) (p : IsPartOf kind whole c) (xs ys : List Text) → Sub xs ys → Sub (variables kind c ++ xs) (variables kind p.class ++ ys)
  own c p xs ys s = by p.defines
    where
      by : (variables kind c ≡ variables kind p.class) ⊎ (variables kind c ≡ []) → Sub (variables kind c ++ xs) (variables kind p.class ++ ys)
      by (inl e) = subst (λ (vs : List Text). Sub (vs ++ xs) (variables kind p.class ++ ys)) (sym e) (sub_all (variables kind p.class) s)
      by (inr e) = subst (λ (vs : List Text). Sub (vs ++ xs) (variables kind p.class ++ ys)) (sym e) (skip_all (variables kind p.class) s)

  -- `Object` is at the end of each chain
  object_sub : (bound k m : ℕ) (o s : ClassOf Text) (p : IsPartOf kind whole o) → p.class.name ≡ codes "Object" → slice_get whole k ≡ Some s → k < bound → Sub (all_of (upwards up m (Some o))) (all_of (chain_from text_eq whole (Some s)))
  object_sub zero k m o s p e at l = absurd (omega (arith, l))
  object_sub (suc bound) k m o s p e at l =
      subst (λ (cs : List (ClassOf Text)). Sub (all_of (upwards up m (Some o))) (all_of cs)) (sym (chain_from-step text_eq text_eq-refl whole w.before k s at))
      (by s.superclass refl (λ i t q f. object_sub bound i m o t p e q f))
    where
      alone : (n : ℕ) (ys : List Text) → Sub (all_of (upwards up n (Some o))) (variables kind p.class ++ ys)
      alone zero ys = Done
      alone (suc n) ys = own o p (all_of (upwards up n (up o))) ys (subst (λ (cs : List (ClassOf Text)). Sub (all_of cs) ys) (sym (ap (upwards up n) (none_above o p e) ∙ upwards-none up n)) Done)

      by : (q : Option Text) → s.superclass ≡ q → ((i : ℕ) (t : ClassOf Text) → slice_get whole i ≡ Some t → i < bound → Sub (all_of (upwards up m (Some o))) (all_of (chain_from text_eq whole (Some t)))) → Sub (all_of (upwards up m (Some o))) (variables kind s ++ all_of (chain_from text_eq whole (superclass_of text_eq whole s)))
      by None f rest =
          let its : codes "Object" ≡ s.name = text_equal (codes "Object") s.name ((root_of k s at).1 f) in
          let same : p.class ≡ s = one_class p.place k p.class s p.at at (e ∙ its) in
          subst (λ (x : ClassOf Text). Sub (all_of (upwards up m (Some o))) (variables kind x ++ all_of (chain_from text_eq whole (superclass_of text_eq whole s)))) same (alone m (all_of (chain_from text_eq whole (superclass_of text_eq whole s))))
      by (Some n) f rest =
          let a = above k s n at f in
          skip_all (variables kind s) (subst (λ (q : Option (ClassOf Text)). Sub (all_of (upwards up m (Some o))) (all_of (chain_from text_eq whole q))) (sym a.is) (rest a.place a.class a.at (let less : a.place < k = a.earlier in omega (arith, less, l))))

  -- the variables above a class are some of those that are there in the whole
  chain_sub : (bound m : ℕ) (c : ClassOf Text) (p : IsPartOf kind whole c) → p.place < bound → Sub (all_of (upwards up m (Some c))) (all_of (chain_from text_eq whole (Some p.class)))
  chain_sub zero m c p l = absurd (omega (arith, l))
  chain_sub (suc bound) zero c p l = Done
  chain_sub (suc bound) (suc m) c p l =
      subst (λ (cs : List (ClassOf Text)). Sub (all_of (upwards up (suc m) (Some c))) (all_of cs)) (sym (chain_from-step text_eq text_eq-refl whole w.before p.place p.class p.at))
      (own c p (all_of (upwards up m (up c))) (all_of (chain_from text_eq whole (superclass_of text_eq whole p.class))) (by (up c) refl p.under (λ d q f. chain_sub bound m d q f)))
    where
      same_under : (d : ClassOf Text) (n : Text) → class_named text_eq mixed n ≡ Some d → p.class.superclass ≡ Some n → ((x : ClassOf Text) (q : IsPartOf kind whole x) → q.place < bound → Sub (all_of (upwards up m (Some x))) (all_of (chain_from text_eq whole (Some q.class)))) → Sub (all_of (upwards up m (Some d))) (all_of (chain_from text_eq whole (superclass_of text_eq whole p.class)))
      same_under d n e f rest =
          let d' = named_part n d e in
          let a = above p.place p.class n p.at f in
          let place : d'.part.place ≡ a.place = one_place d'.part.place a.place d'.part.class a.class d'.part.at a.at (d'.is ∙ sym a.named) in
          let class : d'.part.class ≡ a.class = one_class d'.part.place a.place d'.part.class a.class d'.part.at a.at (d'.is ∙ sym a.named) in
          subst (λ (q : Option (ClassOf Text)). Sub (all_of (upwards up m (Some d))) (all_of (chain_from text_eq whole q))) (ap Some class ∙ sym a.is) (rest d d'.part (let less : a.place < p.place = a.earlier in omega (arith, place, less, l)))

      object_under : (d : ClassOf Text) → class_named text_eq mixed (codes "Object") ≡ Some d → (o : Option Text) → p.class.superclass ≡ o → (p.class.superclass ≡ None → ⊥) → Sub (all_of (upwards up m (Some d))) (all_of (chain_from text_eq whole (superclass_of text_eq whole p.class)))
      object_under d e None f other = absurd (other f)
      object_under d e (Some n) f other =
          let d' = named_part (codes "Object") d e in
          let a = above p.place p.class n p.at f in
          subst (λ (q : Option (ClassOf Text)). Sub (all_of (upwards up m (Some d))) (all_of (chain_from text_eq whole q))) (sym a.is) (object_sub (suc a.place) a.place m d a.class d'.part d'.is a.at (omega arith))

      in_both : (d : ClassOf Text) (o : Option Text) → c.superclass ≡ o → class_of_name text_eq mixed o ≡ Some d → (c.superclass ≡ p.class.superclass) ⊎ ((c.superclass ≡ Some (codes "Object")) × (p.class.superclass ≢ None))
          → ((x : ClassOf Text) (q : IsPartOf kind whole x) → q.place < bound → Sub (all_of (upwards up m (Some x))) (all_of (chain_from text_eq whole (Some q.class)))) → Sub (all_of (upwards up m (Some d))) (all_of (chain_from text_eq whole (superclass_of text_eq whole p.class)))
      in_both d None f e u rest = absurd (cc)
      in_both d (Some n) f e (inl s) rest = same_under d n e (sym s ∙ f) rest
      in_both d (Some n) f e (inr s) rest =
          let one : Some n ≡ Some (codes "Object") = sym f ∙ s.0 in let name : n ≡ codes "Object" = ap (λ (q : Option Text). unwrap_or q n) one in
          object_under d (ap (class_named text_eq mixed) (sym name) ∙ e) p.class.superclass refl s.1

      by : (o : Option (ClassOf Text)) → up c ≡ o → (c.superclass ≡ p.class.superclass) ⊎ ((c.superclass ≡ Some (codes "Object")) × (p.class.superclass ≢ None))
          → ((x : ClassOf Text) (q : IsPartOf kind whole x) → q.place < bound → Sub (all_of (upwards up m (Some x))) (all_of (chain_from text_eq whole (Some q.class)))) → Sub (all_of (upwards up m (up c))) (all_of (chain_from text_eq whole (superclass_of text_eq whole p.class)))
      by None e u rest = subst (λ (cs : List (ClassOf Text)). Sub (all_of cs) (all_of (chain_from text_eq whole (superclass_of text_eq whole p.class)))) (sym (ap (upwards up m) e ∙ upwards-none up m)) Done
      by (Some d) e u rest = subst (λ (o : Option (ClassOf Text)). Sub (all_of (upwards up m o)) (all_of (chain_from text_eq whole (superclass_of text_eq whole p.class)))) (sym e) (in_both d c.superclass refl e u rest)

  -- no variable stands twice
  pub once : AllByRecursion (DefinesOnceOnChain text_eq whole kind) whole → AllByRecursion (DefinesOnceOnChain text_eq mixed kind) mixed
  once all = all_from (DefinesOnceOnChain text_eq mixed kind) mixed (λ c h. let p = all_has (IsPartOf kind whole) mixed c parts h in no_repeat_sub (chain_sub (suc p.place) (length mixed) c p (omega arith)) (all_has (DefinesOnceOnChain text_eq whole kind) whole p.class all (at_has whole p.place p.class p.at)))

  pub twice : AllByRecursion (DefinesOnceOnChain text_eq whole kind) whole → (n : Text) → stands_twice text_eq mixed kind n ≡ false
  twice all n = stands_once mixed kind n (once all)

  -- a class that stands before a place
  record IsEarlier (j : ℕ) (c : ClassOf Text) : Type 0 where
    part : IsPartOf kind whole c
    earlier : part.place < j

  goes_up : (j : ℕ) (c : ClassOf Text) (p : IsPartOf kind whole c) → p.place ≤ j → OptionNames (IsEarlier j) (class_of_name text_eq mixed c.superclass)
  goes_up j c p l = by c.superclass refl p.under
    where
      not_first : (p.class.superclass ≡ None → ⊥) → p.place ≡ 0 → ⊥
      not_first other e = other (first_root p.class (ap (λ (k : ℕ). slice_get whole k) (sym e) ∙ p.at))

      at : (n : Text) → c.superclass ≡ Some n → (c.superclass ≡ p.class.superclass) ⊎ ((c.superclass ≡ Some (codes "Object")) × (p.class.superclass ≢ None)) → (o : Option (ClassOf Text)) → class_named text_eq mixed n ≡ o → OptionNames (IsEarlier j) o
      at n f u None e = tt
      at n f (inl s) (Some d) e =
          let d' = named_part n d e in
          let a = above p.place p.class n p.at (sym s ∙ f) in
          let place : d'.part.place ≡ a.place = one_place d'.part.place a.place d'.part.class a.class d'.part.at a.at (d'.is ∙ sym a.named) in
          record { part = d'.part; earlier = let less : a.place < p.place = a.earlier in omega (arith, place, less, l) }
      at n f (inr s) (Some d) e =
          let d' = named_part n d e in
          let name : n ≡ codes "Object" = ap (λ (q : Option Text). unwrap_or q n) (sym f ∙ s.0) in
          let place : d'.part.place ≡ 0 = object_first d'.part.place d'.part.class d'.part.at (d'.is ∙ name) in
          let other : p.place ≡ 0 → ⊥ = not_first s.1 in
          record { part = d'.part; earlier = omega (arith, place, other, l) }

      by : (o : Option Text) → c.superclass ≡ o → (c.superclass ≡ p.class.superclass) ⊎ ((c.superclass ≡ Some (codes "Object")) × (p.class.superclass ≢ None)) → OptionNames (IsEarlier j) (class_of_name text_eq mixed o)
      by None f u = tt
      by (Some n) f u = at n f u (class_named text_eq mixed n) refl

  -- a class that will be what it is in the whole does not come to stand above itself
  pub no_cycle : (c : ClassOf Text) → IsPartOf kind whole c → stands_in text_eq c.name (chain text_eq mixed c.superclass) ≡ false
  no_cycle c p =
      any_none (λ (x : ClassOf Text). text_eq c.name x.name) (chain text_eq mixed c.superclass)
      (all_from (λ (x : ClassOf Text). text_eq c.name x.name ≡ false) (chain text_eq mixed c.superclass) (λ x h. other x (all_has (IsEarlier p.place) (chain text_eq mixed c.superclass) x earlier h)))
    where
      earlier : AllByRecursion (IsEarlier p.place) (chain text_eq mixed c.superclass)
      earlier = upwards-all (IsEarlier p.place) up (λ x e. goes_up p.place x e.part (let l : e.part.place < p.place = e.earlier in omega (arith, l))) (length mixed) (class_of_name text_eq mixed c.superclass) (goes_up p.place c p (omega arith))

      other : (x : ClassOf Text) → IsEarlier p.place x → text_eq c.name x.name ≡ false
      other x e = by (text_eq c.name x.name) refl
        where
          by : (b : Bool) → text_eq c.name x.name ≡ b → b ≡ false
          by false f = refl
          by true f =
              let same : p.place ≡ e.part.place = one_place p.place e.part.place p.class e.part.class p.at e.part.at (sym p.named ∙ text_equal c.name x.name f ∙ e.part.named) in
              let l : e.part.place < p.place = e.earlier in
              absurd (omega (arith, same, l))
