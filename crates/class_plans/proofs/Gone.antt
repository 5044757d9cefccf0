-- The slots once a class is gone with its methods.
use Rattle.std.proofs.Common.{◌≡◌, ◌⊎◌, inl, inr, ℕ, ◌<◌, ◌&&◌, Bool, true, false, List, [], ◌∷◌, ◌++◌, length, map, filter, Option, None, Some, is_some, option_map, slice_get, refl, sym, ap, subst, ◌∙◌, true≢false}
use Rattle.std.specs.Prelude.{if◌then◌else◌, not, nat_eq, Contains}
use Rattle.std.specs.List.{list_any, AllByRecursion}
use Rattle.std.specs.Option.{option_map_or, option_and_then}
use Rattle.std.proofs.Math.Dec.{eqb}
use Rattle.std.proofs.lemmas.Bool.Decides.{eqb_tells}
use Rattle.file_laws.proofs.Repeats.{none_pass}
use Rattle.mentions.proofs.Lists.{Contains-first, Contains-later}
use Rattle.image_model.specs.Image.{ClassOf}
use Rattle.class_table.specs.declared.record.ClassRec.{ClassRec}
use Rattle.class_table.specs.declared.record.MethodRec.{MethodRec}
use Rattle.class_table.specs.declared.record.Place.{Place}
use Rattle.class_table.specs.declared.record.Place.TheVariants as place
use Rattle.class_table.specs.declared.record.Slot.TheVariants as slot
use Rattle.class_table.specs.Order.{without}
use Rattle.class_table.specs.Slots.{Slots}
use Rattle.class_table.specs.Changing.{with_live}
use Rattle.class_table.specs.Finding.{named_in}
use Rattle.class_table.specs.Kept.{IsAboveNothing}
use Rattle.class_table.specs.Valid.{IsLive, IsOrderly}
use Rattle.class_table.specs.View.{live, live_at, class_name, class_of, class_at, entry_of, number_image}
use Rattle.class_table.proofs.ClassLemmas.{class-taken_out}
use Rattle.class_table.proofs.Found.{class_named-named_in}
use Rattle.class_table.proofs.KeptLemmas.{method-taken_out}
use Rattle.class_table.proofs.Live.{or_true, eqb-refl, eqb-equal, IsLive-first, IsLive-rest, live-fact, there}
use Rattle.change_set.specs.declared.change.Change.{Change}
use Rattle.change_set.specs.declared.change.Change.TheVariants as change
use Rattle.change_set.specs.Changes.{all_applied, CanApplyAll}
use Rattle.wider_slots.specs.Closed.{FitsIn}
use Rattle.command_model.specs.Commands.{RemoveClass}
use Rattle.command_model.specs.ClassConditions.{has_no_subclasses}
use Rattle.command_model.specs.ClassEffects.{class_removed}
use Rattle.command_model.specs.Hierarchy.{is_class, is_child, is_method_of}
use Rattle.command_model.specs.Judged.{first_false}
use Rattle.command_model.proofs.Held.{all-hold}
use Rattle.commands.specs.Views.{asked_by}
use Rattle.mentions.specs.Mentions.{method_names}
use Rattle.reference_index.specs.Mentioned.{DiffersAtMost}
use Rattle.st_tree.specs.View.{method_of}
use Rattle.class_questions.proofs.ChainLaws.{named-slot}
use Rattle.plans.specs.Plan.{IsPlan}
use Rattle.class_plans.specs.Removed.{is_of_class, methods_of, method_gone, place_of, class_gone}
use Rattle.class_plans.proofs.Orders.{without_all, without_all-filter, without-filter, live-filter, live-kept, live-of_kept}

-- methods that go, and then the class
gone-all : (s : Slots) (ks : List ℕ) (id : ℕ) → all_applied s (map method_gone ks ++ change.Live (slot.Class id) None ∷ []) ≡ record s { method_order = without_all ks s.method_order; class_order = without id s.class_order }
gone-all s [] id = refl
gone-all s (k ∷ ks) id = gone-all (with_live s (slot.Method k) None) ks id

gone-can : (s : Slots) (ks : List ℕ) (id : ℕ) → ((k : ℕ) → IsLive ks k → k < length s.methods) → id < length s.classes → CanApplyAll s (map method_gone ks ++ change.Live (slot.Class id) None ∷ [])
gone-can s [] id h less = ((less, λ n e. absurd (cc)), tt)
gone-can s (k ∷ ks) id h less = ((h k (IsLive-first k ks), λ n e. absurd (cc)), gone-can (with_live s (slot.Method k) None) ks id (λ j l. h j (IsLive-rest j k ks l)) less)

gone-fit : (s : Slots) (ks : List ℕ) (id : ℕ) → AllByRecursion (FitsIn s) (map method_gone ks ++ change.Live (slot.Class id) None ∷ [])
gone-fit s [] id = (tt, tt)
gone-fit s (k ∷ ks) id = (tt, gone-fit s ks id)

-- slots without methods are orderly
gone-orderly : (s : Slots) → IsOrderly s → (ks : List ℕ) → IsOrderly (record s { method_order = without_all ks s.method_order })
gone-orderly s o [] = o
gone-orderly s o (k ∷ ks) = gone-orderly (with_live s (slot.Method k) None) (method-taken_out s o k) ks

-- the place of a method that goes
place-there : (ks : List ℕ) (k : ℕ) → IsLive ks k → Contains (map place_of ks) (place.Method k)
place-there [] k l = absurd (true≢false (sym l))
place-there (j ∷ js) k l = by (or_true (eqb k j) (list_any (eqb k) js) l) (place-there js k)
  where
    by : (eqb k j ≡ true) ⊎ (list_any (eqb k) js ≡ true) → (IsLive js k → Contains (map place_of js) (place.Method k)) → Contains (map place_of (j ∷ js)) (place.Method k)
    by (inl e) rest = Contains-first (place.Method j) (place.Method k) (map place_of js) (ap place_of (sym (eqb-equal k j e)))
    by (inr m) rest = Contains-later (place.Method j) (place.Method k) (map place_of js) (rest m)

-- the second of two tests that pass
both-true : (a b : Bool) → (a && b) ≡ true → b ≡ true
both-true true b h = h
both-true false b h = absurd (true≢false (sym h))

-- a test that does not pass
pub not-passes : (b : Bool) → not b ≡ true → b ≡ false
not-passes true h = absurd (true≢false (sym h))
not-passes false h = refl

-- there is a slot where there is a class of a name
pub found-there : (s : Slots) (c : ℕ) → is_class nat_eq (number_image s) c ≡ true → named_in s.classes s.class_order c ≡ None → ⊥
found-there s c h e = true≢false (sym h ∙ ap is_some (class_named-named_in s c ∙ ap (option_and_then (class_at s)) e))

module _ (s : Slots) (o : IsOrderly s) (c id : ℕ) (found : named_in s.classes s.class_order c ≡ Some id) where
  named : IsLive s.class_order id × (class_name s.classes id ≡ Some c)
  named = named-slot s.classes s.class_order c id found

  -- slots of live classes are told apart as their names are
  same-class : (k n : ℕ) → IsLive s.class_order k → class_name s.classes k ≡ Some n → eqb id k ≡ eqb c n
  same-class k n l e = by (eqb_tells id k) (eqb_tells c n)
    where
      some : {x y : ℕ} → Some x ≡ Some y → x ≡ y
      some h = cc

      by : ((eqb id k ≡ true) × (id ≡ k)) ⊎ ((eqb id k ≡ false) × (id ≡ k → ⊥)) → ((eqb c n ≡ true) × (c ≡ n)) ⊎ ((eqb c n ≡ false) × (c ≡ n → ⊥)) → eqb id k ≡ eqb c n
      by (inl a) (inl b) = a.0 ∙ sym b.0
      by (inl a) (inr b) = absurd (b.1 (some (sym named.1 ∙ ap (class_name s.classes) a.1 ∙ e)))
      by (inr a) (inl b) = absurd (a.1 (o.class_names_distinct id k n named.0 l (named.1 ∙ ap Some b.1) e))
      by (inr a) (inr b) = a.0 ∙ sym b.0

  name-of : (k : ℕ) (r : ClassRec) → slice_get s.classes k ≡ Some r → class_name s.classes k ≡ Some r.name
  name-of k r e = ap (option_map (λ (x : ClassRec). x.name)) e

  -- what is told of a live method
  told : (k : ℕ) (m : MethodRec) → IsLive s.method_order k → slice_get s.methods k ≡ Some m → is_of_class s id k ≡ eqb id m.class
  told k m l e = ap (λ (p : Option MethodRec). option_map_or (λ (x : MethodRec). nat_eq id x.class) p false) (ap (λ (b : Bool). if b then slice_get s.methods k else None) l ∙ e)

  of-class : (k : ℕ) (m : MethodRec) → IsLive s.method_order k → slice_get s.methods k ≡ Some m → is_of_class s id k ≡ is_method_of nat_eq c (entry_of s.classes m)
  of-class k m l e =
      let home = o.method_classes_live k m l e in
      let at = there s.classes m.class (o.class_order.below m.class home) in
      told k m l e ∙ same-class m.class (at.0).name home (name-of m.class at.0 at.1) ∙ sym (ap (λ (p : Option ℕ). option_map_or (nat_eq c) p false) (name-of m.class at.0 at.1))

  -- the methods that stay, and all slots after
  abbrev stays : ℕ → Bool
  stays k = not (is_of_class s id k)

  abbrev kept : List ℕ
  kept = filter stays s.method_order

  abbrev less : Slots
  less = record s { method_order = kept }

  abbrev after : Slots
  after = record s { method_order = kept; class_order = without id s.class_order }

  kept-is : without_all (methods_of s id) s.method_order ≡ kept
  kept-is = without_all-filter (is_of_class s id) s.method_order o.method_order.distinct

  after-is : all_applied s (class_gone s id) ≡ after
  after-is = gone-all s (methods_of s id) id ∙ ap (λ (ks : List ℕ). record s { method_order = ks; class_order = without id s.class_order }) kept-is

  classes-are : map (class_of s.classes) (live s.classes (without id s.class_order)) ≡ filter (λ (e : ClassOf ℕ). not (nat_eq c e.name)) (number_image s).classes
  classes-are =
      ap (λ (ks : List ℕ). map (class_of s.classes) (live s.classes ks)) (without-filter id s.class_order o.class_order.distinct)
      ∙ live-filter (class_of s.classes) (λ (e : ClassOf ℕ). not (nat_eq c e.name)) (λ k. not (eqb id k)) s.classes s.class_order (λ k r l e. ap not (same-class k r.name l (name-of k r e)))

  methods-are : map (entry_of s.classes) (live s.methods kept) ≡ filter (λ m. not (is_method_of nat_eq c m)) (number_image s).methods
  methods-are = live-filter (entry_of s.classes) (λ m. not (is_method_of nat_eq c m)) stays s.methods s.method_order (λ k m l e. ap not (of-class k m l e))

  image-is : number_image after ≡ class_removed nat_eq c (number_image s)
  image-is = λ j. record { classes = classes-are j; methods = methods-are j; doits = (number_image s).doits; heads = s.heads }

  differs : DiffersAtMost s after (map place_of (methods_of s id))
  differs (place.DoIt n) not_there = refl
  differs (place.Method k) not_there = ap (λ (p : Option MethodRec). option_map_or (λ (m : MethodRec). method_names (method_of m.tree)) p []) (by (is_of_class s id k) refl)
    where
      live-then : (b : Bool) → list_any (eqb k) s.method_order ≡ b → option_map_or (λ (m : MethodRec). nat_eq id m.class) (if b then slice_get s.methods k else None) false ≡ true → IsLive s.method_order k
      live-then true l h = l
      live-then false l h = absurd (true≢false (sym h))

      by : (b : Bool) → is_of_class s id k ≡ b → live_at s.methods kept k ≡ live_at s.methods s.method_order k
      by true q = absurd (not_there (place-there (methods_of s id) k (live-of_kept (is_of_class s id) k s.method_order q ∙ live-then (list_any (eqb k) s.method_order) refl q)))
      by false q = ap (λ (b : Bool). if b then slice_get s.methods k else None) (live-of_kept stays k s.method_order (ap not q))

  module _ (no_subclasses : has_no_subclasses nat_eq (number_image s) c ≡ true) where
    nothing : IsAboveNothing less id
    nothing = record { classes = no-class; methods = no-method }
      where
        none : AllByRecursion (λ (e : ClassOf ℕ). is_child nat_eq c e ≡ false) (number_image s).classes
        none =
            none_pass (is_child nat_eq c) (number_image s).classes
            (not-passes (list_any (is_child nat_eq c) (number_image s).classes) (both-true (is_class nat_eq (number_image s) c) (not (list_any (is_child nat_eq c) (number_image s).classes)) no_subclasses))

        no-class : (j : ℕ) (r : ClassRec) → IsLive s.class_order j → slice_get s.classes j ≡ Some r → r.superclass ≡ Some id → ⊥
        no-class j r l e up =
            let fails = live-fact (λ (x : ClassOf ℕ). is_child nat_eq c x ≡ false) (class_of s.classes) s.classes s.class_order j r none l e in
            true≢false (sym (ap (λ (p : Option ℕ). option_map_or (nat_eq c) p false) (ap (option_and_then (class_name s.classes)) up ∙ named.1) ∙ eqb-refl c) ∙ fails)

        no-method : (j : ℕ) (m : MethodRec) → IsLive kept j → slice_get s.methods j ≡ Some m → m.class ≡ id → ⊥
        no-method j m l e is =
            let both = live-kept stays j s.method_order l in
            true≢false (sym (told j m both.0 e ∙ ap (eqb id) is ∙ eqb-refl id) ∙ not-passes (is_of_class s id j) both.1)

    less-orderly : IsOrderly less
    less-orderly = subst (λ (ks : List ℕ). IsOrderly (record s { method_order = ks })) kept-is (gone-orderly s o (methods_of s id))

    after-orderly : IsOrderly after
    after-orderly = class-taken_out less less-orderly id nothing

    pub gone-plan : IsPlan s (RemoveClass c) (class_gone s id) (map place_of (methods_of s id))
    gone-plan = record {
      can = gone-can s (methods_of s id) id (λ k l. o.method_order.below k (live-kept (is_of_class s id) k s.method_order l).0) (o.class_order.below id named.0);
      fit = gone-fit s (methods_of s id) id;
      effect = ap number_image after-is ∙ image-is;
      names = ap (λ (t : Slots). t.names) after-is;
      orderly = subst IsOrderly (sym after-is) after-orderly;
      touched = subst (λ (t : Slots). DiffersAtMost s t (map place_of (methods_of s id))) (sym after-is) differs;
    }

-- what the conditions of the command say
pub no-subclasses : (s : Slots) (c : ℕ) → first_false (asked_by s.names) (number_image s) (RemoveClass c) ≡ None → has_no_subclasses nat_eq (number_image s) c ≡ true
no-subclasses s c h = (all-hold (asked_by s.names) (number_image s) (RemoveClass c) h).no_subclasses

pub class-there : (s : Slots) (c : ℕ) → first_false (asked_by s.names) (number_image s) (RemoveClass c) ≡ None → named_in s.classes s.class_order c ≡ None → ⊥
class-there s c h = found-there s c (first (is_class nat_eq (number_image s) c) (not (list_any (is_child nat_eq c) (number_image s).classes)) (no-subclasses s c h))
  where
    first : (a b : Bool) → (a && b) ≡ true → a ≡ true
    first true b h = refl
    first false b h = absurd (true≢false (sym h))

-- the plan, as its changes and places are put together
pub gone-found : (s : Slots) → IsOrderly s → (c id : ℕ) → named_in s.classes s.class_order c ≡ Some id → first_false (asked_by s.names) (number_image s) (RemoveClass c) ≡ None
    → (none first changes : List Change) (nowhere touched : List Place) → none ≡ [] → first ≡ none ++ map method_gone (methods_of s id) → changes ≡ first ++ change.Live (slot.Class id) None ∷ []
    → nowhere ≡ [] → touched ≡ nowhere ++ map place_of (methods_of s id) → IsPlan s (RemoveClass c) changes touched
gone-found s o c id found holds none first changes nowhere touched a b d e f =
    let changes-are : changes ≡ class_gone s id = d ∙ ap (λ (cs : List Change). cs ++ change.Live (slot.Class id) None ∷ []) (b ∙ ap (λ (cs : List Change). cs ++ map method_gone (methods_of s id)) a) in
    let touched-are : touched ≡ map place_of (methods_of s id) = f ∙ ap (λ (ps : List Place). ps ++ map place_of (methods_of s id)) e in
    subst (λ (cs : List Change). IsPlan s (RemoveClass c) cs touched) (sym changes-are) (subst (λ (ps : List Place). IsPlan s (RemoveClass c) (class_gone s id) ps) (sym touched-are) (gone-plan s o c id found (no-subclasses s c holds)))
