-- Classes and methods that are put in, one by one.
use Rattle.std.proofs.Common.{◌≡◌, ◌⊎◌, inl, inr, ℕ, suc, ◌<◌, ◌≤◌, ◌+◌, ◌&&◌, ◌||◌, ◌++◌, Bool, true, false, not, List, [], ◌∷◌, length, get_or, map, filter, take, Option, None, Some, slice_get, option_map, refl, sym, ap, subst, ◌∙◌, arith, true≢false}
use Rattle.std.specs.Prelude.{nat_eq, if◌then◌else◌}
use Rattle.std.specs.List.{list_any, list_all}
use Rattle.std.specs.Option.{option_map_or}
use Rattle.std.proofs.lemmas.Bool.{and_parts, and_from, or_cases, or_left, or_right}
use Rattle.std.proofs.lemmas.List.Folds.{list_all-append, list_any-append}
use Rattle.std.proofs.lemmas.Option.{slice_get_read}
use Rattle.image_model.specs.Image.{EntryOf, DoItOf, ImageOf, plus}
use Rattle.image_model.specs.Words.{number_words}
use Rattle.strip_model.specs.Reach.{CodeOf, ReachOf, has_class, has_selector, has_signature, has_method, is_closed, code_means, code_sends, if_named, signatures}
use Rattle.strip_model.proofs.Listed.{count-least, count-more}
use Rattle.class_table.specs.declared.record.ClassRec.{ClassRec}
use Rattle.class_table.specs.declared.record.MethodRec.{MethodRec}
use Rattle.class_table.specs.declared.record.MethodInfo.{MethodInfo}
use Rattle.class_table.specs.Info.{IsInfoOf}
use Rattle.st_tree.specs.declared.tree.Method.{Method}
use Rattle.class_questions.proofs.AnyLive.{live_at-live}
use Rattle.class_table.specs.Slots.{Slots}
use Rattle.class_table.specs.Valid.{IsLive, IsOrderly}
use Rattle.class_table.specs.View.{class_name, entry_of, live_at, number_image}
use Rattle.class_table.proofs.Live.{there, eqb-refl, eqb-equal}
use Rattle.code_questions.proofs.Witnesses.{passes-live}
use Rattle.image_strip.specs.Code.{AreMeant, method_at}
use Rattle.image_strip.specs.Least.{IsMore, IsBelow, IsOpened, IsStep, unreached, IsPass, is_method_settled, option_names}
use Rattle.image_strip.specs.Reached.{Marks, is_marked}
use Rattle.image_strip.specs.SlotsClosed.{class_closed, code_closed, is_wanted}
use Rattle.image_strip.specs.Stripped.{is_class_marked}
use Rattle.image_strip.proofs.ClosedParts as parts
use Rattle.image_strip.proofs.Steps.{asked, take-step, one-of, all-marked, class-more, code-more, step-none, step-then, opened-more, class-of, method-of}

-- some pass where not all fail
any-all : (q : ℕ → Bool) (xs : List ℕ) → list_any q xs ≡ not (list_all (λ x. not (q x)) xs)
any-all q [] = refl
any-all q (x ∷ xs) = by (q x) (any-all q xs)
  where
    by : (b : Bool) → list_any q xs ≡ not (list_all (λ y. not (q y)) xs) → (b || list_any q xs) ≡ not (not b && list_all (λ y. not (q y)) xs)
    by true rest = refl
    by false rest = rest

-- a class among those that are meant
pub meant-member : (c : CodeOf ℕ) (classes : List ℕ) → AreMeant c classes → (n : ℕ) → list_any (nat_eq n) classes ≡ list_any (nat_eq n) (code_means c)
meant-member c classes meant n = any-all (nat_eq n) classes ∙ ap not (meant (λ x. not (nat_eq n x))) ∙ sym (any-all (nat_eq n) (code_means c))

module _ (s : Slots) where
  -- fewer that are not marked
  not-more : (a b : Bool) → (a ≡ true → b ≡ true) → not b ≡ true → not a ≡ true
  not-more false b h e = refl
  not-more true true h e = e
  not-more true false h e = absurd (true≢false (sym (h refl)))

  module _ (a b : Marks) (more : IsMore a b) where
    classes-least : length (filter (λ k. not (is_class_marked s.classes b.classes k)) s.class_order) ≤ length (filter (λ k. not (is_class_marked s.classes a.classes k)) s.class_order)
    classes-least =
        count-least (λ k. not (is_class_marked s.classes b.classes k)) (λ k. not (is_class_marked s.classes a.classes k))
        (λ k. not-more (is_class_marked s.classes a.classes k) (is_class_marked s.classes b.classes k) (class-more s.classes a.classes b.classes k more.classes)) s.class_order

    methods-least : length (filter (λ k. not (is_marked b.methods k)) s.method_order) ≤ length (filter (λ k. not (is_marked a.methods k)) s.method_order)
    methods-least =
        count-least (λ k. not (is_marked b.methods k)) (λ k. not (is_marked a.methods k))
        (λ k. not-more (is_marked a.methods k) (is_marked b.methods k) (more.methods k)) s.method_order

    both-tests : (x y : Bool) → x ≡ false → y ≡ true → (not x && not (not y)) ≡ true
    both-tests x y e f = λ j. not (e j) && not (not (f j))

    -- one more method, or one more class
    pub fewer-methods : (k : ℕ) → IsLive s.method_order k → is_marked a.methods k ≡ false → is_marked b.methods k ≡ true → unreached s b < unreached s a
    fewer-methods k l e f =
        let less =
        count-more (λ j. not (is_marked b.methods j)) (λ j. not (is_marked a.methods j))
        (λ j. not-more (is_marked a.methods j) (is_marked b.methods j) (more.methods j)) s.method_order
        (passes-live (λ j. not (is_marked a.methods j) && not (not (is_marked b.methods j))) s.method_order k l (both-tests (is_marked a.methods k) (is_marked b.methods k) e f)) in
        omega (arith, classes-least, less)

    pub fewer-classes : (k : ℕ) → IsLive s.class_order k → is_class_marked s.classes a.classes k ≡ false → is_class_marked s.classes b.classes k ≡ true → unreached s b < unreached s a
    fewer-classes k l e f =
        let less =
        count-more (λ j. not (is_class_marked s.classes b.classes j)) (λ j. not (is_class_marked s.classes a.classes j))
        (λ j. not-more (is_class_marked s.classes a.classes j) (is_class_marked s.classes b.classes j) (class-more s.classes a.classes b.classes j more.classes)) s.class_order
        (passes-live (λ j. not (is_class_marked s.classes a.classes j) && not (not (is_class_marked s.classes b.classes j))) s.class_order k l (both-tests (is_class_marked s.classes a.classes k) (is_class_marked s.classes b.classes k) e f)) in
        omega (arith, methods-least, less)

  -- passes, one after the other
  module _ (settled : Marks → ℕ → Bool) where
    pub pass-none : (m : Marks) → IsPass s settled [] false m m
    pass-none m = record { step = step-none s m; same = λ e. refl; all_settled = λ e. refl; fewer = λ e. absurd (true≢false (sym e)) }

    pub pass-one : (k : ℕ) (m : Marks) → settled m k ≡ true → IsPass s settled (k ∷ []) false m m
    pass-one k m h = record { step = step-none s m; same = λ e. refl; all_settled = λ e. and_from (settled m k) true h refl; fewer = λ e. absurd (true≢false (sym e)) }

    pub pass-changed : (xs : List ℕ) (a b : Marks) → IsStep s a b → unreached s b < unreached s a → IsPass s settled xs true a b
    pass-changed xs a b step less = record { step = step; same = λ e. absurd (true≢false e); all_settled = λ e. absurd (true≢false e); fewer = λ e. less }

    pub pass-then : (xs ys : List ℕ) (t u : Bool) (a b c : Marks) → IsPass s settled xs t a b → IsPass s settled ys u b c → IsPass s settled (xs ++ ys) (t || u) a c
    pass-then xs ys true true a b c x y = let less = x.fewer refl in let more = y.fewer refl in pass-changed (xs ++ ys) a c (step-then s a b c x.step y.step) (omega (arith, less, more))
    pass-then xs ys true false a b c x y = pass-changed (xs ++ ys) a c (step-then s a b c x.step y.step) (subst (λ (m : Marks). unreached s m < unreached s a) (sym (y.same refl)) (x.fewer refl))
    pass-then xs ys false true a b c x y = pass-changed (xs ++ ys) a c (step-then s a b c x.step y.step) (subst (λ (m : Marks). unreached s c < unreached s m) (x.same refl) (y.fewer refl))
    pass-then xs ys false false a b c x y = record {
      step = step-then s a b c x.step y.step;
      same = λ e. y.same refl ∙ x.same refl;
      all_settled = λ e.
          list_all-append (settled c) xs ys
          ∙ and_from (list_all (settled c) xs) (list_all (settled c) ys) (ap (λ (m : Marks). list_all (settled m) xs) (y.same refl) ∙ x.all_settled refl) (y.all_settled refl);
      fewer = λ e. absurd (true≢false (sym e));
    }

    -- one more slot of a list
    pub pass-next : (xs : List ℕ) (k x : ℕ) (t u changed : Bool) (a b c : Marks) → k < length xs → x ≡ get_or xs k x → changed ≡ (t || u) → IsPass s settled (take k xs) t a b → IsPass s settled (x ∷ []) u b c → IsPass s settled (take (k + 1) xs) changed a c
    pass-next xs k x t u changed a b c h read is before one =
        let next : k + 1 ≡ suc k = omega arith in
        let all : take (k + 1) xs ≡ take k xs ++ x ∷ [] = ap (λ (n : ℕ). take n xs) next ∙ take-step xs k x (slice_get_read xs (length xs) k x refl h read) in
        subst (λ (ks : List ℕ). IsPass s settled ks changed a c) (sym all)
        (subst (λ (v : Bool). IsPass s settled (take k xs ++ x ∷ []) v a c) (sym is) (pass-then (take k xs) (x ∷ []) t u a b c before one))

module _ (s : Slots) (o : IsOrderly s) where
  named : (j : ℕ) → IsLive s.class_order j → (c : ClassRec) × (slice_get s.classes j ≡ Some c) × (class_name s.classes j ≡ Some c.name)
  named j l =
      let at = there s.classes j (o.class_order.below j l) in
      (at.0, at.1, ap (option_map (λ (c : ClassRec). c.name)) at.1)

  class-at : (marks : List Bool) (j : ℕ) (c : ClassRec) → slice_get s.classes j ≡ Some c → is_class_marked s.classes marks j ≡ is_marked marks c.name
  class-at marks j c at = ap (λ (p : Option ClassRec). option_map_or (λ (d : ClassRec). is_marked marks d.name) p false) at

  listed : (xs : List ℕ) (n : ℕ) → list_any (nat_eq n) (xs ++ n ∷ []) ≡ true
  listed xs n =
      list_any-append (nat_eq n) xs (n ∷ [])
      ∙ or_right (list_any (nat_eq n) xs) (nat_eq n n || false) (or_left (nat_eq n n) false (eqb-refl n))

  -- a class that is put in with its superclass
  module _ (k : ℕ) (c : ClassRec) (l : IsLive s.class_order k) (at : slice_get s.classes k ≡ Some c) (a b : Marks) (names : List ℕ) (are : names ≡ option_names s (Some k) ++ option_names s c.superclass)
      (cs : (n : ℕ) → is_marked b.classes n ≡ (list_any (nat_eq n) names || is_marked a.classes n)) (ss : (n : ℕ) → is_marked b.selectors n ≡ is_marked a.selectors n) (ms : b.methods ≡ a.methods) (fails : class_closed s a k ≡ false) where
    raised-names : names ≡ c.name ∷ option_names s c.superclass
    raised-names = are ∙ ap (λ (p : Option ℕ). if_named p ++ option_names s c.superclass) (ap (option_map (λ (d : ClassRec). d.name)) at)

    raised-more : IsMore a b
    raised-more = record {
      classes = λ n e. cs n ∙ or_right (list_any (nat_eq n) names) (is_marked a.classes n) e;
      selectors = λ n e. ss n ∙ e;
      methods = λ n e. ap (λ (marks : List Bool). is_marked marks n) ms ∙ e;
    }

    own-open : (if is_marked a.classes c.name then option_map_or (is_class_marked s.classes a.classes) c.superclass true else not c.kernel) ≡ false
    own-open =
        sym (ap (λ (p : Option ClassRec). option_map_or (λ (d : ClassRec). if is_marked a.classes d.name then option_map_or (is_class_marked s.classes a.classes) d.superclass true else not d.kernel) p true) at) ∙ fails

    own-marked : is_marked b.classes c.name ≡ true
    own-marked =
        cs c.name ∙ or_left (list_any (nat_eq c.name) names) (is_marked a.classes c.name) (ap (list_any (nat_eq c.name)) raised-names ∙ or_left (nat_eq c.name c.name) (list_any (nat_eq c.name) (option_names s c.superclass)) (eqb-refl c.name))

    raised-sound : (e : DoItOf ℕ) (r : ReachOf ℕ) → is_closed (number_words s.names) (plus (number_image s) e) r ≡ true → IsBelow s r a → IsBelow s r b
    raised-sound e r closed below = record {
      classes = λ n h. by n (or_cases (list_any (nat_eq n) names) (is_marked a.classes n) (sym (cs n) ∙ h));
      selectors = λ n h. below.selectors n (sym (ss n) ∙ h);
      methods = λ j x lj ej h. below.methods j x lj ej (ap (λ (marks : List Bool). is_marked marks j) (sym ms) ∙ h);
    }
      where
        hc : ℕ → Bool
        hc = has_class nat_eq r

        both : ((not c.kernel || hc c.name) ≡ true) × ((not (hc c.name) || list_all hc (option_names s c.superclass)) ≡ true)
        both = and_parts (not c.kernel || hc c.name) (not (hc c.name) || list_all hc (option_names s c.superclass)) (class-of s e r closed k c l at)

        own : (t kernel : Bool) → is_marked a.classes c.name ≡ t → c.kernel ≡ kernel → (if t then option_map_or (is_class_marked s.classes a.classes) c.superclass true else not kernel) ≡ false → hc c.name ≡ true
        own true kernel q u h = below.classes c.name q
        own false true q u h = asked c.kernel (hc c.name) both.0 u
        own false false q u h = absurd (true≢false h)

        own-there : hc c.name ≡ true
        own-there = own (is_marked a.classes c.name) c.kernel refl refl own-open

        all : list_all hc names ≡ true
        all = ap (list_all hc) raised-names ∙ and_from (hc c.name) (list_all hc (option_names s c.superclass)) own-there (asked (hc c.name) (list_all hc (option_names s c.superclass)) both.1 own-there)

        by : (n : ℕ) → (list_any (nat_eq n) names ≡ true) ⊎ (is_marked a.classes n ≡ true) → hc n ≡ true
        by n (inl h) = one-of hc names n all h
        by n (inr h) = below.classes n h

    raised-fewer : unreached s b < unreached s a
    raised-fewer = by (is_marked a.classes c.name) refl own-open
      where
        above : (p : Option ℕ) → c.superclass ≡ p → option_map_or (is_class_marked s.classes a.classes) p true ≡ false → unreached s b < unreached s a
        above None q h = absurd (true≢false h)
        above (Some j) q h =
            let lj = o.superclasses_live j k c l at q in
            let d = named j lj in
            let is : option_names s c.superclass ≡ (d.0).name ∷ [] = ap (λ (p : Option ℕ). option_names s p) q ∙ ap if_named d.2 in
            let there_now : is_marked b.classes (d.0).name ≡ true =
            cs (d.0).name ∙ or_left (list_any (nat_eq (d.0).name) names) (is_marked a.classes (d.0).name)
            (ap (list_any (nat_eq (d.0).name)) (raised-names ∙ ap (λ (xs : List ℕ). c.name ∷ xs) is) ∙ listed (c.name ∷ []) (d.0).name) in
            fewer-classes s a b raised-more j lj h (class-at b.classes j d.0 d.1 ∙ there_now)

        by : (t : Bool) → is_marked a.classes c.name ≡ t → (if t then option_map_or (is_class_marked s.classes a.classes) c.superclass true else not c.kernel) ≡ false → unreached s b < unreached s a
        by true q h = above c.superclass refl h
        by false q h = fewer-classes s a b raised-more k l (class-at a.classes k c at ∙ q) (class-at b.classes k c at ∙ own-marked)

    pub raised : IsPass s (class_closed s) (k ∷ []) true a b
    raised = pass-changed s (class_closed s) (k ∷ []) a b (record { more = raised-more; opened = opened-more s a b raised-more ms; sound = raised-sound }) raised-fewer

  -- a method that is put in
  module _ (k : ℕ) (x : MethodRec) (l : IsLive s.method_order k) (at : slice_get s.methods k ≡ Some x) (a b : Marks) (meant names : List ℕ) (are : names ≡ meant ++ option_names s (Some x.class)) (means : AreMeant (method_at s x.class x.meta x.tree) meant)
      (cs : (n : ℕ) → is_marked b.classes n ≡ (list_any (nat_eq n) names || is_marked a.classes n)) (ss : (n : ℕ) → is_marked b.selectors n ≡ (list_any (nat_eq n) (code_sends (method_at s x.class x.meta x.tree)) || is_marked a.selectors n))
      (ms : (n : ℕ) → is_marked b.methods n ≡ (nat_eq n k || is_marked a.methods n)) (unmarked : is_marked a.methods k ≡ false) (wanted : is_wanted s a x ≡ true) where
    abbrev code : CodeOf ℕ
    code = method_at s x.class x.meta x.tree

    visited-more : IsMore a b
    visited-more = record {
      classes = λ n e. cs n ∙ or_right (list_any (nat_eq n) names) (is_marked a.classes n) e;
      selectors = λ n e. ss n ∙ or_right (list_any (nat_eq n) (code_sends code)) (is_marked a.selectors n) e;
      methods = λ n e. ms n ∙ or_right (nat_eq n k) (is_marked a.methods n) e;
    }

    home-at : (c : ClassRec) × (slice_get s.classes x.class ≡ Some c) × (class_name s.classes x.class ≡ Some c.name)
    home-at = named x.class (o.method_classes_live k x l at)

    names-are : names ≡ meant ++ (home-at.0).name ∷ []
    names-are = are ∙ ap (λ (p : Option ℕ). meant ++ if_named p) home-at.2

    visited-own : (is_class_marked s.classes b.classes x.class ≡ true) × (code_closed b code ≡ true)
    visited-own = (
      class-at b.classes x.class home-at.0 home-at.1 ∙ cs (home-at.0).name
          ∙ or_left (list_any (nat_eq (home-at.0).name) names) (is_marked a.classes (home-at.0).name) (ap (list_any (nat_eq (home-at.0).name)) names-are ∙ listed meant (home-at.0).name),
      and_from (list_all (is_marked b.classes) (code_means code)) (list_all (is_marked b.selectors) (code_sends code))
          (sym (means (is_marked b.classes)) ∙ all-marked (is_marked b.classes) meant (λ n h. cs n ∙ or_left (list_any (nat_eq n) names) (is_marked a.classes n)
          (ap (list_any (nat_eq n)) are ∙ list_any-append (nat_eq n) meant (option_names s (Some x.class)) ∙ or_left (list_any (nat_eq n) meant) (list_any (nat_eq n) (option_names s (Some x.class))) h)))
          (all-marked (is_marked b.selectors) (code_sends code) (λ n h. ss n ∙ or_left (list_any (nat_eq n) (code_sends code)) (is_marked a.selectors n) h)),
    )

    same-record : (j : ℕ) (y : MethodRec) → nat_eq j k ≡ true → slice_get s.methods j ≡ Some y → x ≡ y
    same-record j y h e = some (sym at ∙ ap (slice_get s.methods) (sym (eqb-equal j k h)) ∙ e)
      where
        some : {u v : MethodRec} → Some u ≡ Some v → u ≡ v
        some q = cc

    visited-opened : IsOpened s a → IsOpened s b
    visited-opened was j y lj ej e =
        elim (or_cases (nat_eq j k) (is_marked a.methods j) (sym (ms j) ∙ e)) [
          | inl h ↦ subst (λ (z : MethodRec). (is_class_marked s.classes b.classes z.class ≡ true) × (code_closed b (method_at s z.class z.meta z.tree) ≡ true)) (same-record j y h ej) visited-own
          | inr h ↦ (class-more s.classes a.classes b.classes y.class visited-more.classes (was j y lj ej h).0, code-more a b (method_at s y.class y.meta y.tree) visited-more (was j y lj ej h).1)
        ]

    visited-sound : (e : DoItOf ℕ) (r : ReachOf ℕ) → is_closed (number_words s.names) (plus (number_image s) e) r ≡ true → IsBelow s r a → IsBelow s r b
    visited-sound e r closed below = record {
      classes = λ n h. by n (or_cases (list_any (nat_eq n) names) (is_marked a.classes n) (sym (cs n) ∙ h));
      selectors = λ n h. sent n (or_cases (list_any (nat_eq n) (code_sends code)) (is_marked a.selectors n) (sym (ss n) ∙ h));
      methods = λ j y lj ej h. method j y lj ej (or_cases (nat_eq j k) (is_marked a.methods j) (sym (ms j) ∙ h));
    }
      where
        hc : ℕ → Bool
        hc = has_class nat_eq r

        entry : EntryOf ℕ
        entry = entry_of s.classes x

        I : ImageOf ℕ
        I = plus (number_image s) e

        ok : parts.closed_method (number_words s.names) I r entry ≡ true
        ok = method-of s e r closed k x l at

        first : ((not (parts.is_wanted (number_words s.names) I r entry) || list_all (has_signature nat_eq r) (signatures entry)) ≡ true)
            × (((not (has_method nat_eq r entry) || list_all hc (if_named entry.class)) && ((not (has_method nat_eq r entry) || list_all hc (code_means code)) && (not (has_method nat_eq r entry) || list_all (has_selector nat_eq r) (code_sends code)))) ≡ true)
        first = and_parts (not (parts.is_wanted (number_words s.names) I r entry) || list_all (has_signature nat_eq r) (signatures entry)) _ ok

        is_wanted_there : parts.is_wanted (number_words s.names) I r entry ≡ true
        is_wanted_there =
            elim (or_cases x.kernel (is_class_marked s.classes a.classes x.class && is_marked a.selectors x.tree.selector) wanted) [
              | inl h ↦ or_left x.kernel (option_map_or hc entry.class false && has_selector nat_eq r x.tree.selector) h
              | inr h ↦
                  (let both = and_parts (is_class_marked s.classes a.classes x.class) (is_marked a.selectors x.tree.selector) h in
                  or_right x.kernel (option_map_or hc entry.class false && has_selector nat_eq r x.tree.selector)
                  (and_from (option_map_or hc entry.class false) (has_selector nat_eq r x.tree.selector)
                  (ap (λ (p : Option ℕ). option_map_or hc p false) home-at.2 ∙ below.classes (home-at.0).name (sym (class-at a.classes x.class home-at.0 home-at.1) ∙ both.0))
                  (below.selectors x.tree.selector both.1)))
            ]

        signed : (p : Option ℕ) (c : ℕ) → p ≡ Some c → list_all (has_signature nat_eq r) (map (λ d. (d, x.meta, x.tree.selector)) (if_named p)) ≡ true → option_map_or (λ d. has_signature nat_eq r (d, x.meta, x.tree.selector)) p false ≡ true
        signed None c q h = absurd (cc)
        signed (Some d) c q h = (and_parts (has_signature nat_eq r (d, x.meta, x.tree.selector)) true h).0

        there_method : has_method nat_eq r entry ≡ true
        there_method = signed entry.class (home-at.0).name home-at.2 (asked (parts.is_wanted (number_words s.names) I r entry) _ first.0 is_wanted_there)

        second : ((not (has_method nat_eq r entry) || list_all hc (if_named entry.class)) ≡ true) × (((not (has_method nat_eq r entry) || list_all hc (code_means code)) && (not (has_method nat_eq r entry) || list_all (has_selector nat_eq r) (code_sends code))) ≡ true)
        second = and_parts _ _ first.1

        third : ((not (has_method nat_eq r entry) || list_all hc (code_means code)) ≡ true) × ((not (has_method nat_eq r entry) || list_all (has_selector nat_eq r) (code_sends code)) ≡ true)
        third = and_parts _ _ second.1

        all : list_all hc names ≡ true
        all =
            ap (list_all hc) are ∙ list_all-append hc meant (option_names s (Some x.class))
            ∙ and_from (list_all hc meant) (list_all hc (option_names s (Some x.class)))
            (means hc ∙ asked (has_method nat_eq r entry) (list_all hc (code_means code)) third.0 there_method)
            (asked (has_method nat_eq r entry) (list_all hc (if_named entry.class)) second.0 there_method)

        by : (n : ℕ) → (list_any (nat_eq n) names ≡ true) ⊎ (is_marked a.classes n ≡ true) → hc n ≡ true
        by n (inl h) = one-of hc names n all h
        by n (inr h) = below.classes n h

        sent : (n : ℕ) → (list_any (nat_eq n) (code_sends code) ≡ true) ⊎ (is_marked a.selectors n ≡ true) → has_selector nat_eq r n ≡ true
        sent n (inl h) = one-of (has_selector nat_eq r) (code_sends code) n (asked (has_method nat_eq r entry) (list_all (has_selector nat_eq r) (code_sends code)) third.1 there_method) h
        sent n (inr h) = below.selectors n h

        method : (j : ℕ) (y : MethodRec) → IsLive s.method_order j → slice_get s.methods j ≡ Some y → (nat_eq j k ≡ true) ⊎ (is_marked a.methods j ≡ true) → has_method nat_eq r (entry_of s.classes y) ≡ true
        method j y lj ej (inl h) = subst (λ (z : MethodRec). has_method nat_eq r (entry_of s.classes z) ≡ true) (same-record j y h ej) there_method
        method j y lj ej (inr h) = below.methods j y lj ej h

    pub visited : IsPass s (is_method_settled s) (k ∷ []) true a b
    visited =
        pass-changed s (is_method_settled s) (k ∷ []) a b (record { more = visited-more; opened = visited-opened; sound = visited-sound })
        (fewer-methods s a b visited-more k l unmarked (ms k ∙ or_left (nat_eq k k) (is_marked a.methods k) (eqb-refl k)))

  -- the same, where it is told of the method without its record
  module _ (k : ℕ) (l : IsLive s.method_order k) (info : MethodInfo) (tree : Method) (tells : IsInfoOf (Some info) (live_at s.methods s.method_order k)) (of : Some tree ≡ option_map (λ (m : MethodRec). m.tree) (live_at s.methods s.method_order k))
      (a b : Marks) (meant names : List ℕ) (are : names ≡ meant ++ option_names s (Some info.class)) (means : AreMeant (method_at s info.class info.meta tree) meant)
      (cs : (n : ℕ) → is_marked b.classes n ≡ (list_any (nat_eq n) names || is_marked a.classes n)) (ss : (n : ℕ) → is_marked b.selectors n ≡ (list_any (nat_eq n) (code_sends (method_at s info.class info.meta tree)) || is_marked a.selectors n))
      (ms : (n : ℕ) → is_marked b.methods n ≡ (nat_eq n k || is_marked a.methods n)) (unmarked : is_marked a.methods k ≡ false)
      (wanted : (info.kernel || (is_class_marked s.classes a.classes info.class && is_marked a.selectors info.selector)) ≡ true) where
    told-by : (p : Option MethodRec) → slice_get s.methods k ≡ p → IsInfoOf (Some info) p → Some tree ≡ option_map (λ (m : MethodRec). m.tree) p → IsPass s (is_method_settled s) (k ∷ []) true a b
    told-by None at t e = absurd t
    told-by (Some x) at t e =
        let same : tree ≡ x.tree = cc in
        let code_is : method_at s info.class info.meta tree ≡ method_at s x.class x.meta x.tree = λ j. method_at s (t.class j) (t.meta j) (same j) in
        visited k x l at a b meant names (subst (λ (n : ℕ). names ≡ meant ++ option_names s (Some n)) t.class are) (subst (λ (c : CodeOf ℕ). AreMeant c meant) code_is means)
        cs (subst (λ (c : CodeOf ℕ). (n : ℕ) → is_marked b.selectors n ≡ (list_any (nat_eq n) (code_sends c) || is_marked a.selectors n)) code_is ss) ms unmarked
        ((λ j. sym t.kernel j || (is_class_marked s.classes a.classes (sym t.class j) && is_marked a.selectors (sym t.selector j))) ∙ wanted)

    pub visited-told : IsPass s (is_method_settled s) (k ∷ []) true a b
    visited-told =
        told-by (slice_get s.methods k) refl (subst (IsInfoOf (Some info)) (live_at-live s.methods s.method_order k l) tells)
        (of ∙ ap (option_map (λ (m : MethodRec). m.tree)) (live_at-live s.methods s.method_order k l))
