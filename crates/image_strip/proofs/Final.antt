-- The search for what is reached, from its first step to its last.
use Rattle.std.proofs.Common.{◌≡◌, ℕ, ◌<◌, ◌+◌, ◌&&◌, ◌||◌, Bool, true, false, not, List, [], ◌∷◌, map, filter, Option, None, Some, slice_get, refl, sym, ap, subst, ◌∙◌, arith, true≢false}
use Rattle.std.specs.Prelude.{nat_eq, if◌then◌else◌}
use Rattle.std.specs.Bool.{beq}
use Rattle.std.specs.List.{list_any, list_all}
use Rattle.std.specs.Option.{option_map_or}
use Rattle.std.proofs.lemmas.Bool.{and_parts, and_from, eq-eqb, eqb-true}
use Rattle.file_laws.proofs.Methods.{beq_equal}
use Rattle.st_tree.specs.declared.tree.Sequence.{Sequence}
use Rattle.image_model.specs.Image.{EntryOf, ImageOf, plus}
use Rattle.image_model.specs.Words.{WordsOf, number_words}
use Rattle.strip_model.specs.Reach.{Signature, ReachOf, same_signature, has_class, has_selector, has_signature, is_closed, code_means, code_sends, signatures, if_named, reach}
use Rattle.strip_model.specs.Within.{IsWithin}
use Rattle.strip_model.proofs.Least.{reach-closed, reach-least}
use Rattle.class_table.specs.declared.record.MethodRec.{MethodRec}
use Rattle.class_table.specs.Slots.{Slots}
use Rattle.class_table.specs.Valid.{IsLive, IsOrderly}
use Rattle.class_table.specs.View.{live_at, entry_of, number_image}
use Rattle.class_table.proofs.Live.{IsLive-first, IsLive-rest, eqb-equal}
use Rattle.class_questions.proofs.AnyLive.{any_live, live_at-live}
use Rattle.code_questions.proofs.Witnesses.{passing-live}
use Rattle.class_plans.proofs.Orders.{live-kept}
use Rattle.image_strip.specs.Closed.{start_of, is_closed_with}
use Rattle.image_strip.specs.Code.{method_at, doit_at}
use Rattle.image_strip.specs.Least.{IsAdded, IsBelow, IsOpened, IsStep, AreDoItsAdded, unreached, IsPass, is_method_settled}
use Rattle.image_strip.specs.Once.{HasMethodsOnce}
use Rattle.image_strip.specs.Reached.{Marks, is_marked, marked_methods, reached}
use Rattle.image_strip.specs.Search.{IsSearch}
use Rattle.image_strip.specs.SlotsClosed.{class_closed, code_closed, doit_closed, is_wanted, method_closed}
use Rattle.image_strip.specs.Stripped.{is_class_marked}
use Rattle.image_strip.proofs.Marked.{any-flat, class-marked, selector-marked}
use Rattle.image_strip.proofs.SlotsAgree.{closed-agree}
use Rattle.image_strip.proofs.Steps as steps
use Rattle.image_strip.proofs.Steps.{all-weaker, code-more, opened-more, added-more, added-closed, added-below, step-then}

-- a test of live slots that implies another one
live-weaker : (p q : ℕ → Bool) (order : List ℕ) → ((k : ℕ) → IsLive order k → p k ≡ true → q k ≡ true) → list_all p order ≡ true → list_all q order ≡ true
live-weaker p q [] h e = refl
live-weaker p q (k ∷ ks) h e =
    let both = and_parts (p k) (list_all p ks) e in
    and_from (q k) (list_all q ks) (h k (IsLive-first k ks) both.0) (live-weaker p q ks (λ j l. h j (IsLive-rest j k ks l)) both.1)

module _ (s : Slots) (start : Sequence) where
  abbrev w : WordsOf ℕ
  w = number_words s.names

  abbrev I : ImageOf ℕ
  I = plus (number_image s) (start_of start)

  nothing_marked : (n : ℕ) → is_marked [] n ≡ false
  nothing_marked n = refl

  pub search-first : (a b c : Marks) → a ≡ record { classes = []; selectors = []; methods = [] } → IsAdded (doit_at s start) a b → AreDoItsAdded s s.doits b c → IsSearch s start true c
  search-first a b c none added ds = record {
    start_closed = code-more b c (doit_at s start) ds.step.more (added-closed s (doit_at s start) a b added);
    doits_closed = ds.closed;
    opened = ds.step.opened (opened-more s a b (added-more s (doit_at s start) a b added) added.methods (subst (IsOpened s) (sym none) (λ k x l at e. absurd (true≢false (sym e)))));
    sound = λ r closed.
        let ok = steps.start-of s (start_of start) r closed in
        let both = and_parts (list_all (has_class nat_eq r) (code_means (doit_at s start))) (list_all (has_selector nat_eq r) (code_sends (doit_at s start))) ok in
        ds.step.sound (start_of start) r closed
        (added-below s (doit_at s start) a b added r both.0 both.1
        (subst (IsBelow s r) (sym none) (record {
          classes = λ n e. absurd (true≢false (sym e));
          selectors = λ n e. absurd (true≢false (sym e));
          methods = λ k x l at e. absurd (true≢false (sym e));
        })));
    classes_settled = λ e. absurd (true≢false e);
    methods_settled = λ e. absurd (true≢false e);
  }

  -- a step more, of which is not known whether it leaves something
  pub search-later : (t : Bool) (a b : Marks) → IsSearch s start t a → IsStep s a b → IsSearch s start true b
  search-later t a b before step = record {
    start_closed = code-more a b (doit_at s start) step.more before.start_closed;
    doits_closed = all-weaker (doit_closed s a) (doit_closed s b) s.doits (λ d h. code-more a b (doit_at s d.body) step.more h) before.doits_closed;
    opened = step.opened before.opened;
    sound = λ r closed. step.sound (start_of start) r closed (before.sound r closed);
    classes_settled = λ e. absurd (true≢false e);
    methods_settled = λ e. absurd (true≢false e);
  }

  module _ (t p q : Bool) (a b c : Marks) (before : IsSearch s start t a) (x : IsPass s (class_closed s) s.class_order p a b) (y : IsPass s (is_method_settled s) s.method_order q b c) where
    parts-false : (u v : Bool) → (u || v) ≡ false → (u ≡ false) × (v ≡ false)
    parts-false false v e = (refl, e)
    parts-false true v e = absurd (true≢false e)

    pub search-next : (changed : Bool) → changed ≡ (p || q) → IsSearch s start changed c
    search-next changed is =
        let later = search-later t a c before (step-then s a b c x.step y.step) in
        record {
          start_closed = later.start_closed;
          doits_closed = later.doits_closed;
          opened = later.opened;
          sound = later.sound;
          classes_settled = λ e.
              let both = parts-false p q (sym is ∙ e) in
              ap (λ (m : Marks). list_all (class_closed s m) s.class_order) (y.same both.1) ∙ x.all_settled both.0;
          methods_settled = λ e. y.all_settled (parts-false p q (sym is ∙ e)).1;
        }

    pub search-smaller : (changed : Bool) → changed ≡ (p || q) → t ≡ true → unreached s c + (if changed then 1 else 0) < unreached s a + (if t then 1 else 0)
    search-smaller changed is old =
        subst (λ (u : Bool). unreached s c + (if changed then 1 else 0) < unreached s a + (if u then 1 else 0)) (sym old)
        (subst (λ (u : Bool). unreached s c + (if u then 1 else 0) < unreached s a + 1) (sym is) (by p q refl refl))
      where
        by : (u v : Bool) → p ≡ u → q ≡ v → unreached s c + (if u || v then 1 else 0) < unreached s a + 1
        by true true d e = let one = x.fewer d in let two = y.fewer e in omega (arith, one, two)
        by true false d e = let one = x.fewer d in let two : unreached s c ≡ unreached s b = ap (unreached s) (y.same e) in omega (arith, one, two)
        by false true d e = let one : unreached s b ≡ unreached s a = ap (unreached s) (x.same d) in let two = y.fewer e in omega (arith, one, two)
        by false false d e = let one : unreached s b ≡ unreached s a = ap (unreached s) (x.same d) in let two : unreached s c ≡ unreached s b = ap (unreached s) (y.same e) in omega (arith, one, two)

  module _ (o : IsOrderly s) (once : HasMethodsOnce s) (m : Marks) (found : IsSearch s start false m) where
    methods-closed : list_all (method_closed s m) s.method_order ≡ true
    methods-closed = live-weaker (is_method_settled s m) (method_closed s m) s.method_order (λ k l h. by k l (slice_get s.methods k) refl h) (found.methods_settled refl)
      where
        settle : (t u v w : Bool) → (t ≡ true → (u && v) ≡ true) → (t || w) ≡ true → (if t then u && v else w) ≡ true
        settle true u v w h e = h refl
        settle false u v w h e = e

        by : (k : ℕ) → IsLive s.method_order k → (p : Option MethodRec) → slice_get s.methods k ≡ p
            → option_map_or (λ (x : MethodRec). is_marked m.methods k || not (is_wanted s m x)) p true ≡ true
            → option_map_or (λ (x : MethodRec). if is_marked m.methods k then (is_class_marked s.classes m.classes x.class && code_closed m (method_at s x.class x.meta x.tree)) else not (is_wanted s m x)) p true ≡ true
        by k l None at h = refl
        by k l (Some x) at h =
            settle (is_marked m.methods k) (is_class_marked s.classes m.classes x.class) (code_closed m (method_at s x.class x.meta x.tree)) (not (is_wanted s m x))
            (λ e. let was = found.opened k x l at e in and_from (is_class_marked s.classes m.classes x.class) (code_closed m (method_at s x.class x.meta x.tree)) was.0 was.1) h

    pub search-closed : is_closed_with s (start_of start) m ≡ true
    search-closed =
        closed-agree s o once (start_of start) m
        ∙ and_from (list_all (class_closed s m) s.class_order) _ (found.classes_settled refl)
        (and_from (code_closed m (doit_at s start)) _ found.start_closed (and_from (list_all (doit_closed s m) s.doits) (list_all (method_closed s m) s.method_order) found.doits_closed methods-closed))

    below-within : (r : ReachOf ℕ) → IsBelow s r m → IsWithin nat_eq (reached s m) r
    below-within r below = record {
      classes = λ n e. below.classes n (sym (class-marked s m n) ∙ e);
      selectors = λ n e. below.selectors n (sym (selector-marked s m n) ∙ e);
      methods = λ key e. by-slot key (passing-live (one_at key) kept (any_live (entry_of s.classes) (one key) s.methods kept ∙ sym (any-flat (same_signature nat_eq key) signatures (marked_methods s m.methods)) ∙ e));
    }
      where
        kept : List ℕ
        kept = filter (is_marked m.methods) s.method_order

        one : Signature ℕ → EntryOf ℕ → Bool
        one key a = list_any (same_signature nat_eq key) (signatures a)

        one_at : Signature ℕ → ℕ → Bool
        one_at key j = option_map_or (λ (x : MethodRec). one key (entry_of s.classes x)) (live_at s.methods kept j) false

        same : (key : Signature ℕ) (a : EntryOf ℕ) (p : Option ℕ) → list_any (same_signature nat_eq key) (map (λ c. (c, a.meta, a.tree.selector)) (if_named p)) ≡ true
            → option_map_or (λ c. has_signature nat_eq r (c, a.meta, a.tree.selector)) p false ≡ true → has_signature nat_eq r key ≡ true
        same key a None e h = absurd (true≢false (sym e))
        same (k, side, n) a (Some c) e h =
            let first = and_parts (nat_eq k c && beq side a.meta) (nat_eq n a.tree.selector) (alone (same_signature nat_eq (k, side, n) (c, a.meta, a.tree.selector)) e) in
            let second = and_parts (nat_eq k c) (beq side a.meta) first.0 in
            (λ j. has_signature nat_eq r (eqb-equal k c second.0 j, beq_equal side a.meta second.1 j, eqb-equal n a.tree.selector first.1 j)) ∙ h
          where
            alone : (t : Bool) → (t || false) ≡ true → t ≡ true
            alone true q = refl
            alone false q = q

        by-record : (key : Signature ℕ) (j : ℕ) → IsLive s.method_order j → is_marked m.methods j ≡ true → (p : Option MethodRec) → slice_get s.methods j ≡ p
            → option_map_or (λ (x : MethodRec). one key (entry_of s.classes x)) p false ≡ true → has_signature nat_eq r key ≡ true
        by-record key j l marked None at e = absurd (true≢false (sym e))
        by-record key j l marked (Some x) at e = same key (entry_of s.classes x) (entry_of s.classes x).class e (below.methods j x l at marked)

        by-slot : (key : Signature ℕ) → (j : ℕ) × IsLive kept j × (one_at key j ≡ true) → has_signature nat_eq r key ≡ true
        by-slot key w =
            let both = live-kept (is_marked m.methods) w.0 s.method_order w.1 in
            by-record key w.0 both.0 both.1 (slice_get s.methods w.0) refl
            (sym (ap (λ (p : Option MethodRec). option_map_or (λ (x : MethodRec). one key (entry_of s.classes x)) p false) (live_at-live s.methods kept w.0 w.1)) ∙ w.2)

    least-closed : is_closed w I (reach w I) ≡ true
    least-closed = reach-closed w I (λ n. eq-eqb n n refl) eqb-true

    pub search-within : IsWithin nat_eq (reached s m) (reach w I)
    search-within = below-within (reach w I) (found.sound (reach w I) least-closed)

    pub search-whole : IsWithin nat_eq (reach w I) (reached s m)
    search-whole = reach-least w I (λ n. eq-eqb n n refl) eqb-true (reached s m) search-closed
