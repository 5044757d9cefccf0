-- Steps by which more is marked.
use Rattle.std.proofs.Common.{◌≡◌, inl, inr, ℕ, zero, suc, ◌&&◌, ◌||◌, ◌++◌, Bool, true, false, not, List, [], ◌∷◌, map, take, Option, None, Some, slice_get, refl, sym, ap, ◌∙◌, true≢false}
use Rattle.std.specs.Prelude.{nat_eq}
use Rattle.std.specs.List.{list_any, list_all}
use Rattle.std.specs.Option.{option_map_or}
use Rattle.std.proofs.lemmas.Bool.{and_parts, and_from, or_cases, or_left, or_right}
use Rattle.std.proofs.lemmas.List.Folds.{list_all-append}
use Rattle.image_model.specs.Image.{DoItOf, ImageOf, plus}
use Rattle.image_model.specs.Words.{WordsOf, number_words}
use Rattle.strip_model.specs.Reach.{CodeOf, ReachOf, has_class, has_selector, is_closed, code_means, code_sends, doit_code}
use Rattle.strip_model.proofs.Listed.{all-member, all-members}
use Rattle.class_table.specs.declared.record.ClassRec.{ClassRec}
use Rattle.class_table.specs.declared.record.DoIt.{DoIt}
use Rattle.class_table.specs.declared.record.MethodRec.{MethodRec}
use Rattle.class_table.specs.Slots.{Slots}
use Rattle.class_table.specs.Valid.{IsLive}
use Rattle.class_table.specs.View.{class_of, entry_of, doit_of, number_image}
use Rattle.class_table.proofs.Live.{eqb-refl, eqb-equal}
use Rattle.image_strip.specs.Code.{method_at, doit_at}
use Rattle.image_strip.specs.Least.{IsMore, IsAdded, IsBelow, IsOpened, IsStep, AreDoItsAdded}
use Rattle.image_strip.specs.Reached.{Marks, is_marked}
use Rattle.image_strip.specs.SlotsClosed.{code_closed, doit_closed}
use Rattle.image_strip.specs.Stripped.{is_class_marked}
use Rattle.image_strip.proofs.Alls.{all-live, all-slot}
use Rattle.image_strip.proofs.ClosedParts as parts

-- a test that is asked, and passes
pub asked : (a b : Bool) → (not a || b) ≡ true → a ≡ true → b ≡ true
asked true b h t = h
asked false b h t = absurd (true≢false (sym t))

-- a weaker test of all items
pub all-weaker : {X : Type 0} (p q : X → Bool) (xs : List X) → ((x : X) → p x ≡ true → q x ≡ true) → list_all p xs ≡ true → list_all q xs ≡ true
all-weaker p q [] h e = refl
all-weaker p q (x ∷ xs) h e =
    let both = and_parts (p x) (list_all p xs) e in
    and_from (q x) (list_all q xs) (h x both.0) (all-weaker p q xs h both.1)

-- all are marked that are marked by their list
pub all-marked : (p : ℕ → Bool) (xs : List ℕ) → ((n : ℕ) → list_any (nat_eq n) xs ≡ true → p n ≡ true) → list_all p xs ≡ true
all-marked p xs h = all-members nat_eq eqb-refl p xs h

pub one-of : (p : ℕ → Bool) (xs : List ℕ) (n : ℕ) → list_all p xs ≡ true → list_any (nat_eq n) xs ≡ true → p n ≡ true
one-of p xs n a h = all-member nat_eq eqb-equal p xs n a h

pub take-step : {X : Type 0} (xs : List X) (k : ℕ) (x : X) → slice_get xs k ≡ Some x → take (suc k) xs ≡ take k xs ++ x ∷ []
take-step [] k x e = absurd (cc)
take-step (y ∷ ys) zero x e = let same : y ≡ x = cc in ap (λ (z : _). z ∷ []) same
take-step (y ∷ ys) (suc k) x e = ap (λ (zs : List _). y ∷ zs) (take-step ys k x e)

pub class-more : (classes : List ClassRec) (a b : List Bool) (k : ℕ) → ((n : ℕ) → is_marked a n ≡ true → is_marked b n ≡ true) → is_class_marked classes a k ≡ true → is_class_marked classes b k ≡ true
class-more classes a b k more = by (slice_get classes k)
  where
    by : (p : Option ClassRec) → option_map_or (λ (c : ClassRec). is_marked a c.name) p false ≡ true → option_map_or (λ (c : ClassRec). is_marked b c.name) p false ≡ true
    by None e = e
    by (Some c) e = more c.name e

pub code-more : (a b : Marks) (c : CodeOf ℕ) → IsMore a b → code_closed a c ≡ true → code_closed b c ≡ true
code-more a b c more e =
    let both = and_parts (list_all (is_marked a.classes) (code_means c)) (list_all (is_marked a.selectors) (code_sends c)) e in
    and_from (list_all (is_marked b.classes) (code_means c)) (list_all (is_marked b.selectors) (code_sends c))
    (all-weaker (is_marked a.classes) (is_marked b.classes) (code_means c) more.classes both.0)
    (all-weaker (is_marked a.selectors) (is_marked b.selectors) (code_sends c) more.selectors both.1)

pub more-none : (m : Marks) → IsMore m m
more-none m = record { classes = λ n e. e; selectors = λ n e. e; methods = λ n e. e }

more-then : (a b c : Marks) → IsMore a b → IsMore b c → IsMore a c
more-then a b c x y = record {
  classes = λ n e. y.classes n (x.classes n e);
  selectors = λ n e. y.selectors n (x.selectors n e);
  methods = λ n e. y.methods n (x.methods n e);
}

module _ (s : Slots) where
  pub step-none : (m : Marks) → IsStep s m m
  step-none m = record { more = more-none m; opened = λ o. o; sound = λ e r closed below. below }

  pub step-then : (a b c : Marks) → IsStep s a b → IsStep s b c → IsStep s a c
  step-then a b c x y = record {
    more = more-then a b c x.more y.more;
    opened = λ o. y.opened (x.opened o);
    sound = λ e r closed below. y.sound e r closed (x.sound e r closed below);
  }

  pub opened-more : (a b : Marks) → IsMore a b → b.methods ≡ a.methods → IsOpened s a → IsOpened s b
  opened-more a b more same o k x l at e =
      let was = o k x l at (ap (λ (marks : List Bool). is_marked marks k) (sym same) ∙ e) in
      (class-more s.classes a.classes b.classes x.class more.classes was.0, code-more a b (method_at s x.class x.meta x.tree) more was.1)

  -- what code demands is marked
  module _ (c : CodeOf ℕ) (a b : Marks) (added : IsAdded c a b) where
    pub added-more : IsMore a b
    added-more = record {
      classes = λ n e. added.classes n ∙ or_right (list_any (nat_eq n) (code_means c)) (is_marked a.classes n) e;
      selectors = λ n e. added.selectors n ∙ or_right (list_any (nat_eq n) (code_sends c)) (is_marked a.selectors n) e;
      methods = λ n e. ap (λ (marks : List Bool). is_marked marks n) added.methods ∙ e;
    }

    pub added-closed : code_closed b c ≡ true
    added-closed =
        and_from (list_all (is_marked b.classes) (code_means c)) (list_all (is_marked b.selectors) (code_sends c))
        (all-marked (is_marked b.classes) (code_means c) (λ n e. added.classes n ∙ or_left (list_any (nat_eq n) (code_means c)) (is_marked a.classes n) e))
        (all-marked (is_marked b.selectors) (code_sends c) (λ n e. added.selectors n ∙ or_left (list_any (nat_eq n) (code_sends c)) (is_marked a.selectors n) e))

    pub added-below : (r : ReachOf ℕ) → list_all (has_class nat_eq r) (code_means c) ≡ true → list_all (has_selector nat_eq r) (code_sends c) ≡ true → IsBelow s r a → IsBelow s r b
    added-below r means sends below = record {
      classes = λ n e. either (has_class nat_eq r) (code_means c) n (is_marked a.classes n) means (below.classes n) (sym (added.classes n) ∙ e);
      selectors = λ n e. either (has_selector nat_eq r) (code_sends c) n (is_marked a.selectors n) sends (below.selectors n) (sym (added.selectors n) ∙ e);
      methods = λ k x l at e. below.methods k x l at (ap (λ (marks : List Bool). is_marked marks k) (sym added.methods) ∙ e);
    }
      where
        either : (p : ℕ → Bool) (xs : List ℕ) (n : ℕ) (t : Bool) → list_all p xs ≡ true → (t ≡ true → p n ≡ true) → (list_any (nat_eq n) xs || t) ≡ true → p n ≡ true
        either p xs n t all rest e =
            elim (or_cases (list_any (nat_eq n) xs) t e) [
              | inl h ↦ one-of p xs n all h
              | inr h ↦ rest h
            ]

  -- what is closed for the image and a do-it, part by part
  module _ (e : DoItOf ℕ) (r : ReachOf ℕ) (closed : is_closed (number_words s.names) (plus (number_image s) e) r ≡ true) where
    abbrev w : WordsOf ℕ
    w = number_words s.names

    abbrev I : ImageOf ℕ
    I = plus (number_image s) e

    whole : (list_all (parts.closed_class w I r) I.classes && (list_all (parts.closed_doit w I r) I.doits && list_all (parts.closed_method w I r) I.methods)) ≡ true
    whole = sym (parts.closed-parts w I r) ∙ closed

    behind : (list_all (parts.closed_doit w I r) I.doits && list_all (parts.closed_method w I r) I.methods) ≡ true
    behind = (and_parts (list_all (parts.closed_class w I r) I.classes) _ whole).1

    pub class-of : (k : ℕ) (c : ClassRec) → IsLive s.class_order k → slice_get s.classes k ≡ Some c → parts.closed_class w I r (class_of s.classes c) ≡ true
    class-of k c l at =
        sym (ap (λ (p : Option ClassRec). option_map_or (λ (d : ClassRec). parts.closed_class w I r (class_of s.classes d)) p true) at)
        ∙ all-slot (λ j. option_map_or (λ (d : ClassRec). parts.closed_class w I r (class_of s.classes d)) (slice_get s.classes j) true) s.class_order k
        (sym (all-live (class_of s.classes) (parts.closed_class w I r) s.classes s.class_order) ∙ (and_parts (list_all (parts.closed_class w I r) I.classes) _ whole).0) l

    pub method-of : (k : ℕ) (m : MethodRec) → IsLive s.method_order k → slice_get s.methods k ≡ Some m → parts.closed_method w I r (entry_of s.classes m) ≡ true
    method-of k m l at =
        sym (ap (λ (p : Option MethodRec). option_map_or (λ (d : MethodRec). parts.closed_method w I r (entry_of s.classes d)) p true) at)
        ∙ all-slot (λ j. option_map_or (λ (d : MethodRec). parts.closed_method w I r (entry_of s.classes d)) (slice_get s.methods j) true) s.method_order k
        (sym (all-live (entry_of s.classes) (parts.closed_method w I r) s.methods s.method_order) ∙ (and_parts (list_all (parts.closed_doit w I r) I.doits) _ behind).1) l

    doits-closed : (list_all (parts.closed_doit w I r) (map doit_of s.doits) && list_all (parts.closed_doit w I r) (e ∷ [])) ≡ true
    doits-closed = sym (list_all-append (parts.closed_doit w I r) (map doit_of s.doits) (e ∷ [])) ∙ (and_parts (list_all (parts.closed_doit w I r) I.doits) _ behind).0

    pub start-of : parts.closed_doit w I r e ≡ true
    start-of = (and_parts (parts.closed_doit w I r e) true (and_parts (list_all (parts.closed_doit w I r) (map doit_of s.doits)) _ doits-closed).1).0

    pub doit-at : (k : ℕ) (d : DoIt) → slice_get s.doits k ≡ Some d → parts.closed_doit w I r (doit_of d) ≡ true
    doit-at k d at = at-place s.doits k at (and_parts (list_all (parts.closed_doit w I r) (map doit_of s.doits)) _ doits-closed).0
      where
        at-place : (ds : List DoIt) (j : ℕ) → slice_get ds j ≡ Some d → list_all (parts.closed_doit w I r) (map doit_of ds) ≡ true → parts.closed_doit w I r (doit_of d) ≡ true
        at-place [] j q all = absurd (cc)
        at-place (x ∷ xs) zero q all = let same : x ≡ d = cc in ap (λ (y : DoIt). parts.closed_doit w I r (doit_of y)) (sym same) ∙ (and_parts (parts.closed_doit w I r (doit_of x)) _ all).0
        at-place (x ∷ xs) (suc j) q all = at-place xs j q (and_parts (parts.closed_doit w I r (doit_of x)) _ all).1

  -- one more do-it
  pub doit-added : (k : ℕ) (d : DoIt) (a b c : Marks) → slice_get s.doits k ≡ Some d → IsAdded (doit_at s d.body) b c → AreDoItsAdded s (take k s.doits) a b → AreDoItsAdded s (take (suc k) s.doits) a c
  doit-added k d a b c at added before = record {
    step = step-then a b c before.step (record {
      more = more;
      opened = opened-more b c more added.methods;
      sound = λ e r closed below.
          let ok = doit-at e r closed k d at in
          let both = and_parts (list_all (has_class nat_eq r) (code_means (doit_code (number_words s.names) (number_image s) (doit_of d)))) (list_all (has_selector nat_eq r) (code_sends (doit_code (number_words s.names) (number_image s) (doit_of d)))) ok in
          added-below (doit_at s d.body) b c added r both.0 both.1 below;
    });
    closed =
        ap (list_all (doit_closed s c)) (take-step s.doits k d at)
        ∙ list_all-append (doit_closed s c) (take k s.doits) (d ∷ [])
        ∙ and_from (list_all (doit_closed s c) (take k s.doits)) (doit_closed s c d && true)
        (all-weaker (doit_closed s b) (doit_closed s c) (take k s.doits) (λ x h. code-more b c (doit_at s x.body) more h) before.closed)
        (and_from (doit_closed s c d) true (added-closed (doit_at s d.body) b c added) refl);
  }
    where
      more : IsMore b c
      more = added-more (doit_at s d.body) b c added
