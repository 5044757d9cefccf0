-- Renamings one after the other, and what is seen of a run under them.
use Rattle.std.proofs.Common.{◌≡◌, List, [], ◌∷◌, ◌++◌, refl, sym, ap, ◌∙◌, subst}
use Rattle.std.specs.Prelude.{Bool, true, false, ◌||◌, map, flat_map}
use Rattle.std.specs.List.{list_any}
use Rattle.std.specs.Cmp.{booleans_Decides}
use Rattle.std.proofs.lemmas.Slice.Eq.{slice_eq-Decides}
use Rattle.std.proofs.Math.Bool.{beq}
use Rattle.std.proofs.lemmas.Bool.{false≢true}
use Rattle.std.proofs.lemmas.Bool.Decides.{Decides-eqb}
use Rattle.rb_base.specs.Names.{text_eq}
use Rattle.rb_base.proofs.NamesLemmas.{text_eq-refl}
use Rattle.run_model.specs.Values.{Name, Atom, nil_atom, true_atom, false_atom, int_atom, char_atom, string_atom, symbol_atom, class_atom, object_atom, array_atom, block_atom, transcript_atom, View, one, items, Event, shown, printed, RunError, does_not_understand, cannot_return, non_boolean, undeclared_name, not_assignable, unsupported, reflective, overflow, divide_by_zero, bad_index, bad_argument, wrong_arity, too_long, user_error, Outcome, done, failed, spent}
use Rattle.run_model.specs.Store.{same_pair}
use Rattle.run_model.specs.Renamings.{OfClass, MethodName, Renaming, same_method, same_temporary, class_image, selector_image, shared_image, instance_image, class_side_image, method_image, temporary_image, no_renaming, IsComposite, keys, sources_of_class, sources_of_selector, sources_of, sources_of_temporary, composed, renamed_atom, renamed_view, renamed_event, renamed_events, renamed_error, renamed_outcome}
use Rattle.run_model.proofs.Finite.{by_cases, and-true_both, and-true_left, and-true_right, any-left, any-right, any-map, any-flat_map, mapped-absent, mapped-for}

-- texts that are told to be equal are
pub text-same : (s t : Name) → text_eq s t ≡ true → s ≡ t
text-same s t e = (slice_eq-Decides Decides-eqb s t (text_eq s t) refl).0 e

-- the same of pairs
pub pair-same : (j k : OfClass) → same_pair j k ≡ true → j ≡ k
pair-same j k e = ap (λ x. (x, j.1)) (text-same j.0 k.0 (and-true_left _ _ e)) ∙ ap (λ y. (k.0, y)) (text-same j.1 k.1 (and-true_right _ _ e))

-- the same of methods
pub method-same : (j k : MethodName) → same_method j k ≡ true → j ≡ k
method-same j k e =
    let rest = and-true_right (text_eq j.0 k.0) _ e in
    ap (λ x. (x, j.1, j.2)) (text-same j.0 k.0 (and-true_left _ _ e))
    ∙ ap (λ x. (k.0, x, j.2)) ((booleans_Decides j.1 k.1).0 (and-true_left _ _ rest))
    ∙ ap (λ x. (k.0, k.1, x)) (text-same j.2 k.2 (and-true_right _ _ rest))

-- the same of temporaries
pub temporary-same : (j k : MethodName × Name) → same_temporary j k ≡ true → j ≡ k
temporary-same j k e = ap (λ x. (x, j.1)) (method-same j.0 k.0 (and-true_left _ _ e)) ∙ ap (λ y. (k.0, y)) (text-same j.1 k.1 (and-true_right _ _ e))

-- a thing is itself
pub pair-refl : (k : OfClass) → same_pair k k ≡ true
pair-refl k = and-true_both _ _ (text_eq-refl k.0) (text_eq-refl k.1)

-- a side is itself
side-refl : (b : Bool) → beq b b ≡ true
side-refl true = refl
side-refl false = refl

-- a temporary is itself
pub temporary-refl : (t : MethodName × Name) → same_temporary t t ≡ true
temporary-refl t =
    and-true_both _ _ (and-true_both _ _ (text_eq-refl t.0.0) (and-true_both _ _ (side-refl t.0.1) (text_eq-refl t.0.2))) (text_eq-refl t.1)

module _ (r : Renaming) where
  -- a class is one of the sources of its image
  class-source : (c : Name) → list_any (text_eq c) (sources_of_class r (class_image r c)) ≡ true
  class-source c =
      by_cases (list_any (text_eq c) (keys r.classes)) (λ e. right e)
      (λ e. ap (λ b. b || list_any (text_eq c) (keys r.classes)) (ap (text_eq c) (mapped-absent text_eq r.classes c c e) ∙ text_eq-refl c))
    where
      right : list_any (text_eq c) (keys r.classes) ≡ true → list_any (text_eq c) (sources_of_class r (class_image r c)) ≡ true
      right e = ap (λ b. text_eq c (class_image r c) || b) e ∙ or-true (text_eq c (class_image r c))
        where
          or-true : (b : Bool) → (b || true) ≡ true
          or-true true = refl
          or-true false = refl

  -- a selector is one of the sources of its image
  selector-source : (s : Name) → list_any (text_eq s) (sources_of_selector r (selector_image r s)) ≡ true
  selector-source s =
      by_cases (list_any (text_eq s) (keys r.selectors)) (λ e. right e)
      (λ e. ap (λ b. b || list_any (text_eq s) (keys r.selectors)) (ap (text_eq s) (mapped-absent text_eq r.selectors s s e) ∙ text_eq-refl s))
    where
      right : list_any (text_eq s) (keys r.selectors) ≡ true → list_any (text_eq s) (sources_of_selector r (selector_image r s)) ≡ true
      right e = ap (λ b. text_eq s (selector_image r s) || b) e ∙ or-true (text_eq s (selector_image r s))
        where
          or-true : (b : Bool) → (b || true) ≡ true
          or-true true = refl
          or-true false = refl

  -- a name of a class is one of the sources of the name in the class's image
  pair-source : (k : OfClass) → list_any (same_pair k) (sources_of r (class_image r k.0, k.1)) ≡ true
  pair-source k =
      any-map (text_eq k.0) (same_pair k) (λ c. (c, k.1)) (λ c e. and-true_both _ _ e (text_eq-refl k.1)) (sources_of_class r (class_image r k.0)) (class-source k.0)

  -- a temporary is one of the sources of the name in the method's image
  temporary-source : (t : MethodName × Name) → list_any (same_temporary t) (sources_of_temporary r (method_image r t.0, t.1)) ≡ true
  temporary-source t =
      any-flat_map (text_eq t.0.0) (same_temporary t) (λ c. map (λ s. ((c, t.0.1, s), t.1)) (sources_of_selector r (selector_image r t.0.2)))
      (λ c e. any-map (text_eq t.0.2) (same_temporary t) (λ s. ((c, t.0.1, s), t.1))
      (λ s h. and-true_both _ _ (and-true_both _ _ e (and-true_both _ _ (side-refl t.0.1) h)) (text_eq-refl t.1)) (sources_of_selector r (selector_image r t.0.2)) (selector-source t.0.2))
      (sources_of_class r (class_image r t.0.0)) (class-source t.0.0)

  -- where no source is among the sources of keys, the key is not there
  absent-key : {K : Type 0} (same : K → K → Bool) (sources : K → List K) (ks : List K) (k j : K) → ((x : K) → same j x ≡ true → j ≡ x) → list_any (same k) (sources j) ≡ true → list_any (same k) (flat_map sources ks) ≡ false → list_any (same j) ks ≡ false
  absent-key same sources ks k j eq there absent =
      by_cases (list_any (same j) ks)
      (λ e. absurd (false≢true (sym absent ∙ any-flat_map (same j) (same k) sources (λ x h. subst (λ y. list_any (same k) (sources y) ≡ true) (eq x h) there) ks e)))
      (λ e. e)

  module _ (q : Renaming) where
    -- classes
    composed-classes : (c : Name) → class_image (composed r q) c ≡ class_image q (class_image r c)
    composed-classes c =
        mapped-for text_eq (λ d. class_image q (class_image r d)) (keys r.classes ++ keys q.classes) c c (text-same c)
        (λ e. ap (class_image q) (mapped-absent text_eq r.classes c c (any-left _ (keys r.classes) _ e)) ∙ mapped-absent text_eq q.classes c c (any-right _ (keys r.classes) _ e))

    -- selectors
    composed-selectors : (s : Name) → selector_image (composed r q) s ≡ selector_image q (selector_image r s)
    composed-selectors s =
        mapped-for text_eq (λ d. selector_image q (selector_image r d)) (keys r.selectors ++ keys q.selectors) s s (text-same s)
        (λ e. ap (selector_image q) (mapped-absent text_eq r.selectors s s (any-left _ (keys r.selectors) _ e)) ∙ mapped-absent text_eq q.selectors s s (any-right _ (keys r.selectors) _ e))

    -- class variables
    composed-shared : (k : OfClass) → shared_image (composed r q) k ≡ shared_image q (shared_image r k)
    composed-shared k =
        mapped-for same_pair (λ j. shared_image q (shared_image r j)) (keys r.shared ++ flat_map (sources_of r) (keys q.shared)) k (class_image (composed r q) k.0, k.1) (pair-same k)
        (λ e. ap (shared_image q) (mapped-absent same_pair r.shared k _ (any-left _ (keys r.shared) _ e))
        ∙ mapped-absent same_pair q.shared (class_image r k.0, k.1) _ (absent-key same_pair (sources_of r) (keys q.shared) k (class_image r k.0, k.1) (pair-same _) (pair-source k) (any-right _ (keys r.shared) _ e))
        ∙ ap (λ c. (c, k.1)) (sym (composed-classes k.0)))

    -- instance variables
    composed-instance : (k : OfClass) → instance_image (composed r q) k ≡ instance_image q (instance_image r k)
    composed-instance k =
        ap (λ n. (class_image (composed r q) k.0, n)) (mapped-for same_pair (λ j. (instance_image q (instance_image r j)).1) (keys r.instance ++ flat_map (sources_of r) (keys q.instance)) k k.1 (pair-same k)
        (λ e. ap (λ n. (instance_image q (class_image r k.0, n)).1) (mapped-absent same_pair r.instance k k.1 (any-left _ (keys r.instance) _ e))
        ∙ mapped-absent same_pair q.instance (class_image r k.0, k.1) k.1 (absent-key same_pair (sources_of r) (keys q.instance) k (class_image r k.0, k.1) (pair-same _) (pair-source k) (any-right _ (keys r.instance) _ e))))
        ∙ ap (λ c. (c, (instance_image q (instance_image r k)).1)) (composed-classes k.0)

    -- class-instance variables
    composed-class_side : (k : OfClass) → class_side_image (composed r q) k ≡ class_side_image q (class_side_image r k)
    composed-class_side k =
        ap (λ n. (class_image (composed r q) k.0, n)) (mapped-for same_pair (λ j. (class_side_image q (class_side_image r j)).1) (keys r.class_side ++ flat_map (sources_of r) (keys q.class_side)) k k.1 (pair-same k)
        (λ e. ap (λ n. (class_side_image q (class_image r k.0, n)).1) (mapped-absent same_pair r.class_side k k.1 (any-left _ (keys r.class_side) _ e))
        ∙ mapped-absent same_pair q.class_side (class_image r k.0, k.1) k.1 (absent-key same_pair (sources_of r) (keys q.class_side) k (class_image r k.0, k.1) (pair-same _) (pair-source k) (any-right _ (keys r.class_side) _ e))))
        ∙ ap (λ c. (c, (class_side_image q (class_side_image r k)).1)) (composed-classes k.0)

    -- temporaries
    composed-temporaries : (t : MethodName × Name) → temporary_image (composed r q) t ≡ temporary_image q (temporary_image r t)
    composed-temporaries t =
        ap (λ n. (method_image (composed r q) t.0, n)) (mapped-for same_temporary (λ j. (temporary_image q (temporary_image r j)).1) (keys r.temporaries ++ flat_map (sources_of_temporary r) (keys q.temporaries)) t t.1 (temporary-same t)
        (λ e. ap (λ n. (temporary_image q (method_image r t.0, n)).1) (mapped-absent same_temporary r.temporaries t t.1 (any-left _ (keys r.temporaries) _ e))
        ∙ mapped-absent same_temporary q.temporaries (method_image r t.0, t.1) t.1 (absent-key same_temporary (sources_of_temporary r) (keys q.temporaries) t (method_image r t.0, t.1) (temporary-same _) (temporary-source t) (any-right _ (keys r.temporaries) _ e))))
        ∙ ap (λ c. ((c, t.0.1, selector_image (composed r q) t.0.2), (temporary_image q (temporary_image r t)).1)) (composed-classes t.0.0)
        ∙ ap (λ s. ((class_image q (class_image r t.0.0), t.0.1, s), (temporary_image q (temporary_image r t)).1)) (composed-selectors t.0.2)

    -- all of them
    pub is-composite : IsComposite r q (composed r q)
    is-composite = record {
      classes = composed-classes;
      selectors = composed-selectors;
      shared = composed-shared;
      instance = composed-instance;
      class_side = composed-class_side;
      temporaries = composed-temporaries;
    }

-- nothing changes where nothing is renamed
atom-same : (a : Atom) → renamed_atom no_renaming a ≡ a
atom-same nil_atom = refl
atom-same true_atom = refl
atom-same false_atom = refl
atom-same (int_atom z) = refl
atom-same (char_atom b) = refl
atom-same (string_atom t) = refl
atom-same (symbol_atom t) = refl
atom-same (class_atom c) = refl
atom-same (object_atom c) = refl
atom-same (array_atom n) = refl
atom-same block_atom = refl
atom-same transcript_atom = refl

-- no atom
atoms-same : (atoms : List Atom) → map (renamed_atom no_renaming) atoms ≡ atoms
atoms-same [] = refl
atoms-same (a ∷ rest) = ap (λ x. x ∷ map (renamed_atom no_renaming) rest) (atom-same a) ∙ ap (λ xs. a ∷ xs) (atoms-same rest)

-- no view
view-same : (v : View) → renamed_view no_renaming v ≡ v
view-same (one a) = ap one (atom-same a)
view-same (items atoms) = ap items (atoms-same atoms)

-- no event
event-same : (e : Event) → renamed_event no_renaming e ≡ e
event-same (shown t) = refl
event-same (printed v) = ap printed (view-same v)

-- no events
pub events-same : (es : List Event) → renamed_events no_renaming es ≡ es
events-same [] = refl
events-same (e ∷ es) = ap (λ x. x ∷ renamed_events no_renaming es) (event-same e) ∙ ap (λ xs. e ∷ xs) (events-same es)

-- no error
error-same : (e : RunError) → renamed_error no_renaming e ≡ e
error-same (does_not_understand c meta s) = refl
error-same cannot_return = refl
error-same non_boolean = refl
error-same (undeclared_name n) = refl
error-same (not_assignable n) = refl
error-same unsupported = refl
error-same reflective = refl
error-same overflow = refl
error-same divide_by_zero = refl
error-same bad_index = refl
error-same (bad_argument n) = refl
error-same (wrong_arity n) = refl
error-same too_long = refl
error-same (user_error t) = refl

-- no outcome
pub outcome-same : (o : Outcome) → renamed_outcome no_renaming o ≡ o
outcome-same (done v) = ap done (view-same v)
outcome-same (failed e) = ap failed (error-same e)
outcome-same spent = refl

module _ (r q p : Renaming) (is : IsComposite r q p) where
  -- an atom, renamed at once
  atom-twice : (a : Atom) → renamed_atom p a ≡ renamed_atom q (renamed_atom r a)
  atom-twice nil_atom = refl
  atom-twice true_atom = refl
  atom-twice false_atom = refl
  atom-twice (int_atom z) = refl
  atom-twice (char_atom b) = refl
  atom-twice (string_atom t) = refl
  atom-twice (symbol_atom t) = refl
  atom-twice (class_atom c) = ap class_atom (is.classes c)
  atom-twice (object_atom c) = ap object_atom (is.classes c)
  atom-twice (array_atom n) = refl
  atom-twice block_atom = refl
  atom-twice transcript_atom = refl

  -- atoms
  atoms-twice : (atoms : List Atom) → map (renamed_atom p) atoms ≡ map (renamed_atom q) (map (renamed_atom r) atoms)
  atoms-twice [] = refl
  atoms-twice (a ∷ rest) = ap (λ x. x ∷ map (renamed_atom p) rest) (atom-twice a) ∙ ap (λ xs. renamed_atom q (renamed_atom r a) ∷ xs) (atoms-twice rest)

  -- a view
  view-twice : (v : View) → renamed_view p v ≡ renamed_view q (renamed_view r v)
  view-twice (one a) = ap one (atom-twice a)
  view-twice (items atoms) = ap items (atoms-twice atoms)

  -- an event
  event-twice : (e : Event) → renamed_event p e ≡ renamed_event q (renamed_event r e)
  event-twice (shown t) = refl
  event-twice (printed v) = ap printed (view-twice v)

  -- events
  pub events-twice : (es : List Event) → renamed_events p es ≡ renamed_events q (renamed_events r es)
  events-twice [] = refl
  events-twice (e ∷ es) = ap (λ x. x ∷ renamed_events p es) (event-twice e) ∙ ap (λ xs. renamed_event q (renamed_event r e) ∷ xs) (events-twice es)

  -- an error
  error-twice : (e : RunError) → renamed_error p e ≡ renamed_error q (renamed_error r e)
  error-twice (does_not_understand c meta s) = ap (λ x. does_not_understand x meta (selector_image p s)) (is.classes c) ∙ ap (does_not_understand (class_image q (class_image r c)) meta) (is.selectors s)
  error-twice cannot_return = refl
  error-twice non_boolean = refl
  error-twice (undeclared_name n) = refl
  error-twice (not_assignable n) = ap not_assignable (is.classes n)
  error-twice unsupported = refl
  error-twice reflective = refl
  error-twice overflow = refl
  error-twice divide_by_zero = refl
  error-twice bad_index = refl
  error-twice (bad_argument n) = refl
  error-twice (wrong_arity n) = refl
  error-twice too_long = refl
  error-twice (user_error t) = refl

  -- an outcome
  pub outcome-twice : (o : Outcome) → renamed_outcome p o ≡ renamed_outcome q (renamed_outcome r o)
  outcome-twice (done v) = ap done (view-twice v)
  outcome-twice (failed e) = ap failed (error-twice e)
  outcome-twice spent = refl
