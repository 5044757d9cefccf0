-- Tables of names that grow.
use Rattle.std.proofs.Common.{◌≡◌, ℕ, zero, suc, ◌+◌, ◌<◌, Bool, true, false, if◌then◌else◌, List, [], ◌∷◌, ◌++◌, length, take, map, Some, slice_get, refl, sym, ap, subst, ◌∙◌, append_assoc, get_or}
use Rattle.std.specs.List.{list_any}
use Rattle.std.proofs.lemmas.List.{append-nil, map-append, take_more}
use Rattle.std.proofs.lemmas.Option.{slice_get-get_or}
use Rattle.std.proofs.lemmas.List.Quantifiers.{position-Some}
use Rattle.std.proofs.lemmas.Bool.Decides.{Decides-eqb}
use Rattle.std.proofs.lemmas.Slice.Eq.{slice_eq-Decides}
use Rattle.grammar_model.specs.Terminal.{Text}
use Rattle.parse_events.specs.declared.event.Declaration.{Declaration}
use Rattle.parse_events.specs.declared.event.Event.{Event}
use Rattle.rb_base.specs.Names.{text_eq, number_in, interned}
use Rattle.event_trees.specs.Stacks.{declared_by, event_names, all_names}
use Rattle.event_trees.specs.Naming.{Grows, Adds, AllPass}

-- each text of two lists passes
pub AllPass-append : (p : Text → Bool) (ts us : List Text) → AllPass ts p → AllPass us p → AllPass (ts ++ us) p
AllPass-append p [] us x y = y
AllPass-append p (t ∷ ts) us x y = (x.0, AllPass-append p ts us x.1 y)

-- the first list of two that pass
pub AllPass-first : (p : Text → Bool) (ts us : List Text) → AllPass (ts ++ us) p → AllPass ts p
AllPass-first p [] us x = tt
AllPass-first p (t ∷ ts) us x = (x.0, AllPass-first p ts us x.1)

-- the second list of two that pass
pub AllPass-second : (p : Text → Bool) (ts us : List Text) → AllPass (ts ++ us) p → AllPass us p
AllPass-second p [] us x = x
AllPass-second p (t ∷ ts) us x = AllPass-second p ts us x.1

-- no name is added
pub Grows-none : (names : List Text) → Grows names names
Grows-none names = record { more = []; grown = sym (append-nil names) }

-- names are added twice
pub Grows-twice : {a b c : List Text} → Grows a b → Grows b c → Grows a c
Grows-twice {a} p q = record { more = p.more ++ q.more; grown = q.grown ∙ ap (λ (x : List Text). x ++ q.more) p.grown ∙ append_assoc a p.more q.more }

-- names that are added make the table grow
pub Grows-Adds : {names later : List Text} {Pass : (Text → Bool) → Type 0} → Adds names later Pass → Grows names later
Grows-Adds a = record { more = a.more; grown = a.grown }

-- no name is added, whichever may come
pub Adds-none : (names : List Text) (Pass : (Text → Bool) → Type 0) → Adds names names Pass
Adds-none names Pass = record { more = []; grown = sym (append-nil names); passed = λ p x. tt }

-- names are added twice
pub Adds-twice : {a b c : List Text} {P Q R : (Text → Bool) → Type 0} → ((p : Text → Bool) → R p → P p × Q p) → Adds a b P → Adds b c Q → Adds a c R
Adds-twice {a} both p q = record {
  more = p.more ++ q.more;
  grown = q.grown ∙ ap (λ (x : List Text). x ++ q.more) p.grown ∙ append_assoc a p.more q.more;
  passed = λ t r. AllPass-append t p.more q.more (p.passed t (both t r).0) (q.passed t (both t r).1);
}

-- fewer names may come than may
pub Adds-fewer : {a b : List Text} {P R : (Text → Bool) → Type 0} → ((p : Text → Bool) → R p → P p) → Adds a b P → Adds a b R
Adds-fewer fewer p = record { more = p.more; grown = p.grown; passed = λ t r. p.passed t (fewer t r) }

slice_get-append : {X : Type 0} (xs ys : List X) (n : ℕ) (x : X) → slice_get xs n ≡ Some x → slice_get (xs ++ ys) n ≡ Some x
slice_get-append [] ys n x e = cc
slice_get-append (y ∷ xs) ys zero x e = e
slice_get-append (y ∷ xs) ys (suc n) x e = slice_get-append xs ys n x e

-- a number keeps its text
pub text_stays : {names later : List Text} (n : ℕ) (t : Text) → Grows names later → slice_get names n ≡ Some t → slice_get later n ≡ Some t
text_stays {names} n t p e = ap (λ (x : List Text). slice_get x n) p.grown ∙ slice_get-append names p.more n t e

-- texts that the test takes for equal are equal
text_eq-same : (t u : Text) → text_eq t u ≡ true → t ≡ u
text_eq-same t u e = (slice_eq-Decides Decides-eqb t u (text_eq t u) refl).0 e

-- the number of a text is that of the text
pub text_of_number : (names : List Text) (t : Text) (n : ℕ) → Some n ≡ number_in names t → slice_get names n ≡ Some t
text_of_number names t n e =
    let at = position-Some (text_eq t) names n [] (sym e) in
    slice_get-get_or names n [] at.0 ∙ ap Some (sym (text_eq-same t (get_or names n []) at.1))

-- a text gets a number
pub Adds-interned : (names : List Text) (t : Text) → Adds names (interned names t) (AllPass (t ∷ []))
Adds-interned names t = by (list_any (text_eq t) names) refl
  where
    by : (b : Bool) → list_any (text_eq t) names ≡ b → Adds names (if b then names else names ++ t ∷ []) (AllPass (t ∷ []))
    by true e = Adds-none names (AllPass (t ∷ []))
    by false e = record { more = t ∷ []; grown = refl; passed = λ p x. x }

-- numbers keep their texts
pub texts_stay : {names later : List Text} (ns : List ℕ) (ds : List Declaration) → Grows names later → map (slice_get names) ns ≡ declared_by (λ t. Some t) ds → map (slice_get later) ns ≡ declared_by (λ t. Some t) ds
texts_stay [] [] g e = refl
texts_stay [] (d ∷ ds) g e = cc
texts_stay (n ∷ ns) [] g e = cc
texts_stay {names} {later} (n ∷ ns) (d ∷ ds) g e =
    let first : slice_get names n ≡ Some d.name = cc in
    let rest : map (slice_get names) ns ≡ declared_by (λ t. Some t) ds = cc in
    λ i. text_stays n d.name g first i ∷ texts_stay ns ds g rest i

-- a text got its number
pub Adds-number : (names later : List Text) (t u : Text) → later ≡ interned names t → t ≡ u → Adds names later (AllPass (u ∷ []))
Adds-number names later t u e s =
    let a = Adds-interned names t in
    record { more = a.more; grown = e ∙ a.grown; passed = λ p x. a.passed p (subst (λ (v : Text). AllPass (v ∷ []) p) (sym s) x) }

-- the names of one more declaration
pub declared_more : {N : Type 0} (g : Text → N) (ds : List Declaration) (i : ℕ) (d : Declaration) → i < length ds → d ≡ get_or ds i d → declared_by g (take (i + 1) ds) ≡ declared_by g (take i ds) ++ g d.name ∷ []
declared_more g ds i d lt is =
    ap (declared_by g) (take_more ds i d lt ∙ ap (λ (x : Declaration). take i ds ++ x ∷ []) (sym is)) ∙ map-append (λ (x : Declaration). g x.name) (take i ds) (d ∷ [])

-- one more declaration got its number
pub numbers_more : {names later : List Text} (ids new : List ℕ) (n : ℕ) (ds : List Declaration) (i : ℕ) (d : Declaration) → i < length ds → d ≡ get_or ds i d → Grows names later → map (slice_get names) ids ≡ declared_by (λ t. Some t) (take i ds) → slice_get later n ≡ Some d.name → new ≡ ids ++ n ∷ []
    → map (slice_get later) new ≡ declared_by (λ t. Some t) (take (i + 1) ds)
numbers_more {names} {later} ids new n ds i d lt is g e q p =
    ap (map (slice_get later)) p ∙ map-append (slice_get later) ids (n ∷ []) ∙ (λ j. texts_stay ids (take i ds) g e j ++ q j ∷ []) ∙ sym (declared_more (λ t. Some t) ds i d lt is)

-- the names of one more declaration, each of which passes
pub AllPass-declared : (p : Text → Bool) (ds : List Declaration) (i : ℕ) (d : Declaration) → i < length ds → d ≡ get_or ds i d → AllPass (declared_by (λ t. t) (take (i + 1) ds)) p → AllPass (declared_by (λ t. t) (take i ds)) p × AllPass (d.name ∷ []) p
AllPass-declared p ds i d lt is h =
    let both = subst (λ (ts : List Text). AllPass ts p) (declared_more (λ t. t) ds i d lt is) h in
    (AllPass-first p (declared_by (λ t. t) (take i ds)) (d.name ∷ []) both, AllPass-second p (declared_by (λ t. t) (take i ds)) (d.name ∷ []) both)

-- the names of one more event
pub AllPass-event : (p : Text → Bool) (es : List Event) (e : Event) → AllPass (all_names (es ++ e ∷ [])) p → AllPass (all_names es) p × AllPass (event_names e) p
AllPass-event p [] e h = (tt, AllPass-first p (event_names e) [] h)
AllPass-event p (x ∷ es) e h =
    let rest = AllPass-event p es e (AllPass-second p (event_names x) (all_names (es ++ e ∷ [])) h) in
    (AllPass-append p (event_names x) (all_names es) (AllPass-first p (event_names x) (all_names (es ++ e ∷ [])) h) rest.0, rest.1)
