-- What stands for the arguments and temporaries of a method in it, where some temporaries are assigned in no closure.
use Rattle.std.proofs.Common.{◌≡◌, ℕ, suc, ◌+◌, List, [], ◌∷◌, ◌++◌, length, map, Option, Some, None, refl, sym, ap, ◌∙◌, subst, arith}
use Rattle.std.specs.Prelude.{Bool, true, false, not, cond, if◌then◌else◌, find, slice_get, option_map, replicate, filter}
use Rattle.std.proofs.Math.Numerals.{one-add}
use Rattle.std.proofs.lemmas.Option.{slice_get-map}
use Rattle.std.specs.List.{list_any}
use Rattle.rb_base.specs.Names.{text_eq}
use Rattle.scope_model.specs.SpecialNames.{is_pseudo_variable}
use Rattle.scope_model.specs.Uses.{UseOf, enclosed, is_captured}
use Rattle.image_model.proofs.Ends.{slice_get-front}
use Rattle.run_model.specs.Values.{Name}
use Rattle.run_model.proofs.RenamingLemmas.{text-same}
use Rattle.resolved_model.specs.Environments.{Declared, as_argument, as_temporary, opened, kind_in, place_in}
use Rattle.unfolded_calls.specs.Unfolding.{StandIn, an_argument, a_temporary, a_steady, a_far, moved, farther, Mode, shared, steady, staying, arguments_from, temporaries_from, Context, scoped, in_closure}
use Rattle.unfolded_places.proofs.NamesThere.{kind-first, kind-behind, get-behind, opened-append}
use Rattle.unfolded_places.proofs.UsesApart.{is_set, is_use_outside, IsLess, captured-inside, set-inside, captured-set, outside-block, captured-named, set-named}

-- What stands at the place of a name that a method declares: an argument; or a temporary, and where closures do not assign it, one that is steady, or is so seen from a closure. The uses of the name that are still to come allow that.
pub data IsSlot (n : Name) (us : List (UseOf Name)) : Bool → Bool → ℕ → Option StandIn → Type 0 where
  slot_argument : {s : Bool} {k : ℕ} → IsSlot n us s false k (Some (an_argument k))
  slot_shared : {k : ℕ} → IsSlot n us false true k (Some (a_temporary k))
  slot_steady : {k : ℕ} → list_any (is_captured text_eq n) us ≡ false → IsSlot n us true true k (Some (a_steady k))
  slot_far : {k : ℕ} → list_any (is_set n) us ≡ false → IsSlot n us true true k (Some (a_far k))

-- So it is for each name; `keeps` says of which temporaries that closures do not assign them.
abbrev pub HasSlots : (Name → Bool) → Context → List Declared → List (UseOf Name) → Type 0
HasSlots keeps g A us = (n : Name) (b : Bool) → is_pseudo_variable n ≡ false → kind_in A n ≡ Some b → IsSlot n us (keeps n) b (place_in A n) (slice_get g.locals (place_in A n))

-- fewer uses
slot-less : (n : Name) (us vs : List (UseOf Name)) (s b : Bool) (k : ℕ) (o : Option StandIn) → (list_any (is_captured text_eq n) us ≡ false → list_any (is_captured text_eq n) vs ≡ false) → (list_any (is_set n) us ≡ false → list_any (is_set n) vs ≡ false) → IsSlot n us s b k o → IsSlot n vs s b k o
slot-less n us vs _ _ _ _ p q slot_argument = slot_argument
slot-less n us vs _ _ _ _ p q slot_shared = slot_shared
slot-less n us vs _ _ _ _ p q (slot_steady e) = slot_steady (p e)
slot-less n us vs _ _ _ _ p q (slot_far e) = slot_far (q e)

pub less-slots : (keeps : Name → Bool) (g : Context) (A : List Declared) (us vs : List (UseOf Name)) → IsLess us vs → HasSlots keeps g A us → HasSlots keeps g A vs
less-slots keeps g A us vs l h = λ n b p e. slot-less n us vs (keeps n) b (place_in A n) (slice_get g.locals (place_in A n)) (l (is_captured text_eq n)) (l (is_set n)) (h n b p e)

-- in a closure, and outside it again
slot-far : (n : Name) (us : List (UseOf Name)) (s b : Bool) (k : ℕ) (o : Option StandIn) → IsSlot n (map enclosed us) s b k o → IsSlot n us s b k (option_map farther o)
slot-far n us _ _ _ _ slot_argument = slot_argument
slot-far n us _ _ _ _ slot_shared = slot_shared
slot-far n us _ _ _ _ (slot_steady e) = slot_far (captured-inside n us e)
slot-far n us _ _ _ _ (slot_far e) = slot_far (set-inside n us e)

pub closure-slots : (keeps : Name → Bool) (g : Context) (A : List Declared) (us : List (UseOf Name)) → HasSlots keeps g A (map enclosed us) → HasSlots keeps (in_closure g) A us
closure-slots keeps g A us h = λ n b p e. subst (IsSlot n us (keeps n) b (place_in A n)) (sym (slice_get-map farther g.locals (place_in A n))) (slot-far n us (keeps n) b (place_in A n) (slice_get g.locals (place_in A n)) (h n b p e))

pub nearer-slots : (keeps : Name → Bool) (g : Context) (A : List Declared) (us : List (UseOf Name)) → HasSlots keeps g A (map enclosed us) → HasSlots keeps g A us
nearer-slots keeps g A us h = λ n b p e. slot-less n (map enclosed us) us (keeps n) b (place_in A n) (slice_get g.locals (place_in A n)) (λ q. captured-set n us (captured-inside n us q)) (set-inside n us) (h n b p e)

-- what stands for declarations at their places, where `keeps` says which temporaries are steady
abbrev one_local : Bool → Bool → ℕ → StandIn
one_local false s k = an_argument k
one_local true true k = a_steady k
one_local true false k = a_temporary k

abbrev own_locals : (Name → Bool) → List Declared → ℕ → List StandIn
own_locals keeps [] k = []
own_locals keeps (d ∷ env) k = one_local d.is_temporary (keeps d.name) k ∷ own_locals keeps env (suc k)

-- the modes of temporaries
abbrev pub modes_of : (Name → Bool) → List Name → List Mode
modes_of keeps ts = map (λ t. if keeps t then steady else shared) ts

pub modes-count : (keeps : Name → Bool) (ts : List Name) → length (modes_of keeps ts) ≡ length ts
modes-count keeps [] = refl
modes-count keeps (t ∷ ts) = ap suc (modes-count keeps ts)

pub modes-staying : (keeps : Name → Bool) (ts : List Name) → staying (modes_of keeps ts) ≡ length ts
modes-staying keeps [] = refl
modes-staying keeps (t ∷ ts) = by (keeps t) (modes-staying keeps ts)
  where
    by : (b : Bool) → staying (modes_of keeps ts) ≡ length ts → staying ((if b then steady else shared) ∷ modes_of keeps ts) ≡ suc (length ts)
    by true e = ap suc e
    by false e = ap suc e

pub modes-plain : (ts : List Name) → modes_of (λ n. false) ts ≡ replicate (length ts) shared
modes-plain [] = refl
modes-plain (t ∷ ts) = ap (λ l. shared ∷ l) (modes-plain ts)

own-append : (keeps : Name → Bool) (xs ys : List Declared) (k : ℕ) → own_locals keeps (xs ++ ys) k ≡ own_locals keeps xs k ++ own_locals keeps ys (length xs + k)
own-append keeps [] ys k = ap (own_locals keeps ys) (none k)
  where
    none : (k : ℕ) → k ≡ 0 + k
    none k = omega arith
own-append keeps (x ∷ xs) ys k = ap (λ l. one_local x.is_temporary (keeps x.name) k ∷ l) (own-append keeps xs ys (suc k) ∙ ap (λ n. own_locals keeps xs (suc k) ++ own_locals keeps ys n) (next (length xs) k))
  where
    next : (n k : ℕ) → n + suc k ≡ suc n + k
    next n k = omega arith

own-arguments : (keeps : Name → Bool) (ps : List Name) (k : ℕ) → own_locals keeps (map as_argument ps) k ≡ arguments_from (length ps) k
own-arguments keeps [] k = refl
own-arguments keeps (p ∷ ps) k = ap (λ l. an_argument k ∷ l) (own-arguments keeps ps (suc k))

own-temporaries : (keeps : Name → Bool) (ts : List Name) (k : ℕ) → own_locals keeps (map as_temporary ts ++ []) k ≡ temporaries_from (modes_of keeps ts) k
own-temporaries keeps [] k = refl
own-temporaries keeps (t ∷ ts) k = by (keeps t) (own-temporaries keeps ts (suc k))
  where
    by : (b : Bool) → own_locals keeps (map as_temporary ts ++ []) (suc k) ≡ temporaries_from (modes_of keeps ts) (suc k) → one_local true b k ∷ own_locals keeps (map as_temporary ts ++ []) (suc k) ≡ temporaries_from ((if b then steady else shared) ∷ modes_of keeps ts) k
    by true e = ap (λ l. a_steady k ∷ l) e
    by false e = ap (λ l. a_temporary k ∷ l) e

length-made : (make : Name → Declared) (ns : List Name) → length (map make ns) ≡ length ns
length-made make [] = refl
length-made make (n ∷ ns) = ap suc (length-made make ns)

-- those of a scope
own-opened : (keeps : Name → Bool) (ps ts : List Name) → own_locals keeps (opened ps ts []) 0 ≡ arguments_from (length ps) 0 ++ temporaries_from (modes_of keeps ts) (length ps)
own-opened keeps ps ts =
    own-append keeps (map as_argument ps) (map as_temporary ts ++ []) 0
    ∙ (λ j. own-arguments keeps ps 0 j ++ own_locals keeps (map as_temporary ts ++ []) ((ap (λ n. n + 0) (length-made as_argument ps) ∙ zero-off (length ps)) j))
    ∙ ap (λ l. arguments_from (length ps) 0 ++ l) (own-temporaries keeps ts (length ps))
  where
    zero-off : (n : ℕ) → n + 0 ≡ n
    zero-off n = omega arith

own-count : (keeps : Name → Bool) (env : List Declared) (k : ℕ) → length (own_locals keeps env k) ≡ length env
own-count keeps [] k = refl
own-count keeps (d ∷ env) k = ap suc (own-count keeps env (suc k))

opened-length : (ps ts : List Name) → length (opened ps ts []) ≡ length ps + length ts
opened-length [] ts = temporaries ts
  where
    temporaries : (ts : List Name) → length (map as_temporary ts ++ []) ≡ 0 + length ts
    temporaries [] = refl
    temporaries (t ∷ ts) = ap suc (temporaries ts) ∙ next (length ts)
      where
        next : (k : ℕ) → suc (0 + k) ≡ 0 + suc k
        next k = omega arith
opened-length (p ∷ ps) ts = ap suc (opened-length ps ts) ∙ next (length ps) (length ts)
  where
    next : (a b : ℕ) → suc (a + b) ≡ suc a + b
    next a b = omega arith

-- the declaration of a name stands at its place
own-at : (keeps : Name → Bool) (env : List Declared) (n : Name) (b : Bool) (k : ℕ) → kind_in env n ≡ Some b → slice_get (own_locals keeps env k) (place_in env n) ≡ Some (one_local b (keeps n) (k + place_in env n))
own-at keeps [] n b k e = absurd (cc)
own-at keeps (d ∷ env) n b k e = by (own-at keeps env n b (suc k)) (text_eq n d.name) refl e
  where
    next : (k p : ℕ) → suc k + p ≡ k + (1 + p)
    next k p = omega arith

    zero-off : (n : ℕ) → n ≡ n + 0
    zero-off n = omega arith

    some : {x y : Bool} → Some x ≡ Some y → x ≡ y
    some z = cc

    by : (kind_in env n ≡ Some b → slice_get (own_locals keeps env (suc k)) (place_in env n) ≡ Some (one_local b (keeps n) (suc k + place_in env n))) → (c : Bool) → text_eq n d.name ≡ c →
        option_map (λ (d : Declared). d.is_temporary) (cond c (Some d) (find (λ (d : Declared). text_eq n d.name) env)) ≡ Some b →
        slice_get (own_locals keeps (d ∷ env) k) (cond (not c) (1 + place_in env n) 0) ≡ Some (one_local b (keeps n) (k + cond (not c) (1 + place_in env n) 0))
    by ih true t q = λ j. Some (one_local (some q j) (keeps (sym (text-same n d.name t) j)) (zero-off k j))
    by ih false t q = ap (slice_get (own_locals keeps (d ∷ env) k)) (one-add (place_in env n)) ∙ ih q ∙ ap (λ x. Some (one_local b (keeps n) x)) (next k (place_in env n))

-- whether a name is one of a temporary that closures do not assign, in a scope that declares it or else outside
abbrev pub kept_by : Option Bool → Bool → Bool → Bool
kept_by (Some true) own outer = own
kept_by (Some false) own outer = false
kept_by None own outer = outer

-- inside a scope
slot-own : (n : Name) (us : List (UseOf Name)) (b s : Bool) (k : ℕ) → (s ≡ true → list_any (is_captured text_eq n) us ≡ false) → (outer : Bool) → IsSlot n us (kept_by (Some b) s outer) b k (Some (one_local b s k))
slot-own n us false s k h outer = slot_argument
slot-own n us true true k h outer = slot_steady (h refl)
slot-own n us true false k h outer = slot_shared

slot-moved : (n : Name) (us : List (UseOf Name)) (s b : Bool) (k N : ℕ) (o : Option StandIn) → IsSlot n us s b k o → IsSlot n us s b (N + k) (option_map (moved N) o)
slot-moved n us _ _ _ N _ slot_argument = slot_argument
slot-moved n us _ _ _ N _ slot_shared = slot_shared
slot-moved n us _ _ _ N _ (slot_steady e) = slot_steady e
slot-moved n us _ _ _ N _ (slot_far e) = slot_far e

module _ (own keeps : Name → Bool) (ps ts : List Name) (g : Context) (A : List Declared) (us : List (UseOf Name)) where
  abbrev front : List StandIn
  front = arguments_from (length ps) 0 ++ temporaries_from (modes_of own ts) (length ps)

  front-count : length front ≡ length (opened ps ts [])
  front-count = ap length (sym (own-opened own ps ts)) ∙ own-count own (opened ps ts []) 0

  behind-count : length ps + staying (modes_of own ts) ≡ length (opened ps ts [])
  behind-count = ap (λ k. length ps + k) (modes-staying own ts) ∙ sym (opened-length ps ts)

  -- the keeping of names inside the scope
  abbrev inner_keeps : Name → Bool
  inner_keeps n = kept_by (kind_in (opened ps ts []) n) (own n) (keeps n)

  slots-by : (n : Name) (b : Bool) (o : Option Bool) → kind_in (opened ps ts []) n ≡ o → (own n ≡ true → list_any (is_captured text_eq n) us ≡ false) → (kind_in A n ≡ Some b → IsSlot n (filter (is_use_outside ps ts) us) (keeps n) b (place_in A n) (slice_get g.locals (place_in A n))) →
      kind_in (opened ps ts [] ++ A) n ≡ Some b → IsSlot n us (kept_by o (own n) (keeps n)) b (place_in (opened ps ts [] ++ A) n) (slice_get (front ++ map (moved (length ps + staying (modes_of own ts))) g.locals) (place_in (opened ps ts [] ++ A) n))
  slots-by n b (Some c) e fits h k =
      let first = kind-first (opened ps ts []) A n c e in
      let there : slice_get (front ++ map (moved (length ps + staying (modes_of own ts))) g.locals) (place_in (opened ps ts []) n) ≡ Some (one_local c (own n) (place_in (opened ps ts []) n)) =
      slice_get-front front (map (moved (length ps + staying (modes_of own ts))) g.locals) (place_in (opened ps ts []) n) (one_local c (own n) (place_in (opened ps ts []) n))
      (ap (λ l. slice_get l (place_in (opened ps ts []) n)) (sym (own-opened own ps ts)) ∙ own-at own (opened ps ts []) n c 0 e ∙ ap (λ j. Some (one_local c (own n) j)) (none (place_in (opened ps ts []) n))) in
      subst (λ d. IsSlot n us (kept_by (Some c) (own n) (keeps n)) d (place_in (opened ps ts [] ++ A) n) (slice_get (front ++ map (moved (length ps + staying (modes_of own ts))) g.locals) (place_in (opened ps ts [] ++ A) n))) (some (sym first.0 ∙ k))
      (subst (λ p. IsSlot n us (kept_by (Some c) (own n) (keeps n)) c p (slice_get (front ++ map (moved (length ps + staying (modes_of own ts))) g.locals) p)) (sym first.1)
      (subst (IsSlot n us (kept_by (Some c) (own n) (keeps n)) c (place_in (opened ps ts []) n)) (sym there) (slot-own n us c (own n) (place_in (opened ps ts []) n) fits (keeps n))))
    where
      some : {x y : Bool} → Some x ≡ Some y → x ≡ y
      some z = cc

      none : (k : ℕ) → 0 + k ≡ k
      none k = omega arith
  slots-by n b None e fits h k =
      let behind = kind-behind (opened ps ts []) A n e in
      let N = length (opened ps ts []) in
      subst (λ p. IsSlot n us (keeps n) b p (slice_get (front ++ map (moved (length ps + staying (modes_of own ts))) g.locals) p)) (sym behind.1)
      (subst (IsSlot n us (keeps n) b (length (opened ps ts []) + place_in A n))
      (sym (get-behind front (map (moved (length ps + staying (modes_of own ts))) g.locals) (length (opened ps ts [])) (place_in A n) front-count ∙ slice_get-map (moved (length ps + staying (modes_of own ts))) g.locals (place_in A n) ∙ ap (λ j. option_map (moved j) (slice_get g.locals (place_in A n))) behind-count))
      (slot-moved n us (keeps n) b (place_in A n) (length (opened ps ts [])) (slice_get g.locals (place_in A n))
      (slot-less n (filter (is_use_outside ps ts) us) us (keeps n) b (place_in A n) (slice_get g.locals (place_in A n)) (outside-block ps ts n (is_captured text_eq n) us e (captured-named n)) (outside-block ps ts n (is_set n) us e (set-named n)) (h (sym behind.0 ∙ k)))))

  pub scope-slots : ((n : Name) → own n ≡ true → list_any (is_captured text_eq n) us ≡ false) → HasSlots keeps g A (filter (is_use_outside ps ts) us) →
      HasSlots (λ n. kept_by (kind_in (opened ps ts []) n) (own n) (keeps n)) (scoped (length ps) (modes_of own ts) g) (opened ps ts A) us
  scope-slots fits h = λ n b p k.
      subst (λ C. IsSlot n us (kept_by (kind_in (opened ps ts []) n) (own n) (keeps n)) b (place_in C n) (slice_get (front ++ map (moved (length ps + staying (modes_of own ts))) g.locals) (place_in C n))) (sym (opened-append ps ts [] A))
      (slots-by n b (kind_in (opened ps ts []) n) refl (fits n) (h n b p) (ap (λ C. kind_in C n) (sym (opened-append ps ts [] A)) ∙ k))
