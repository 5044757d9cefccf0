-- Acts of which the second does what the first does, but for ticks, and goes on where the first stops for want of depth; closures are paired.
use Rattle.std.proofs.Common.{◌≡◌, ℕ, zero, suc, List, [], ◌∷◌, ◌++◌, Option, Some, None, refl, sym, ap, ◌∙◌, subst, append_assoc}
use Rattle.std.specs.Prelude.{slice_get}
use Rattle.std.specs.List.{AllZip}
use Rattle.std.proofs.lemmas.List.{append-nil}
use Rattle.std.proofs.lemmas.List.Elements.{AllZip-push, length_all_zip}
use Rattle.run_model.specs.Values.{Value, Event, RunError, closure_value}
use Rattle.run_model.specs.Store.{Memory}
use Rattle.run_model.specs.Prefixes.{IsPrefixOf}
use Rattle.trace_model.specs.Traces.{Step, wants, told, End, gave, returned, failed_by, stopped, Trace, end_of_home, traces}
use Rattle.resolved_model.specs.ResolvedActs.{ResolvedClosure}
use Rattle.resolved_traces.specs.ResolvedTraces.{TracedAct, traced, goes_on_traced, then_traced, home_traced, looks_traced, keeps_traced}
use Rattle.resolved_traces.specs.WholeTraces.{told_in}
use Rattle.resolved_traces.proofs.Deeper.{prefix-trans}

-- the events of steps and further steps
pub told-append : (ss ts : List Step) → told_in (ss ++ ts) ≡ told_in ss ++ told_in ts
told-append [] ts = refl
told-append (told e ∷ ss) ts = ap (λ l. e ∷ l) (told-append ss ts)
told-append (wants n ∷ ss) ts = told-append ss ts

-- a list begins with what is equal to it
pub equal-prefix : (es fs : List Event) → fs ≡ es → IsPrefixOf es fs
equal-prefix es fs e = ([], append-nil es ∙ sym e)

-- two acts that are one but for ticks
pub record IsSame {A : Type 0} (act act' : TracedAct A) : Type 0 where
  pub so : (cs : List ResolvedClosure) (m : Memory) →
      (told_in (act' cs m).0.steps ≡ told_in (act cs m).0.steps) × ((act' cs m).0.end ≡ (act cs m).0.end) × ((act' cs m).1 ≡ (act cs m).1)

-- by which closures are paired
module _ (Pair : ResolvedClosure → ResolvedClosure → Type 0) where
  -- a trace of which another does the same, or goes on where it stops
  abbrev pub WithinAt : {A : Type 0} → List Step → End A → List ResolvedClosure → Trace A × List ResolvedClosure → Type 0
  WithinAt ss (gave a m) cs y = (told_in y.0.steps ≡ told_in ss) × (y.0.end ≡ gave a m) × AllZip Pair cs y.1
  WithinAt ss (returned h v m) cs y = (told_in y.0.steps ≡ told_in ss) × (y.0.end ≡ returned h v m) × AllZip Pair cs y.1
  WithinAt ss (failed_by e m) cs y = (told_in y.0.steps ≡ told_in ss) × (y.0.end ≡ failed_by e m) × AllZip Pair cs y.1
  WithinAt ss (stopped m) cs y = IsPrefixOf (told_in ss) (told_in y.0.steps)

  -- two acts
  pub record Within {A : Type 0} (act act' : TracedAct A) : Type 0 where
    pub so : (cs cs' : List ResolvedClosure) (m : Memory) → AllZip Pair cs cs' → WithinAt (act cs m).0.steps (act cs m).0.end (act cs m).1 (act' cs' m)

  -- the same events and the same end
  all-at : {A : Type 0} (ss : List Step) (e : End A) (cs : List ResolvedClosure) (y : Trace A × List ResolvedClosure) → told_in y.0.steps ≡ told_in ss → y.0.end ≡ e → AllZip Pair cs y.1 → WithinAt ss e cs y
  all-at ss (gave a m) cs y t p z = (t, p, z)
  all-at ss (returned h v m) cs y t p z = (t, p, z)
  all-at ss (failed_by e m) cs y t p z = (t, p, z)
  all-at ss (stopped m) cs y t p z = equal-prefix _ _ t

  -- behind further steps
  behind-at : {A : Type 0} (ss ss' xs : List Step) (e : End A) (cs : List ResolvedClosure) (ys : List Step) (e' : End A) (cs' : List ResolvedClosure) → told_in ss' ≡ told_in ss →
      WithinAt xs e cs (record { steps = ys; end = e' }, cs') → WithinAt (ss ++ xs) e cs (record { steps = ss' ++ ys; end = e' }, cs')
  behind-at ss ss' xs (gave a m) cs ys e' cs' t p = (told-append ss' ys ∙ (λ i. t i ++ p.0 i) ∙ sym (told-append ss xs), p.1, p.2)
  behind-at ss ss' xs (returned h v m) cs ys e' cs' t p = (told-append ss' ys ∙ (λ i. t i ++ p.0 i) ∙ sym (told-append ss xs), p.1, p.2)
  behind-at ss ss' xs (failed_by e m) cs ys e' cs' t p = (told-append ss' ys ∙ (λ i. t i ++ p.0 i) ∙ sym (told-append ss xs), p.1, p.2)
  behind-at ss ss' xs (stopped m) cs ys e' cs' t p =
      (p.0, ap (λ l. l ++ p.0) (told-append ss xs) ∙ append_assoc (told_in ss) (told_in xs) p.0 ∙ (λ i. sym t i ++ p.1 i) ∙ sym (told-append ss' ys))

  -- what was told is told first
  going-tells : {A B : Type 0} (ss : List Step) (e : End A) (cs : List ResolvedClosure) (go : A → TracedAct B) → IsPrefixOf (told_in ss) (told_in (goes_on_traced ss e cs go).0.steps)
  going-tells ss (gave a m) cs go = (told_in (go a cs m).0.steps, sym (told-append ss (go a cs m).0.steps))
  going-tells ss (returned h v m) cs go = equal-prefix _ _ refl
  going-tells ss (failed_by e m) cs go = equal-prefix _ _ refl
  going-tells ss (stopped m) cs go = equal-prefix _ _ refl

  -- going on
  on-within : {A B : Type 0} (ss : List Step) (e : End A) (cs : List ResolvedClosure) (go : A → TracedAct B) (ys : List Step) (e' : End A) (cs' : List ResolvedClosure) (go' : A → TracedAct B) →
      WithinAt ss e cs (record { steps = ys; end = e' }, cs') → ((a : A) → Within (go a) (go' a)) →
      WithinAt (goes_on_traced ss e cs go).0.steps (goes_on_traced ss e cs go).0.end (goes_on_traced ss e cs go).1 (goes_on_traced ys e' cs' go')
  on-within ss (gave a m) cs go ys e' cs' go' p h =
      subst (λ x. WithinAt (ss ++ (go a cs m).0.steps) (go a cs m).0.end (go a cs m).1 (goes_on_traced ys x cs' go')) (sym p.1)
      (behind-at ss ys (go a cs m).0.steps (go a cs m).0.end (go a cs m).1 (go' a cs' m).0.steps (go' a cs' m).0.end (go' a cs' m).1 p.0 ((h a).so cs cs' m p.2))
  on-within ss (returned k v m) cs go ys e' cs' go' p h =
      subst (λ x. WithinAt ss (returned k v m) cs (goes_on_traced ys x cs' go')) (sym p.1) (p.0, refl, p.2)
  on-within ss (failed_by x m) cs go ys e' cs' go' p h =
      subst (λ y. WithinAt ss (failed_by x m) cs (goes_on_traced ys y cs' go')) (sym p.1) (p.0, refl, p.2)
  on-within ss (stopped m) cs go ys e' cs' go' p h = prefix-trans _ _ _ p (going-tells ys e' cs' go')

  pub then-within : {A B : Type 0} (act act' : TracedAct A) (go go' : A → TracedAct B) → Within act act' → ((a : A) → Within (go a) (go' a)) → Within (then_traced act go) (then_traced act' go')
  unfolding then_traced
  then-within act act' go go' p h = record {
    so = λ cs cs' m z.
        on-within (act cs m).0.steps (act cs m).0.end (act cs m).1 go (act' cs' m).0.steps (act' cs' m).0.end (act' cs' m).1 go' (p.so cs cs' m z) h;
  }

  -- giving
  pub gives-within : {A : Type 0} (a : A) → Within (traced (traces.gives a)) (traced (traces.gives a))
  unfolding traced
  gives-within a = record { so = λ cs cs' m z. (refl, refl, z) }

  -- failing
  pub fails-within : (A : Type 0) (e : RunError) → Within {A = A} (traced (traces.fails e)) (traced (traces.fails e))
  unfolding traced
  fails-within A e = record { so = λ cs cs' m z. (refl, refl, z) }

  -- returning
  pub returns-within : (A : Type 0) (h : ℕ) (v : Value) → Within {A = A} (traced (traces.goes_home h v)) (traced (traces.goes_home h v))
  unfolding traced
  returns-within A h v = record { so = λ cs cs' m z. (refl, refl, z) }

  -- leaving off for want of depth, whatever the other does
  pub stops-within : {A : Type 0} (act : TracedAct A) → Within (traced traces.stops) act
  unfolding traced
  stops-within act = record { so = λ cs cs' m z. (told_in (act cs' m).0.steps, refl) }

  pub stops_then-within : {A B : Type 0} (go : A → TracedAct B) (act : TracedAct B) → Within (then_traced (traced traces.stops) go) act
  unfolding then_traced traced
  stops_then-within go act = record { so = λ cs cs' m z. (told_in (act cs' m).0.steps, refl) }

  -- telling an event
  pub tells-within : {A : Type 0} (e : Event) (a : A) → Within (traced (traces.tells e a)) (traced (traces.tells e a))
  unfolding traced
  tells-within e a = record { so = λ cs cs' m z. (refl, refl, z) }

  -- wanting ticks
  pub pays-within : {A : Type 0} (n : ℕ) (a : A) → Within (traced (traces.pays n a)) (traced (traces.pays n a))
  unfolding traced
  pays-within n a = record { so = λ cs cs' m z. (refl, refl, z) }

  -- reading and changing the memory
  pub memory-within : {A : Type 0} (f : Memory → A × Memory) → Within (traced (traces.with_memory f)) (traced (traces.with_memory f))
  unfolding traced
  memory-within f = record { so = λ cs cs' m z. (refl, refl, z) }

  -- what is read from closures and memory, and what follows on it
  pub looks-within : {A B : Type 0} (f : List ResolvedClosure → Memory → A) (go go' : A → TracedAct B) →
      ((cs cs' : List ResolvedClosure) (m : Memory) → AllZip Pair cs cs' → WithinAt (go (f cs m) cs m).0.steps (go (f cs m) cs m).0.end (go (f cs m) cs m).1 (go' (f cs' m) cs' m)) →
      Within (then_traced (looks_traced f) go) (then_traced (looks_traced f) go')
  unfolding then_traced looks_traced
  looks-within f go go' h = record { so = h }

  -- keeping closures that are paired
  pub keeps-within : (c c' : ResolvedClosure) → Pair c c' → Within (keeps_traced c) (keeps_traced c')
  unfolding keeps_traced
  keeps-within c c' p = record {
    so = λ cs cs' m z.
        (refl, ap (λ n. gave (closure_value n) m) (sym (length_all_zip Pair cs cs' z)), AllZip-push Pair cs cs' c c' z p);
  }

  -- an act in a home
  home-at : (h : ℕ) (ss : List Step) (e : End Value) (cs : List ResolvedClosure) (ys : List Step) (e' : End Value) (cs' : List ResolvedClosure) → WithinAt ss e cs (record { steps = ys; end = e' }, cs') →
      WithinAt ss (end_of_home h e) cs (record { steps = ys; end = end_of_home h e' }, cs')
  home-at h ss (gave a m) cs ys e' cs' p = (p.0, ap (end_of_home h) p.1, p.2)
  home-at h ss (returned k v m) cs ys e' cs' p = all-at ss (end_of_home h (returned k v m)) cs _ p.0 (ap (end_of_home h) p.1) p.2
  home-at h ss (failed_by x m) cs ys e' cs' p = (p.0, ap (end_of_home h) p.1, p.2)
  home-at h ss (stopped m) cs ys e' cs' p = p

  pub home-within : (h : ℕ) (act act' : TracedAct Value) → Within act act' → Within (home_traced h act) (home_traced h act')
  unfolding home_traced
  home-within h act act' p = record { so = λ cs cs' m z. home-at h (act cs m).0.steps (act cs m).0.end (act cs m).1 (act' cs' m).0.steps (act' cs' m).0.end (act' cs' m).1 (p.so cs cs' m z) }

  -- two closures that there may be
  abbrev pub BothThere : Option ResolvedClosure → Option ResolvedClosure → Type 0
  BothThere None None = Unit {0}
  BothThere None (Some c) = ⊥
  BothThere (Some c) None = ⊥
  BothThere (Some c) (Some c') = Pair c c'

  -- closures of one number are paired
  pub closures-at : (cs cs' : List ResolvedClosure) (k : ℕ) → AllZip Pair cs cs' → BothThere (slice_get cs k) (slice_get cs' k)
  closures-at [] [] k z = tt
  closures-at [] (c ∷ cs') k z = absurd z
  closures-at (c ∷ cs) [] k z = absurd z
  closures-at (c ∷ cs) (c' ∷ cs') zero z = z.0
  closures-at (c ∷ cs) (c' ∷ cs') (suc k) z = closures-at cs cs' k z.1

  -- acts that are the same but for ticks
  same-at : {A : Type 0} (ss ss0 : List Step) (e e0 : End A) (cs cs0 : List ResolvedClosure) (ys ys0 : List Step) (e' e0' : End A) (cs' cs0' : List ResolvedClosure) →
      told_in ss ≡ told_in ss0 → e ≡ e0 → cs ≡ cs0 → told_in ys0 ≡ told_in ys → e0' ≡ e' → cs0' ≡ cs' →
      WithinAt ss e cs (record { steps = ys; end = e' }, cs') → WithinAt ss0 e0 cs0 (record { steps = ys0; end = e0' }, cs0')
  same-at {A} ss ss0 (gave a m) e0 cs cs0 ys ys0 e' e0' cs' cs0' t p q t' p' q' w =
      subst (λ x. WithinAt ss0 x cs0 (record { steps = ys0; end = e0' }, cs0')) p (t' ∙ w.0 ∙ t, p' ∙ w.1, subst (λ x. AllZip Pair x cs0') q (subst (λ x. AllZip Pair cs x) (sym q') w.2))
  same-at ss ss0 (returned h v m) e0 cs cs0 ys ys0 e' e0' cs' cs0' t p q t' p' q' w =
      subst (λ x. WithinAt ss0 x cs0 (record { steps = ys0; end = e0' }, cs0')) p (t' ∙ w.0 ∙ t, p' ∙ w.1, subst (λ x. AllZip Pair x cs0') q (subst (λ x. AllZip Pair cs x) (sym q') w.2))
  same-at ss ss0 (failed_by x m) e0 cs cs0 ys ys0 e' e0' cs' cs0' t p q t' p' q' w =
      subst (λ x. WithinAt ss0 x cs0 (record { steps = ys0; end = e0' }, cs0')) p (t' ∙ w.0 ∙ t, p' ∙ w.1, subst (λ x. AllZip Pair x cs0') q (subst (λ x. AllZip Pair cs x) (sym q') w.2))
  same-at ss ss0 (stopped m) e0 cs cs0 ys ys0 e' e0' cs' cs0' t p q t' p' q' w =
      subst (λ x. WithinAt ss0 x cs0 (record { steps = ys0; end = e0' }, cs0')) p (w.0, ap (λ l. l ++ w.0) (sym t) ∙ w.1 ∙ sym t')

  -- an act within another, each taken as one that is the same
  pub same-within : {A : Type 0} (act act0 act' act0' : TracedAct A) → IsSame act0 act → IsSame act0' act' → Within act act' → Within act0 act0'
  same-within act act0 act' act0' s s' h = record {
    so = λ cs cs' m z.
        same-at (act cs m).0.steps (act0 cs m).0.steps (act cs m).0.end (act0 cs m).0.end (act cs m).1 (act0 cs m).1
        (act' cs' m).0.steps (act0' cs' m).0.steps (act' cs' m).0.end (act0' cs' m).0.end (act' cs' m).1 (act0' cs' m).1
        (s.so cs m).0 (s.so cs m).1 (s.so cs m).2 (sym (s'.so cs' m).0) (sym (s'.so cs' m).1) (sym (s'.so cs' m).2) (h.so cs cs' m z);
  }
