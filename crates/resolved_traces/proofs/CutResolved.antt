-- The trace of a run of resolved code, cut at its ticks, is the run.
use Rattle.std.proofs.Common.{◌≡◌, ℕ, ◌-◌, List, [], ◌∷◌, ◌++◌, refl, sym, ap, ◌∙◌, subst}
use Rattle.std.specs.Prelude.{Bool, true, false, if◌then◌else◌, nat_eq, nat_le}
use Rattle.run_model.specs.Values.{Value, Event}
use Rattle.run_model.specs.Store.{Memory, Store, start, returns, ends_by, out_of_ticks, Result, fine, leaves, no_memory}
use Rattle.run_model.specs.Acts.{gives, fails, goes_home, with_memory, tells, pays, stops, ended, out_of_home}
use Rattle.run_model.specs.Runs.{seen}
use Rattle.trace_model.specs.Traces.{Step, wants, told, End, gave, returned, failed_by, stopped, cut_at, cut}
use Rattle.trace_model.proofs.Cutting.{cut-home}
use Rattle.resolved_model.specs.ResolvedImages.{ResolvedImage}
use Rattle.resolved_model.specs.ResolvedActs.{ResolvedClosure, ResolvedAct, resolved_acts, beside, goes_on_with, followed_by, in_home, looks_at, keeps}
use Rattle.resolved_model.specs.ResolvedRuns.{runs_all, resolved_run_to}
use Rattle.resolved_traces.specs.ResolvedTraces.{TracedAct, traced, goes_on_traced, then_traced, home_traced, looks_traced, keeps_traced, resolved_traces, resolved_trace}
use Rattle.resolved_traces.proofs.ResolvedCongruence.{IsResolvedCongruence}
use Rattle.resolved_traces.proofs.ResolvedCongruence

-- A result with its closures and a trace with its own that was cut are one, but for the memory and the closures where no ticks are left.
abbrev IsAlike : {A : Type 0} → Result A → List ResolvedClosure → Result A → List ResolvedClosure → Type 0
IsAlike (fine a s) cs r cs' = (r ≡ fine a s) × (cs' ≡ cs)
IsAlike (leaves (returns h v) s) cs r cs' = (r ≡ leaves (returns h v) s) × (cs' ≡ cs)
IsAlike (leaves (ends_by e) s) cs r cs' = (r ≡ leaves (ends_by e) s) × (cs' ≡ cs)
IsAlike {A} (leaves out_of_ticks s) cs r cs' = (m : Memory) × (r ≡ leaves out_of_ticks (record s { memory = m }))

-- an act and a trace of it
abbrev IsTraced : (A : Type 0) → ResolvedAct A → TracedAct A → Type 0
IsTraced A act trace = (cs : List ResolvedClosure) (s : Store) →
    IsAlike (act cs s).0 (act cs s).1 (cut s.ticks s.events (trace cs s.memory).0) (trace cs s.memory).1

-- a trace from a store on, cut, with its closures
abbrev then_cut : {A B : Type 0} → List ResolvedClosure → (A → TracedAct B) → A → Store → Result B
then_cut cs go a s = cut s.ticks s.events (go a cs s.memory).0

-- what follows in a trace that was cut, where closures stay as they are once no ticks are left
abbrev then_do : {A B : Type 0} → Result A → (A → Store → Result B) → Result B
then_do (fine a s) go = go a s
then_do (leaves x s) go = leaves x s

-- by a condition, for both results
if-then_do : {A B : Type 0} (b : Bool) (x y : Result A) (go : A → Store → Result B) (x' y' : Result B) → x' ≡ then_do x go → y' ≡ then_do y go → (if b then x' else y') ≡ then_do (if b then x else y) go
if-then_do true x y go x' y' p q = p
if-then_do false x y go x' y' p q = q

-- going on in a trace and then cutting it is cutting it and then going on
cut-goes_on : {A B : Type 0} (n : ℕ) (es : List Event) (ss : List Step) (e : End A) (cs : List ResolvedClosure) (go : A → TracedAct B) → cut n es (goes_on_traced ss e cs go).0 ≡ then_do (cut_at n es ss e) (then_cut cs go)
cut-goes_on n es [] (gave a m) cs go = refl
cut-goes_on n es [] (returned h v m) cs go = refl
cut-goes_on n es [] (failed_by x m) cs go = refl
cut-goes_on n es [] (stopped m) cs go = refl
cut-goes_on n es (told x ∷ ss) (gave a m) cs go = cut-goes_on n (es ++ x ∷ []) ss (gave a m) cs go
cut-goes_on n es (told x ∷ ss) (returned h v m) cs go = cut-goes_on n (es ++ x ∷ []) ss (returned h v m) cs go
cut-goes_on n es (told x ∷ ss) (failed_by y m) cs go = cut-goes_on n (es ++ x ∷ []) ss (failed_by y m) cs go
cut-goes_on n es (told x ∷ ss) (stopped m) cs go = cut-goes_on n (es ++ x ∷ []) ss (stopped m) cs go
cut-goes_on n es (wants k ∷ ss) (gave a m) cs go = if-then_do (nat_le k n) _ _ _ _ _ (cut-goes_on (n - k) es ss (gave a m) cs go) refl
cut-goes_on n es (wants k ∷ ss) (returned h v m) cs go = if-then_do (nat_le k n) _ _ _ _ _ (cut-goes_on (n - k) es ss (returned h v m) cs go) refl
cut-goes_on n es (wants k ∷ ss) (failed_by y m) cs go = if-then_do (nat_le k n) _ _ _ _ _ (cut-goes_on (n - k) es ss (failed_by y m) cs go) refl
cut-goes_on n es (wants k ∷ ss) (stopped m) cs go = if-then_do (nat_le k n) _ _ _ _ _ (cut-goes_on (n - k) es ss (stopped m) cs go) refl

-- the end that a result came from, where there were ticks
abbrev IsEnd : {A : Type 0} → Result A → End A → Type 0
IsEnd (fine a s) e = e ≡ gave a s.memory
IsEnd (leaves (returns h v) s) e = e ≡ returned h v s.memory
IsEnd (leaves (ends_by x) s) e = e ≡ failed_by x s.memory
IsEnd (leaves out_of_ticks s) e = Unit {0}

-- by a condition
if-end : {A : Type 0} (b : Bool) (x : Result A) (e : End A) (s : Store) → IsEnd x e → IsEnd (if b then x else leaves out_of_ticks s) e
if-end true x e s p = p
if-end false x e s p = tt

-- what is cut came from its end
cut-end : {A : Type 0} (n : ℕ) (es : List Event) (ss : List Step) (e : End A) → IsEnd (cut_at n es ss e) e
cut-end n es [] (gave a m) = refl
cut-end n es [] (returned h v m) = refl
cut-end n es [] (failed_by x m) = refl
cut-end n es [] (stopped m) = tt
cut-end n es (told x ∷ ss) e = cut-end n (es ++ x ∷ []) ss e
cut-end n es (wants k ∷ ss) e = if-end (nat_le k n) _ e _ (cut-end (n - k) es ss e)

-- going on from what is alike
then-alike : {A B : Type 0} (x : Result A) (cs : List ResolvedClosure) (n : ℕ) (es : List Event) (ss : List Step) (e : End A) (cs' : List ResolvedClosure) (go : A → ResolvedAct B) (go' : A → TracedAct B) →
    IsAlike x cs (cut_at n es ss e) cs' → IsEnd (cut_at n es ss e) e → ((a : A) → IsTraced B (go a) (go' a)) →
    IsAlike (goes_on_with x cs go).0 (goes_on_with x cs go).1 (cut n es (goes_on_traced ss e cs' go').0) (goes_on_traced ss e cs' go').1
then-alike {A} {B} (fine a s) cs n es ss e cs' go go' p q f =
    let e-gave : e ≡ gave a s.memory = subst (λ r. IsEnd r e) p.0 q in
    let first : cut n es (goes_on_traced ss e cs' go').0 ≡ cut s.ticks s.events (go' a cs s.memory).0 =
    cut-goes_on n es ss e cs' go' ∙ ap (λ r. then_do r (then_cut cs' go')) p.0 ∙ ap (λ l. cut s.ticks s.events (go' a l s.memory).0) p.1 in
    let second : (goes_on_traced ss e cs' go').1 ≡ (go' a cs s.memory).1 =
    ap (λ x. (goes_on_traced ss x cs' go').1) e-gave ∙ ap (λ l. (go' a l s.memory).1) p.1 in
    subst (λ l. IsAlike (go a cs s).0 (go a cs s).1 (cut n es (goes_on_traced ss e cs' go').0) l) (sym second)
    (subst (λ r. IsAlike (go a cs s).0 (go a cs s).1 r (go' a cs s.memory).1) (sym first) (f a cs s))
then-alike (leaves (returns h v) s) cs n es ss e cs' go go' p q f =
    let e-is : e ≡ returned h v s.memory = subst (λ r. IsEnd r e) p.0 q in
    (cut-goes_on n es ss e cs' go' ∙ ap (λ r. then_do r (then_cut cs' go')) p.0, ap (λ x. (goes_on_traced ss x cs' go').1) e-is ∙ p.1)
then-alike (leaves (ends_by x) s) cs n es ss e cs' go go' p q f =
    let e-is : e ≡ failed_by x s.memory = subst (λ r. IsEnd r e) p.0 q in
    (cut-goes_on n es ss e cs' go' ∙ ap (λ r. then_do r (then_cut cs' go')) p.0, ap (λ x. (goes_on_traced ss x cs' go').1) e-is ∙ p.1)
then-alike (leaves out_of_ticks s) cs n es ss e cs' go go' p q f =
    (p.0, cut-goes_on n es ss e cs' go' ∙ ap (λ r. then_do r (then_cut cs' go')) p.1)

-- a home that a return may leave, in results that are alike
home-alike_by : (h k : ℕ) (v : Value) (s : Store) (cs cs' : List ResolvedClosure) (b : Bool) → cs' ≡ cs →
    IsAlike (if b then fine v (ended h s) else leaves (returns k v) (ended h s)) cs (if b then fine v (ended h s) else leaves (returns k v) (ended h s)) cs'
home-alike_by h k v s cs cs' true p = (refl, p)
home-alike_by h k v s cs cs' false p = (refl, p)

-- what comes out of a home is alike
home-alike : (h : ℕ) (x : Result Value) (cs : List ResolvedClosure) (y : Result Value) (cs' : List ResolvedClosure) → IsAlike x cs y cs' → IsAlike (out_of_home h x) cs (out_of_home h y) cs'
home-alike h (fine v s) cs y cs' p = (ap (out_of_home h) p.0, p.1)
home-alike h (leaves (returns k v) s) cs y cs' p = subst (λ r. IsAlike (out_of_home h (leaves (returns k v) s)) cs (out_of_home h r) cs') (sym p.0) (home-alike_by h k v s cs cs' (nat_eq k h) p.1)
home-alike h (leaves (ends_by e) s) cs y cs' p = (ap (out_of_home h) p.0, p.1)
home-alike h (leaves out_of_ticks s) cs y cs' p = (p.0, ap (out_of_home h) p.1)

-- ticks that are wanted
paid-alike : {A : Type 0} (n : ℕ) (a : A) (cs : List ResolvedClosure) (s : Store) (b : Bool) →
    IsAlike (if b then fine a (record s { ticks = s.ticks - n }) else leaves out_of_ticks (record s { ticks = 0 })) cs
    (if b then fine a (record { memory = s.memory; events = s.events; ticks = s.ticks - n }) else leaves out_of_ticks (record { memory = no_memory; events = s.events; ticks = 0 })) cs
paid-alike n a cs s true = (refl, refl)
paid-alike n a cs s false = (no_memory, refl)

-- each operation has its trace
is_traced : IsResolvedCongruence resolved_acts resolved_traces IsTraced
unfolding gives fails goes_home with_memory tells pays beside followed_by in_home looks_at keeps traced then_traced home_traced looks_traced keeps_traced
is_traced = record {
  plain = record {
    given = λ A a cs s. (refl, refl);
    failed = λ A e cs s. (refl, refl);
    returned = λ A h v cs s. (refl, refl);
    chained = λ A B m m' go go' p q cs s.
        then-alike (m cs s).0 (m cs s).1 s.ticks s.events (m' cs s.memory).0.steps (m' cs s.memory).0.end (m' cs s.memory).1 go go' (p cs s)
        (cut-end s.ticks s.events (m' cs s.memory).0.steps (m' cs s.memory).0.end) q;
    remembered = λ A f cs s. (refl, refl);
    told = λ A e a cs s. (refl, refl);
    paid = λ A n a cs s. paid-alike n a cs s (nat_le n s.ticks);
    homed = λ h m m' p cs s.
        subst (λ r. IsAlike (out_of_home h (m cs s).0) (m cs s).1 r (m' cs s.memory).1) (sym (cut-home s.ticks s.events (m' cs s.memory).0.steps (m' cs s.memory).0.end h))
        (home-alike h (m cs s).0 (m cs s).1 _ (m' cs s.memory).1 (p cs s));
  };
  looked = λ A f cs s. (refl, refl);
  kept = λ c cs s. (refl, refl);
}

-- want of depth has its trace
stops-traced : IsTraced Value resolved_acts.plain.stops resolved_traces.plain.stops
unfolding stops beside traced
stops-traced cs s = (s.memory, refl)

-- what is seen of results that are alike is one
seen-alike : (n : ℕ) (x : Result Value) (cs : List ResolvedClosure) (y : Result Value) (cs' : List ResolvedClosure) → IsAlike x cs y cs' → seen n y ≡ seen n x
seen-alike n (fine v s) cs y cs' p = ap (seen n) p.0
seen-alike n (leaves (returns h v) s) cs y cs' p = ap (seen n) p.0
seen-alike n (leaves (ends_by e) s) cs y cs' p = ap (seen n) p.0
seen-alike n (leaves out_of_ticks s) cs y cs' p = ap (seen n) p.1

-- the trace with so much depth, cut at the ticks, is the run with this depth
pub resolved_run_to-trace : (i : ResolvedImage) (d n : ℕ) → seen n (cut n [] (resolved_trace i d)) ≡ resolved_run_to i d n
resolved_run_to-trace i d n =
    seen-alike n (runs_all resolved_acts i d [] (start n)).0 (runs_all resolved_acts i d [] (start n)).1 _ _
    (ResolvedCongruence.runs_all-Rel resolved_acts resolved_traces IsTraced is_traced stops-traced i d [] (start n))
